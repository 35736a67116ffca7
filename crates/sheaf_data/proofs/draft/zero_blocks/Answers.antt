use Rattle.sheaf_data.proofs.Drafts.{zero_blocks-next}
use Rattle.sheaf_data.proofs.draft.zero_blocks.Goals as goal

pub loop-place-preserved : goal.loop-place-preserved
loop-place-preserved c =
    rw c.in_ok-push.ensures.items (zero_blocks-next c.args.c.now.faces c.args.stalks.now c.loop-place.blocks.items
    c.loop-place.place c.face_at.result c.in_ok-zero_block.field-0
    c.loop-place.invariant c.face_at.ensures c.in_ok-zero_block.ensures.shape c.in_ok-zero_block.ensures.zero)
