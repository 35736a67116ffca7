use Rattle.sheaf_data.proofs.Drafts.{zero_blocks-fit}
use Rattle.sheaf_data.proofs.draft.Draft.new.Goals as goal

pub invariant_of-result : goal.invariant_of-result
invariant_of-result g c =
    let K = g.F.Scalars.ops c.args.field in
    rw (c.of.ensures, c.of-2.ensures, c.in_ok-stalks.ensures.items) (record {
      stalks_fit = c.requires;
      blocks_fit = zero_blocks-fit K (g.met.F.Scalars.is_field c.args.field) c.args.complex.faces c.args.stalks.now
          c.in_ok-blocks.blocks.items c.in_ok-blocks.ensures;
    })
