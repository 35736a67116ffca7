-- The next face and its block, and where they stand.
use Rattle.std.proofs.Common.{◌≡◌, ℕ, sym, ap, ◌∙◌, subst}
use Rattle.std.proofs.lemmas.Result.{on_ok_weaker}
use Rattle.dense_blocks.specs.Blocks.{matrix_of}
use Rattle.dense_blocks.specs.BlockFacts.{IsBlock}
use Rattle.sheaf_data.specs.Sheaves.{SheafData}
use Rattle.sheaf_data.specs.Betti.{signed_matrix}
use Rattle.block_sparse.specs.StoredBlocks.{FitsPair, block_at}
use Rattle.block_sparse.specs.Lists.{with_block}
use Rattle.coboundary.proofs.PutLaws.{next_face, next-as_block, next-fits}
use Rattle.coboundary.proofs.StartLaws.{first-put-more, first-put-empty}
use Rattle.coboundary.proofs.start.put_face.Goals as goal

pub returns-then-len-eq0-clause-next : goal.returns-then-len-eq0-clause-next
returns-then-len-eq0-clause-next g c =
    let d = c.args.draft.now in
    let K = g.F.Scalars.ops d.field in
    let f = c.face_at-face.result in
    let b = c.index-as_slice-place.result in
    let next = next_face g.F.Scalars.ops _ d c.args.place f b c.as_slice.result.now c.draft.view_is c.draft.invariant
    c.face_at-face.ensures c.as_slice.ensures
    c.index-as_slice-place.is c.requires.face in
    first-put-empty K d.complex d.blocks c.args.place f b c.requires.complex.apart next.face_is next.block_is
    (block_at c.args.blocks.now) c.requires.first
    (next-as_block K (g.met.F.Scalars.is_field d.field) d c.requires.complex c.args.place f b next (sym c.len.ensures
    ∙ c.if-len-eq0.true))

pub put-requires : goal.put-requires
put-requires g c =
    let d = c.args.draft.now in
    let K = g.F.Scalars.ops d.field in
    let f = c.face_at-face.result in
    let b = c.index-as_slice-place.result in
    let next = next_face g.F.Scalars.ops _ d c.args.place f b c.as_slice.result.now c.draft.view_is c.draft.invariant
    c.face_at-face.ensures c.as_slice.ensures
    c.index-as_slice-place.is c.requires.face in
    let is = subst (λ (x : SheafData g.row.F.Denot). IsBlock c.in_ok-block.block b.rows b.cols
    (signed_matrix (g.F.Scalars.ops x.field) f.sign (matrix_of b)))
    c.draft.view_is c.in_ok-block.ensures in
    subst (λ live. FitsPair live f.s f.t c.in_ok-block.block) (sym c.requires.live)
    (next-fits K (g.met.F.Scalars.is_field d.field) d c.requires.complex c.args.place f b next c.in_ok-block.block is
    (λ e. c.if-len-eq0.false (c.len.ensures ∙ e)))

pub returns-clause-next : goal.returns-clause-next
returns-clause-next g c =
    let d = c.args.draft.now in
    let K = g.F.Scalars.ops d.field in
    let f = c.face_at-face.result in
    let b = c.index-as_slice-place.result in
    let next = next_face g.F.Scalars.ops _ d c.args.place f b c.as_slice.result.now c.draft.view_is c.draft.invariant
    c.face_at-face.ensures c.as_slice.ensures
    c.index-as_slice-place.is c.requires.face in
    let is = subst (λ (x : SheafData g.row.F.Denot). IsBlock c.in_ok-block.block b.rows b.cols
    (signed_matrix (g.F.Scalars.ops x.field) f.sign (matrix_of b)))
    c.draft.view_is c.in_ok-block.ensures in
    let new = block_at c.put.new.blocks in
    let old = block_at c.args.blocks.now in
    on_ok_weaker c.put.result
    (λ (put : (s t : ℕ) → new s t ≡ with_block old f.s f.t (matrix_of c.in_ok-block.block) s t).
    first-put-more K d.complex d.blocks c.args.place f b c.requires.complex.apart next.face_is next.block_is old
    c.requires.first new
    (λ s t. put s t ∙ ap (λ A. with_block old f.s f.t A s t) is.matrix_is))
    c.put.ensures.blocks
