-- The live cells, and all faces put.
use Rattle.std.proofs.Common.{◌≡◌, length, sym, ap, ◌∙◌, subst, arith}
use Rattle.cell_complex.specs.Invariants.{AreCells, IsComplex}
use Rattle.sheaf_data.specs.Sheaves.{SheafData, IsSheaf}
use Rattle.sheaf_data.specs.Drafts.{AreStalks}
use Rattle.block_sparse.specs.StoredBlocks.{block_at, AreLive}
use Rattle.coboundary.specs.Put.{AreFirstPut, IsStart}
use Rattle.coboundary.proofs.LiveLaws.{live_cells-live}
use Rattle.coboundary.proofs.StartLaws.{first-put-all}
use Rattle.coboundary.proofs.StoredStart.{stored-start}
use Rattle.coboundary.proofs.start.full.Goals as goal

pub of_cells-requires : goal.of_cells-requires
of_cells-requires g c =
    let dims = c.dims.result.now in
    let stalks = c.as_slice.result.now in
    let cells : AreCells dims = subst AreCells (sym c.dims.ensures.dims) c.dims.ensures.complex.small in
    let sizes : AreStalks dims stalks =
    subst (λ x. AreStalks x stalks) (sym c.dims.ensures.dims)
    (subst (AreStalks c.draft.inside.complex.dims) (sym c.as_slice.ensures) c.draft.invariant.stalks_fit) in
    subst AreLive (sym (c.deref.ensures.value ∙ c.in_ok-live.ensures)) (live_cells-live dims stalks cells sizes)

pub returns : goal.returns
returns g c =
    let d = c.draft-draft.result.now in
    let K = g.F.Scalars.ops d.field in
    let v = c.loop-place.blocks in
    let same : length d.blocks ≡ length d.complex.faces =
    subst (λ (x : SheafData g.row.F.Denot). length x.blocks ≡ length x.complex.faces) (sym c.draft-draft.ensures.draft)
    c.draft-draft.ensures.sheaf.shapes.count in
    let faces : length c.draft.inside.complex.faces ≡ length d.complex.faces =
    ap (λ (x : SheafData g.row.F.Denot). length x.complex.faces) c.draft.view_is in
    let all : c.loop-place.place ≡ length d.complex.faces = omega (arith, c.face_count-place-end.ensures.count) in
    let complex : IsComplex d.complex = subst (λ (x : SheafData g.row.F.Denot). IsComplex x.complex) c.draft.view_is
    c.dims.ensures.complex in
    let sheaf : IsSheaf K d.complex d.stalks d.blocks =
    subst (λ (x : SheafData g.row.F.Denot). IsSheaf (g.F.Scalars.ops x.field) x.complex x.stalks x.blocks)
    (sym c.draft-draft.ensures.draft) c.draft-draft.ensures.sheaf in
    subst (λ (x : SheafData g.row.F.Denot). IsStart (g.F.Scalars.ops x.field) x.complex x.stalks x.blocks v)
    c.draft-draft.ensures.draft
    (stored-start K (g.met.F.Scalars.is_field d.field) d.complex d.stalks d.blocks v complex sheaf
    c.loop-place.invariant.live
    (first-put-all K d.complex d.blocks (block_at v) same (subst (λ n. AreFirstPut K d.complex d.blocks n (block_at v))
    all c.loop-place.invariant.first)))
