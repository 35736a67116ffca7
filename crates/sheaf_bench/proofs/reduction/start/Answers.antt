use Rattle.std.proofs.Common.{◌∙◌, sym, subst}
use Rattle.cell_complex.specs.Invariants.{IsComplex}
use Rattle.field_table.specs.Table.{ops_of}
use Rattle.field_table.specs.TableLaws.{table_is_field}
use Rattle.cochain_vec.specs.CochainComplexes.{IsCochainComplex}
use Rattle.sheaf_data.specs.Sheaves.{SheafData}
use Rattle.block_complexes.proofs.SameLaws.{same-block_complex, same-complex}
use Rattle.block_sparse.specs.StoredBlocks.{complex_in}
use Rattle.coboundary.specs.Start.{start_complex}
use Rattle.sheaf_bench.proofs.reduction.start.Goals as goal

pub returns-clause-over : goal.returns-clause-over
returns-clause-over c =
    let s = c.args.sheaf.now in
    let K = ops_of s.field in
    same-block_complex K (start_complex K s.complex s.stalks s.blocks) (complex_in c.in_ok-blocks.blocks)
    c.in_ok-blocks.ensures.same
    (c.start_is_block_complex.ensures K s.complex s.stalks s.blocks (table_is_field s.field)
    (subst (λ (x : SheafData _). IsComplex x.complex) (c.behind-sheaf.view_is ∙ c.draft.ensures.draft)
    c.dims-cells.ensures.complex) c.draft.ensures.sheaf)

pub returns-clause-closed : goal.returns-clause-closed
returns-clause-closed c =
    let s = c.args.sheaf.now in
    let K = ops_of s.field in
    subst (IsCochainComplex K)
    (sym (same-complex (start_complex K s.complex s.stalks s.blocks) (complex_in c.in_ok-blocks.blocks)
    c.in_ok-blocks.ensures.same))
    (c.start_is_cochain_complex.ensures K s.complex s.stalks s.blocks (table_is_field s.field)
    (subst (λ (x : SheafData _). IsComplex x.complex) (c.behind-sheaf.view_is ∙ c.draft.ensures.draft)
    c.dims-cells.ensures.complex) c.draft.ensures.sheaf)
