use Rattle.std.proofs.Common.{sym, subst, ◌∙◌}
use Rattle.field_table.specs.declared.field.Field.{Field}
use Rattle.field_table.specs.Table.{ops_of}
use Rattle.field_table.specs.TableLaws.{table_is_field}
use Rattle.cell_complex.specs.Invariants.{IsComplex}
use Rattle.cochain_vec.specs.CochainComplexes.{IsCochainComplex}
use Rattle.block_complexes.specs.Cochains.{complex_of}
use Rattle.block_complexes.proofs.SameLaws.{same-complex}
use Rattle.block_sparse.specs.StoredBlocks.{complex_in}
use Rattle.sheaf_data.specs.Sheaves.{SheafData}
use Rattle.coboundary.specs.Start.{start_complex}
use Rattle.equivalence_tests.proofs.samples.start_complex.Goals as goal

pub returns : goal.returns
returns c =
    let s : SheafData Field = c.args.sheaf.now in
    let K = ops_of s.field in
    let b = complex_in c.in_ok-blocks.blocks in
    subst (IsCochainComplex K)
    (sym (same-complex (start_complex K s.complex s.stalks s.blocks) b c.in_ok-blocks.ensures.same))
    (c.start_is_cochain_complex.ensures K s.complex s.stalks s.blocks (table_is_field s.field)
    (subst (λ (x : SheafData Field). IsComplex x.complex) (c.behind-sheaf.view_is ∙ c.draft.ensures.draft)
    c.dims-cells.ensures.complex)
    c.draft.ensures.sheaf)
