use Rattle.std.proofs.Common.{sym, subst}
use Rattle.field_table.specs.Table.{ops_of}
use Rattle.cochain_vec.specs.CochainComplexes.{IsCochainComplex}
use Rattle.block_complexes.specs.Cochains.{complex_of}
use Rattle.block_sparse.specs.StoredBlocks.{complex_in}
use Rattle.equivalence_tests.proofs.samples.maps.Goals as goal

pub of_log-requires-clause-closed : goal.of_log-requires-clause-closed
of_log-requires-clause-closed c =
    subst (λ f. IsCochainComplex (ops_of f) (complex_of (complex_in c.base.result.now))) (sym c.field.ensures)
    (subst (λ v. IsCochainComplex (ops_of c.args.slot.now.f) (complex_of (complex_in v))) (sym c.base.ensures)
    c.requires)
