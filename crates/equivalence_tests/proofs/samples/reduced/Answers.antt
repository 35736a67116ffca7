use Rattle.std.proofs.Common.{sym, subst}
use Rattle.field_table.specs.Table.{ops_of}
use Rattle.cochain_vec.specs.CochainComplexes.{IsCochainComplex}
use Rattle.block_complexes.specs.Cochains.{complex_of}
use Rattle.block_sparse.specs.StoredBlocks.{complex_in}
use Rattle.equivalence_tests.proofs.samples.reduced.Goals as goal

pub returns : goal.returns
returns g c =
    subst (λ f. IsCochainComplex (ops_of f) (complex_of (complex_in c.remove.new.slot.base)))
    (sym c.remove.ensures.field)
    (subst (λ v. IsCochainComplex (ops_of c.in_ok-slot.slot.f) (complex_of (complex_in v)))
    (sym c.remove.ensures.base) c.in_ok-slot.ensures)
