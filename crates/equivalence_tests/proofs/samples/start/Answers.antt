use Rattle.std.proofs.Common.{sym, subst, ◌∙◌}
use Rattle.field_table.specs.declared.field.Field.{Field}
use Rattle.field_table.specs.Table.{ops_of}
use Rattle.cochain_vec.specs.CochainComplexes.{IsCochainComplex}
use Rattle.block_complexes.specs.Cochains.{complex_of}
use Rattle.block_sparse.specs.StoredBlocks.{complex_in}
use Rattle.pair_commit.specs.Slots.{SlotValue}
use Rattle.sheaf_data.specs.Sheaves.{SheafData}
use Rattle.equivalence_tests.proofs.samples.start.Goals as goal

pub returns : goal.returns
returns g c =
    subst (λ (s : SlotValue Field). IsCochainComplex (ops_of s.f) (complex_of (complex_in s.base)))
    (sym c.in_ok-slot.ensures)
    (subst (λ (x : SheafData Field). IsCochainComplex (ops_of x.field) (complex_of (complex_in c.in_ok-base.base)))
    (sym (c.behind-sheaf.view_is ∙ c.draft.ensures.draft)) c.in_ok-base.ensures)
