use Rattle.std.proofs.Common.{sym, subst}
use Rattle.field_table.specs.Table.{ops_of}
use Rattle.block_complexes.specs.Cochains.{complex_of}
use Rattle.block_sparse.specs.StoredBlocks.{complex_in}
use Rattle.equivalences.specs.Composition.{AreComposable}
use Rattle.equivalence_tests.proofs.composite_tests.composite.Goals as goal

pub compose-requires : goal.compose-requires
compose-requires g c =
    let slot = c.args.slot.now in
    let second = c.in_ok-second.ensures in
    subst (λ f. AreComposable (ops_of f) c.in_ok-first.first c.in_ok-second.second) (sym c.field.ensures) (
      complex_of (complex_in slot.base),
      complex_of (complex_in slot.present),
      second.0,
      c.in_ok-first.ensures.maps,
      second.1,
    )
