use Rattle.std.proofs.Common.{sym, subst, ◌∙◌}
use Rattle.field_table.specs.Table.{ops_of}
use Rattle.cochain_vec.specs.CochainComplexes.{IsCochainComplex}
use Rattle.block_complexes.specs.Cochains.{complex_of}
use Rattle.block_sparse.specs.StoredBlocks.{complex_in}
use Rattle.equivalences.specs.Between.{AreMapsBetween}
use Rattle.equivalence_tests.proofs.composite_tests.maps_of_rest.Goals as goal

pub maps-requires : goal.maps-requires
maps-requires g c =
    subst (λ f. IsCochainComplex (ops_of f) (complex_of (complex_in c.remove.new.slot.base)))
    (sym c.remove.ensures.field)
    (subst (λ v. IsCochainComplex (ops_of c.in_ok-rest.rest.f) (complex_of (complex_in v)))
    (sym c.remove.ensures.base) c.in_ok-rest.ensures.closed)

pub returns : goal.returns
returns g c =
    let D = complex_of (complex_in c.remove.new.slot.present) in
    let e = c.in_ok-e.e in (
      D,
      subst (λ f. AreMapsBetween (ops_of f) (complex_of (complex_in c.args.slot.now.present)) D e)
          (c.remove.ensures.field ∙ c.in_ok-rest.ensures.field)
          (subst (λ v. AreMapsBetween (ops_of c.remove.new.slot.f) (complex_of (complex_in v)) D e)
          (c.remove.ensures.base ∙ c.in_ok-rest.ensures.base) c.in_ok-e.ensures.maps),
    )
