-- What is kept of a slot: how its reduction ends, and bases of its cohomology.
use Rattle.std.specs.Prelude.{◌≡◌, ℕ, List, vec_len}
use Rattle.dense_blocks.specs.Field.{Ops}
use Rattle.cochain_vec.specs.CochainComplexes.{IsCochainComplex}
use Rattle.cochain_vec.specs.Shapes.{RowsFit}
use Rattle.block_complexes.specs.BlockComplexes.{BlockComplex, IsBlockComplex, HaveSameMatrices}
use Rattle.block_complexes.specs.Cochains.{complex_of}
use Rattle.block_sparse.specs.StoredBlocks.{StoredBlocks, complex_in}
use Rattle.reduce_step.specs.declared.record.Step.{Step}
use Rattle.reduce_step.specs.Logs.{AreStepsFrom, pairs_of}
use Rattle.equivalence_laws.specs.Bases.{HasNoCoboundary, unit_images}
use Rattle.equivalence_laws.specs.Equivalences.{graded_matrix}
use Rattle.equivalences.specs.Between.{IsEquivalenceOf}
use Rattle.equivalences.specs.declared.equivalence.Equivalence.{Equivalence}
use Rattle.scalar_finish.specs.Splits.{IsSplit}
use Rattle.scalar_finish.specs.Finishes.{IsFinish}
use Rattle.cocycle_bases.specs.Bases.{AreBases, AreGradedCochains}
use Rattle.pair_commit.specs.Slots.{SlotValue}
use Rattle.core_machine.specs.Replies.{Reduction}
use Rattle.core_machine.specs.Solo.{Final, IsFinal}
use Rattle.query_answers.specs.SlotReductions.{IsReductionIn}
use Rattle.query_answers.specs.declared.ending.Ending.{Ending}
use Rattle.query_answers.specs.declared.cohomology.Cohomology.{Cohomology}

-- what is present is split into its coordinates, and reduced to the end by these steps
pub record IsEndingOf (K : Ops) (present : StoredBlocks) (ending : Ending) : Type 0 where
  pub split : IsSplit (complex_in present) (complex_in ending.split)
  pub steps : AreStepsFrom K (complex_in ending.split) ending.log.items (complex_in ending.rest)
  pub finish : IsFinish K (complex_in ending.split) (pairs_of ending.log.items) (complex_in ending.rest)

-- the steps of the log lead from the base, a cochain complex over the field, to something whose ending this is
pub record IsWholeReduction (K : Ops) (base : StoredBlocks) (log : List Step) (ending : Ending) : Type 0 where
  pub base_is : IsBlockComplex K (complex_in base)
  pub closed : IsCochainComplex K (complex_of (complex_in base))
  pub present : StoredBlocks
  pub steps : AreStepsFrom K (complex_in base) log (complex_in present)
  pub ending_is : IsEndingOf K present ending

-- what is left at the end, and the maps to it
abbrev pub final_of : BlockComplex → Equivalence → Final
final_of rest e = record {
  rest = rest;
  pi = graded_matrix e.pi;
  iota = graded_matrix e.iota;
  h = graded_matrix e.h;
}

-- the maps go from the base to what is left at the end, and are those of the steps of the log and then of the ending
pub record AreFinalMaps (K : Ops) (base : StoredBlocks) (log : List Step) (ending : Ending) (e : Equivalence) :
    Type 0 where
  pub equivalence : IsEquivalenceOf K (complex_of (complex_in base)) (complex_of (complex_in ending.rest)) e
  pub final : (r : Reduction) → HaveSameMatrices (complex_in base) r.start → r.pairs ≡ pairs_of log
      → IsSplit r.rest (complex_in ending.split) → IsFinal K r (final_of (complex_in ending.rest) e)

-- the maps go from the base of the slot to what is left at the end, and for each degree from 0 to 15 there is the basis
-- that they give
pub record IsCohomologyOf {F : Type 0} (K : Ops) (slot : SlotValue F) (c : Cohomology) : Type 0 where
  pub rest : BlockComplex
  pub fits : RowsFit (complex_of rest)
  pub no_coboundary : HasNoCoboundary K (complex_of rest)
  pub equivalence : IsEquivalenceOf K (complex_of (complex_in slot.base)) (complex_of rest) c.maps
  pub final : (degrees : ℕ) (r : Reduction) → IsReductionIn degrees slot r
      → HaveSameMatrices (complex_in slot.base) r.start → IsFinal K r (final_of rest c.maps)
  pub one_each : vec_len c.bases ≡ 16
  pub images : AreGradedCochains (unit_images K (complex_of rest) (graded_matrix c.maps.iota)) c.bases.items
  pub bases : AreBases K (complex_of (complex_in slot.base)) c.bases.items
