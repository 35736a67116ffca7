-- Equivalences in memory, as those of two complexes.
use Rattle.std.specs.Prelude.{suc}
use Rattle.dense_blocks.specs.Field.{Ops}
use Rattle.cochain_vec.specs.Complexes.{CellularComplex, coordinates}
use Rattle.equivalence_laws.specs.Equivalences.{IsEquivalence}
use Rattle.equivalences.specs.GradedBlocks.{AreBlocksOver}
use Rattle.equivalence_laws.specs.Equivalences.{graded_matrix}
use Rattle.equivalences.specs.declared.equivalence.Equivalence.{Equivalence}

-- blocks for C and D: in each degree, pi goes from C to D, iota from D to C, and h comes from the degree above of C
pub record AreMapsBetween (K : Ops) (C D : CellularComplex) (e : Equivalence) : Type 0 where
  pub pi : AreBlocksOver K (coordinates D) (coordinates C) e.pi
  pub iota : AreBlocksOver K (coordinates C) (coordinates D) e.iota
  pub h : AreBlocksOver K (coordinates C) (λ k. coordinates C (suc k)) e.h

-- their matrices are an equivalence of C and D
pub record IsEquivalenceOf (K : Ops) (C D : CellularComplex) (e : Equivalence) : Type 0 where
  pub maps : AreMapsBetween K C D e
  pub equivalence : IsEquivalence K C D (graded_matrix e.pi) (graded_matrix e.iota) (graded_matrix e.h)
