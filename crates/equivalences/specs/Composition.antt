-- Two equivalences in memory, one after the other.
use Rattle.std.specs.Prelude.{◌≡◌, ℕ}
use Rattle.dense_blocks.specs.Field.{Ops}
use Rattle.cochain_vec.specs.Complexes.{CellularComplex}
use Rattle.cochain_vec.specs.Shapes.{RowsFit}
use Rattle.equivalence_laws.specs.Equivalences.{composite_pi, composite_iota, composite_h}
use Rattle.equivalence_laws.specs.Equivalences.{graded_matrix}
use Rattle.equivalences.specs.Between.{AreMapsBetween, IsEquivalenceOf}
use Rattle.equivalences.specs.declared.equivalence.Equivalence.{Equivalence}

-- the second begins where the first ends: for some C, D and E, the first goes between C and D, the second between D
-- and E
abbrev pub AreComposable : Ops → (first second : Equivalence) → Type 0
AreComposable K first second = (C : CellularComplex) × (D : CellularComplex) × (E : CellularComplex)
    × AreMapsBetween K C D first × AreMapsBetween K D E second

-- for all C, D and E that they go between so
abbrev pub ForComposable : Ops → (first second : Equivalence) → ((C D E : CellularComplex) → Type 0) → Type 0
ForComposable K first second P = (C D E : CellularComplex) → AreMapsBetween K C D first → AreMapsBetween K D E second
    → P C D E

-- pi2 pi1, iota1 iota2 and h1 + iota1 h2 pi1 in each degree, between C and E
pub record IsCompositeBetween (K : Ops) (C E : CellularComplex) (first second e : Equivalence) : Type 0 where
  pub maps : AreMapsBetween K C E e
  pub pi_is : (k : ℕ) → graded_matrix e.pi k
      ≡ composite_pi K C (graded_matrix first.pi) (graded_matrix second.pi) k
  pub iota_is : (k : ℕ) → graded_matrix e.iota k
      ≡ composite_iota K E (graded_matrix first.iota) (graded_matrix second.iota) k
  pub h_is : (k : ℕ) → graded_matrix e.h k
      ≡ composite_h K C (graded_matrix first.pi) (graded_matrix first.iota) (graded_matrix first.h)
      (graded_matrix second.h) k

-- it is their composite
abbrev pub IsCompositeOf : Ops → (first second e : Equivalence) → Type 0
IsCompositeOf K first second e = ForComposable K first second (λ C D E. IsCompositeBetween K C E first second e)

-- where they are equivalences, of C and D and of D and E, it is one of C and E
abbrev pub JoinsEquivalences : Ops → (first second e : Equivalence) → Type 0
JoinsEquivalences K first second e = (C D E : CellularComplex) → RowsFit C → RowsFit D → RowsFit E
    → IsEquivalenceOf K C D first → IsEquivalenceOf K D E second → IsEquivalenceOf K C E e
