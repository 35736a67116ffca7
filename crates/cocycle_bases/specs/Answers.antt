-- What is answered of a cochain, by an equivalence.
use Rattle.std.specs.Prelude.{◌≡◌, ℕ, List}
use Rattle.dense_blocks.specs.Field.{Ops}
use Rattle.dense_blocks.specs.Matrices.{image_of}
use Rattle.cochain_vec.specs.Complexes.{CellularComplex}
use Rattle.cochain_vec.specs.Shapes.{RowsFit}
use Rattle.cochain_vec.specs.Cohomology.{IsCocycle}
use Rattle.equivalence_laws.specs.Equivalences.{graded_matrix}
use Rattle.equivalence_laws.specs.Bases.{HasNoCoboundary, unit_images}
use Rattle.equivalences.specs.Between.{IsEquivalenceOf}
use Rattle.equivalences.specs.declared.equivalence.Equivalence.{Equivalence}
use Rattle.cocycle_bases.specs.Classes.{IsFirstOpen, IsClass, homotopy_below}
use Rattle.cocycle_bases.specs.declared.class.Class.{Class}
use Rattle.cocycle_bases.specs.declared.class.Class.TheVariants as answers

-- z is a cocycle, coords is pi z and primitive is h z; where the maps are an equivalence with some D without a
-- coboundary, that is its class by the images of the unit vectors of D
pub record HasClass (K : Ops) (C : CellularComplex) (e : Equivalence) (k : ℕ) (z coords primitive : List ℕ) :
    Type 0 where
  pub cocycle : IsCocycle K C k z
  pub coords_are : coords ≡ image_of K (graded_matrix e.pi k) z
  pub primitive_is : primitive ≡ homotopy_below K (graded_matrix e.h) k z
  pub is_class : (D : CellularComplex) → RowsFit D → HasNoCoboundary K D → IsEquivalenceOf K C D e
      → IsClass K C k z coords (unit_images K D (graded_matrix e.iota) k) primitive

-- what is answered of the cochain z of degree k
abbrev pub Answers : Ops → CellularComplex → Equivalence → ℕ → List ℕ → Class → Type 0
Answers K C e k z (answers.NotCocycle t) = IsFirstOpen K C k z t
Answers K C e k z (answers.Class coords primitive) = HasClass K C e k z coords.items primitive.items
