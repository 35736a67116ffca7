-- The class of a cocycle by an equivalence.
use Rattle.std.proofs.Common.{◌≡◌, ◌+◌, ℕ, zero, suc, List, [], ◌∷◌, length, All, refl, sym, ap, ap₂, ◌∙◌, subst, arith}
use Rattle.std.proofs.Common.{add-one, Option, None, Some, MatchOption, slice_get}
use Rattle.std.proofs.lemmas.List.{length-map}
use Rattle.std.proofs.lemmas.List.Elements.{All-head, All-tail}
use Rattle.dense_blocks.specs.Field.{Ops}
use Rattle.dense_blocks.specs.FieldLaws.{IsField}
use Rattle.dense_blocks.specs.Vectors.{IsVector, zeros, plus, combination}
use Rattle.dense_blocks.specs.Matrices.{image_of}
use Rattle.dense_blocks.specs.MatrixFacts.{identity}
use Rattle.dense_blocks.specs.Blocks.{matrix_of}
use Rattle.dense_blocks.specs.declared.block.Block.{Block}
use Rattle.dense_blocks.proofs.Shapes.{from_vector, to_matrix, matrix-size}
use Rattle.dense_blocks.proofs.MatrixLaws.{image_of-vector, identity-matrix}
use Rattle.cochain_vec.specs.Complexes.{CellularComplex, IsCochain, coboundary, coordinates, total_size}
use Rattle.cochain_vec.specs.Shapes.{RowsFit}
use Rattle.cochain_vec.specs.Cohomology.{IsCocycle}
use Rattle.block_complexes.specs.BlockComplexes.{BlockComplex}
use Rattle.block_complexes.specs.Cochains.{complex_of, of_degree}
use Rattle.equivalence_laws.specs.Bases.{HasNoCoboundary, unit_images}
use Rattle.equivalence_laws.specs.Equivalences.{GradedMatrix, IsEquivalence, graded_matrix, map_of, d_h}
use Rattle.equivalence_laws.proofs.BasisLaws.{cocycles_have_coordinates, unit_images_are_basis}
use Rattle.equivalences.specs.declared.equivalence.Equivalence.{Equivalence}
use Rattle.equivalences.proofs.ComposedBlocks.{graded-at}
use Rattle.cocycle_bases.specs.Answers.{HasClass}
use Rattle.cocycle_bases.specs.Classes.{IsFirstNonzeroCell, IsFirstOpen, IsClass, IsCochainBelow, coboundary_below}
use Rattle.cocycle_bases.specs.Classes.{homotopy_below}

-- a vector of zeros
pub zeros-are : (n : ℕ) (v : List ℕ) → length v ≡ n → All (λ a. a ≡ 0) v → v ≡ zeros n
zeros-are zero [] e h = refl
zeros-are zero (a ∷ v) e h = absurd (omega (arith, e))
zeros-are (suc n) [] e h = absurd (omega (arith, e))
zeros-are (suc n) (a ∷ v) e h =
    ap₂ ◌∷◌ (All-head (λ (a : ℕ). a ≡ 0) a v h)
    (zeros-are n v (omega (arith, e)) (All-tail (λ (a : ℕ). a ≡ 0) a v h))

-- a vector that is read again
pub read-vector : (K : Ops) (m n : ℕ) (z w : List ℕ) → w ≡ z → m ≡ n → IsVector K n z → IsVector K m w
read-vector K m n z w same size h = subst (λ u. IsVector K m u) (sym same) (subst (λ j. IsVector K j z) (sym size) h)

-- the coboundary at the live cells, as it is computed of w and read again as image
pub record IsImage (K : Ops) (v : BlockComplex) (k : ℕ) (z w found image : List ℕ) : Type 0 where
  pub is : found ≡ coboundary K (complex_of v) k w
  pub of : w ≡ z
  pub read : image ≡ found
  pub cochain : IsCochain K (complex_of v) (k + 1) found

module _ (K : Ops) (v : BlockComplex) (live : List (ℕ × ℕ × ℕ)) (same : live ≡ v.live) (k : ℕ)
    (z w found image : List ℕ) (made : IsImage K v k z w found image) where
  image-is : image ≡ coboundary K (complex_of v) k z
  image-is = made.read ∙ made.is ∙ ap (coboundary K (complex_of v) k) made.of

  pub image-size : length image ≡ total_size (of_degree (k + 1) live)
  image-size = ap length made.read ∙ made.cochain.size ∙ ap (λ ls. total_size (of_degree (k + 1) ls)) (sym same)

  first_open : (t : ℕ) → IsFirstNonzeroCell (of_degree (k + 1) live) image t → IsFirstOpen K (complex_of v) k z t
  first_open t first =
      subst (λ u. IsFirstNonzeroCell (of_degree (suc k) v.live) u t) image-is
      (subst (λ ls. IsFirstNonzeroCell (of_degree (suc k) ls) image t) same
      (subst (λ j. IsFirstNonzeroCell (of_degree j live) image t) (add-one k) first))

  zero-closed : IsCochain K (complex_of v) k z → All (λ a. a ≡ 0) image → IsCocycle K (complex_of v) k z
  zero-closed cochain are_zero =
      let C = complex_of v in
      record {
        cochain = cochain;
        closed = sym image-is
            ∙ zeros-are (coordinates C (suc k)) image
            (ap length made.read ∙ made.cochain.size ∙ ap (coordinates C) (add-one k)) are_zero;
      }

  -- so it is a cocycle, or has a first open cell
  pub open-or-closed : IsCochain K (complex_of v) k z → (o : Option ℕ)
      → MatchOption o (All (λ a. a ≡ 0) image) (IsFirstNonzeroCell (of_degree (k + 1) live) image)
      → MatchOption o (IsCocycle K (complex_of v) k z) (IsFirstOpen K (complex_of v) k z)
  open-or-closed cochain None h = zero-closed cochain h
  open-or-closed cochain (Some t) h = first_open t h

-- what the block of a degree makes of a cochain z, which is read again as w
pub image-at : (K : Ops) (blocks : List Block) (k : ℕ) (b : Block) (z w u : List ℕ) → slice_get blocks k ≡ Some b
    → w ≡ z → u ≡ image_of K (matrix_of b) w → u ≡ image_of K (graded_matrix blocks k) z
image-at K blocks k b z w u at same is = is ∙ ap₂ (image_of K) (sym (graded-at blocks k b at)) same

pub homotopy-at : (K : Ops) (blocks : List Block) (k j : ℕ) (b : Block) (z w u : List ℕ) → slice_get blocks j ≡ Some b
    → k ≡ suc j → w ≡ z → u ≡ image_of K (matrix_of b) w → u ≡ homotopy_below K (graded_matrix blocks) k z
homotopy-at K blocks zero j b z w u at e same is = absurd (omega (arith, e))
homotopy-at K blocks (suc k) j b z w u at e same is =
    let below : j ≡ k = omega (arith, e) in
    image-at K blocks j b z w u at same is ∙ ap (λ i. image_of K (graded_matrix blocks i) z) below

module _ (K : Ops) (F : IsField K) (C : CellularComplex) (fits : RowsFit C) where
  module _ (D : CellularComplex) (fits_D : RowsFit D) (none : HasNoCoboundary K D) (pi iota h : GradedMatrix)
      (e : IsEquivalence K C D pi iota h) (k : ℕ) (z : List ℕ) (c : IsCocycle K C k z) where
    coordinates-vector : IsVector K (length (unit_images K D iota k)) (image_of K (pi k) z)
    coordinates-vector =
        let n = coordinates D k in
        subst (λ j. IsVector K j (image_of K (pi k) z))
        (sym (length-map (identity n) (image_of K (iota k))
        ∙ matrix-size K n n (identity n) (identity-matrix K F n)))
        (from_vector K n (image_of K (pi k) z)
        (image_of-vector K F n (coordinates C k) (pi k) z
        (to_matrix K n (coordinates C k) (pi k) (e.pi_shape k))))

    cocycle-class : IsClass K C k z (image_of K (pi k) z) (unit_images K D iota k) (homotopy_below K h k z)
    cocycle-class = record {
      cocycle = c;
      basis = unit_images_are_basis K C D pi iota h F fits fits_D e none k;
      one_each = coordinates-vector;
      cochain = below k;
      sum = (cocycles_have_coordinates K C D pi iota h F fits fits_D e k z c).0
          ∙ ap (plus K (combination K (coordinates C k) (image_of K (pi k) z) (unit_images K D iota k))) (same k);
    }
      where
        below : (k : ℕ) → IsCochainBelow K C k (homotopy_below K h k z)
        below zero = refl
        below (suc k) =
            let m = coordinates C k in
            let n = coordinates C (suc k) in
            from_vector K m (image_of K (h k) z)
            (image_of-vector K F m n (h k) z (to_matrix K m n (h k) (e.h_shape k)))

        same : (k : ℕ) → d_h K C (map_of K h) k z ≡ coboundary_below K C k (homotopy_below K h k z)
        same zero = refl
        same (suc k) = refl

  pub has_class : (e : Equivalence) (k : ℕ) (z coords primitive : List ℕ) → IsCocycle K C k z
      → coords ≡ image_of K (graded_matrix e.pi k) z → primitive ≡ homotopy_below K (graded_matrix e.h) k z
      → HasClass K C e k z coords primitive
  has_class e k z coords primitive c p q = record {
    cocycle = c;
    coords_are = p;
    primitive_is = q;
    is_class = λ D fits_D none is.
        subst (λ us. IsClass K C k z us (unit_images K D (graded_matrix e.iota) k) primitive) (sym p)
        (subst (IsClass K C k z (image_of K (graded_matrix e.pi k) z) (unit_images K D (graded_matrix e.iota) k))
        (sym q)
        (cocycle-class D fits_D none (graded_matrix e.pi) (graded_matrix e.iota) (graded_matrix e.h) is.equivalence k z
        c));
  }
