-- Where nothing differs from a footprint, it is the footprint of the blocks as they stand.
use Rattle.std.proofs.Common.{◌≡◌, ℕ, zero, suc, ◌≤◌, Bool, true, false, ◌||◌, ◌&&◌, List, [], ◌∷◌, get_or, refl, sym}
use Rattle.std.proofs.Common.{ap, ap₂, ◌∙◌, subst, arith, inl, inr}
use Rattle.std.specs.Prelude.{◌==◌, not}
use Rattle.std.specs.List.{list_all}
use Rattle.std.specs.Option.{is_some}
use Rattle.std.proofs.lemmas.Bool.{cases_eq, cases_Bool, eq-eqb, ne_eqb}
use Rattle.dense_blocks.specs.Field.{Ops}
use Rattle.dense_blocks.specs.FieldLaws.{IsField}
use Rattle.dense_blocks.specs.Vectors.{zeros}
use Rattle.dense_blocks.specs.MatrixFacts.{zero_matrix, IsInverse}
use Rattle.dense_blocks.specs.Blocks.{matrix_of}
use Rattle.dense_blocks.proofs.ScalarLaws.{one_below}
use Rattle.dense_blocks.proofs.Shapes.{from_vector}
use Rattle.dense_blocks.proofs.VectorLaws.{zeros-vector}
use Rattle.dense_blocks.proofs.MatrixLaws.{zero_matrix-matrix, zero_matrix-image_of}
use Rattle.dense_blocks.proofs.InverseLaws.{kernel-no_inverse}
use Rattle.rising_lists.specs.Rising.{has, keys}
use Rattle.block_complexes.specs.BlockComplexes.{size_of}
use Rattle.block_sparse.specs.StoredBlocks.{StoredBlocks, block_at, is_zero, matrix, AreLive}
use Rattle.block_sparse.specs.Grids.{segment, part, columns_of, IsJoined}
use Rattle.block_sparse.proofs.ScalarBlocks.{matrix-none, not-block_at}
use Rattle.reduce_step.specs.declared.footprint.Footprint.{Footprint}
use Rattle.reduce_step.specs.Footprints.{IsFootprint}
use Rattle.reduce_step.specs.Differences.{sources, targets, Fits, IsAsCopied, IsSized}
use Rattle.reduce_step.proofs.PartLaws.{row-part, column-part}
use Rattle.reduce_step.proofs.DifferenceLaws.{not-both, and_false, live-size, both-listed, listed-one, listed-too}
use Rattle.reduce_step.proofs.DifferenceLaws.{sized-one, all-sized, one-of, copied-at, not_x, not_y}

zeros-zero : (n : ℕ) → list_all (λ a. a == 0) (zeros n) ≡ true
zeros-zero zero = refl
zeros-zero (suc n) = zeros-zero n

pub zero_matrix-zero : (m n : ℕ) → is_zero (zero_matrix m n) ≡ true
zero_matrix-zero zero n = refl
zero_matrix-zero (suc m) n = ap₂ (λ a b. a && b) (zeros-zero n) (zero_matrix-zero m n)

-- a matrix that is not zero is that of a block
pub nonzero-block_at : (K : Ops) (v : StoredBlocks) (s t : ℕ) → is_zero (matrix v s t) ≡ false
    → is_some (block_at v s t) ≡ true
nonzero-block_at K v s t e = elim (cases_Bool (is_some (block_at v s t))) [
  | inl h ↦ h
  | inr n ↦ not-both (is_zero (matrix v s t))
      (ap is_zero (matrix-none K v s t (not-block_at (block_at v s t) n))
      ∙ zero_matrix-zero (size_of v.live t) (size_of v.live s)) e
]

-- a zero matrix has no inverse
pub zero-no_inverse : (K : Ops) (F : IsField K) (n : ℕ) (B : List (List ℕ)) → 1 ≤ n
    → IsInverse K n (zero_matrix n n) B → ⊥
zero-no_inverse K F zero B l inverse = absurd (omega arith)
zero-no_inverse K F (suc n) B l inverse =
    let v : List ℕ = 1 ∷ zeros n in
    kernel-no_inverse K F (suc n) (zero_matrix (suc n) (suc n)) (zero_matrix-matrix K F (suc n) (suc n)) v B (record {
      vector = from_vector K (suc n) v (one_below K F, zeros-vector K F n);
      not_zero = λ e. let same : ◌≡◌ {A = ℕ} 1 0 = ap (λ t. get_or t 0 0) e in omega arith;
      zero = zero_matrix-image_of K F (suc n) (suc n) v;
    }) inverse

-- the listed cells are those with a block but one
others-are : (x : ℕ) (ls : List (ℕ × ℕ)) (stands : ℕ → Bool) → has x (keys ls) ≡ false
    → ((c : ℕ) → has c (keys ls) ≡ true → stands c ≡ true)
    → ((c : ℕ) → has c (x ∷ keys ls) ≡ false → stands c ≡ false) → (c : ℕ)
    → has c (keys ls) ≡ (stands c && not (c == x))
others-are x ls stands apart there others c = elim (cases_eq c x) [
  | inl e ↦ ap (λ k. has k (keys ls)) e ∙ apart
      ∙ sym (ap (λ b. stands c && not b) (eq-eqb c x e) ∙ and_false (stands c))
  | inr d ↦ elim (cases_Bool (has c (keys ls))) [
    | inl h ↦ h ∙ sym (ap₂ (λ a b. a && not b) (there c h) (ne_eqb c x d))
    | inr n ↦ n ∙ sym (ap (λ a. a && not (c == x)) (others c (ap₂ (λ a b. a || b) (ne_eqb x c (λ e. d (sym e))) n)))
  ]
]

module _ (K : Ops) (v : StoredBlocks) (foot : Footprint) (fits : Fits v foot) where
  source : (s : ℕ) → has s (keys foot.left) ≡ true → has s (keys (sources foot)) ≡ true
  source s h = listed-too v.live foot.x foot.pivot.cols foot.left foot.parts.left_rises foot.parts.without_x s h

  target : (t : ℕ) → has t (keys foot.below) ≡ true → has t (keys (targets foot)) ≡ true
  target t h = listed-too v.live foot.y foot.pivot.rows foot.below foot.parts.below_rises foot.parts.without_y t h

  x-source : has foot.x (keys (sources foot)) ≡ true
  x-source = listed-one v.live foot.x foot.pivot.cols foot.left foot.parts.left_rises foot.parts.without_x

  y-target : has foot.y (keys (targets foot)) ≡ true
  y-target = listed-one v.live foot.y foot.pivot.rows foot.below foot.parts.below_rises foot.parts.without_y

  copied-pair : (s t : ℕ) → has s (keys (sources foot)) ≡ true → has t (keys (targets foot)) ≡ true
      → IsAsCopied v foot s t
  copied-pair s t hs ht = (fits s t).copied (both-listed foot s t hs ht)

  x-sized : IsSized v.live foot.x foot.pivot.cols
  x-sized = sized-one v.live foot.x foot.pivot.cols foot.left foot.parts.left_rises foot.parts.without_x
      (copied-pair foot.x foot.y x-source y-target).from

  y-sized : IsSized v.live foot.y foot.pivot.rows
  y-sized = sized-one v.live foot.y foot.pivot.rows foot.below foot.parts.below_rises foot.parts.without_y
      (copied-pair foot.x foot.y x-source y-target).to

  pivot-is : matrix v foot.x foot.y ≡ matrix_of foot.pivot
  pivot-is =
      (copied-pair foot.x foot.y x-source y-target).matrix_is
      ∙ copied-at v foot foot.x foot.y true true (eq-eqb foot.x foot.x refl) (eq-eqb foot.y foot.y refl)

  row-is : (s : ℕ) → has s (keys foot.left) ≡ true → matrix v s foot.y ≡ columns_of foot.left (matrix_of foot.row) s
  row-is s h =
      (copied-pair s foot.y (source s h) y-target).matrix_is ∙ copied-at v foot s foot.y false true (not_x v foot s h)
      (eq-eqb foot.y foot.y refl)

  column-is : (t : ℕ) → has t (keys foot.below) ≡ true → matrix v foot.x t ≡ segment foot.below (matrix_of foot.column)
      t
  column-is t h =
      (copied-pair foot.x t x-source (target t h)).matrix_is
      ∙ copied-at v foot foot.x t true false (eq-eqb foot.x foot.x refl) (not_y v foot t h)

  -- the pivot's cells have as many coordinates
  pub fit-square : size_of v.live foot.y ≡ size_of v.live foot.x
  fit-square = y-sized.1 ∙ foot.parts.square ∙ sym x-sized.1

  pub fit-footprint : IsFootprint v foot.x foot.y foot
  fit-footprint = record {
    from = refl;
    to = refl;
    left = others-are foot.x foot.left (λ s. is_some (block_at v s foot.y)) foot.parts.without_x
        (λ s h. nonzero-block_at K v s foot.y (ap is_zero (row-is s h) ∙ foot.parts.row_blocks s h))
        (λ s n. (fits s foot.y).others (ap (λ b. b && has foot.y (keys (targets foot))) n)
        (record { from = x-sized.0; to = y-sized.0; beside = inr refl }));
    below = others-are foot.y foot.below (λ t. is_some (block_at v foot.x t)) foot.parts.without_y
        (λ t h. nonzero-block_at K v foot.x t (ap is_zero (column-is t h) ∙ foot.parts.column_blocks t h))
        (λ t n. (fits foot.x t).others (ap (λ b. has foot.x (keys (sources foot)) && b) n
        ∙ and_false (has foot.x (keys (sources foot))))
        (record { from = x-sized.0; to = y-sized.0; beside = inl refl }));
    left_sized = all-sized v.live foot.x foot.pivot.cols foot.left foot.parts.left_rises foot.parts.without_x
        (λ s h. (copied-pair s foot.y (source s h) y-target).from);
    below_sized = all-sized v.live foot.y foot.pivot.rows foot.below foot.parts.below_rises foot.parts.without_y
        (λ t h. (copied-pair foot.x t x-source (target t h)).to);
    pivot = sym pivot-is;
    row = subst (λ n. IsJoined v foot.left ((foot.y, n) ∷ []) (matrix_of foot.row)) (sym y-sized.1) (λ s t hs ht.
        subst (λ t. part foot.left ((foot.y, foot.pivot.rows) ∷ []) (matrix_of foot.row) s t ≡ matrix v s t)
        (one-of foot.y t ht)
        (row-part foot.left foot.y foot.pivot.rows foot.row s foot.parts.row_rows ∙ sym (row-is s hs)));
    column = subst (λ n. IsJoined v ((foot.x, n) ∷ []) foot.below (matrix_of foot.column)) (sym x-sized.1) (λ s t hs ht.
        subst (λ s. part ((foot.x, foot.pivot.cols) ∷ []) foot.below (matrix_of foot.column) s t ≡ matrix v s t)
        (one-of foot.x s hs)
        (column-part foot.x foot.pivot.cols foot.below foot.column t foot.parts.column_cols ∙ sym (column-is t ht)));
    corners = λ s t hs ht.
        sym ((copied-pair s t (source s hs) (target t ht)).matrix_is
        ∙ copied-at v foot s t false false (not_x v foot s hs)
        (not_y v foot t ht));
  }

  -- a pivot with an inverse stands
  pub fit-stands : (F : IsField K) (B : List (List ℕ)) → AreLive v.live
      → IsInverse K foot.pivot.rows (matrix_of foot.pivot) B → is_some (block_at v foot.x foot.y) ≡ true
  fit-stands F B live inverse = elim (cases_Bool (is_some (block_at v foot.x foot.y))) [
    | inl h ↦ h
    | inr n ↦
        let k : ℕ = foot.pivot.rows in
        let zero_pivot : matrix_of foot.pivot ≡ zero_matrix k k =
        sym pivot-is ∙ matrix-none K v foot.x foot.y (not-block_at (block_at v foot.x foot.y) n)
        ∙ ap₂ zero_matrix y-sized.1 (x-sized.1 ∙ sym foot.parts.square) in
        absurd (zero-no_inverse K F k B (omega (arith, live-size v.live foot.y live y-sized.0, y-sized.1))
        (subst (λ A. IsInverse K k A B) zero_pivot inverse))
  ]
