-- The loops of an inversion, and what its steps make together.
use Rattle.std.proofs.Common.{◌≡◌, ◌≢◌, ℕ, zero, suc, ◌+◌, ◌-◌, ◌*◌, ◌<◌, List, [], ◌∷◌, ◌++◌, length, map, take, drop}
use Rattle.std.proofs.Common.{get_or, refl, sym, ap, ap₂, ◌∙◌, subst, subst₂, arith, append_assoc, length-append}
use Rattle.std.proofs.Common.{length-drop}
use Rattle.std.proofs.lemmas.List.{take_at, drop-drop, drop-take, map_more, get_or-map, length-map, length-take-le}
use Rattle.std.proofs.lemmas.List.Elements.{All-get_or}
use Rattle.std.specs.List.{refill}
use Rattle.dense_blocks.specs.Field.{Ops}
use Rattle.dense_blocks.specs.FieldLaws.{IsField}
use Rattle.dense_blocks.specs.Vectors.{AllScalars, zeros}
use Rattle.dense_blocks.specs.Matrices.{cut}
use Rattle.dense_blocks.specs.MatrixFacts.{identity, IsInverse}
use Rattle.dense_blocks.specs.Blocks.{matrix_of}
use Rattle.dense_blocks.specs.BlockFacts.{IsBlock}
use Rattle.dense_blocks.specs.Columns.{beside, kernel_vector, HasUnitColumns, HasNoPivot}
use Rattle.dense_blocks.specs.Inverses.{IsInverseBlock, InKernel}
use Rattle.dense_blocks.specs.declared.block.Block.{Block}
use Rattle.dense_blocks.proofs.ScalarLaws.{one_below, zero_mul}
use Rattle.dense_blocks.proofs.Shapes.{Matrix, to_matrix, from_matrix, from_vector}
use Rattle.dense_blocks.proofs.MatrixLaws.{identity-matrix}
use Rattle.dense_blocks.proofs.Cutting.{Sized, sized-size, sized-identity, cut-size, cut-row, first_rows}
use Rattle.dense_blocks.proofs.Cutting.{first_rows-next, identity-row}
use Rattle.dense_blocks.proofs.BlockLaws.{block-matrix_at, is_block-scalars}
use Rattle.dense_blocks.proofs.ClearingLaws.{cut-at, cut-scalars}
use Rattle.dense_blocks.proofs.InverseLaws.{beside-matrix, cleared-inverse, stuck-kernel, kernel-no_inverse}

-- a whole slice that was written
pub refilled : (items ws : List ℕ) → length ws ≡ length items → refill (length items) items ws ≡ ws
refilled items ws e = take_at ws (drop (length ws) items) (length items) e

sized-cut : (m n : ℕ) (xs : List ℕ) → length xs ≡ m * n → Sized m n (cut m n xs)
sized-cut zero n xs e = tt
sized-cut (suc m) n xs e =
    (length-take-le n xs (omega arith), sized-cut m n (drop n xs) (omega (arith, length-drop n xs)))

sized-beside : (m k n : ℕ) (A B : List (List ℕ)) → Sized m k A → Sized m n B → Sized m (k + n) (beside A B)
sized-beside zero k n [] B ha hb = tt
sized-beside zero k n (a ∷ A) B ha hb = absurd ha
sized-beside (suc m) k n [] B ha hb = absurd ha
sized-beside (suc m) k n (a ∷ A) [] ha hb = absurd hb
sized-beside (suc m) k n (a ∷ A) (b ∷ B) ha hb =
    (length-append a b ∙ ap₂ (λ x y. x + y) ha.0 hb.0, sized-beside m k n A B ha.1 hb.1)

beside-row : (m k n i : ℕ) (A B : List (List ℕ)) → Sized m k A → Sized m n B → i < m → get_or (beside A B) i []
    ≡ get_or A i [] ++ get_or B i []
beside-row zero k n i A B ha hb l = absurd (omega arith)
beside-row (suc m) k n i [] B ha hb l = absurd ha
beside-row (suc m) k n i (a ∷ A) [] ha hb l = absurd hb
beside-row (suc m) k n zero (a ∷ A) (b ∷ B) ha hb l = refl
beside-row (suc m) k n (suc i) (a ∷ A) (b ∷ B) ha hb l = beside-row m k n i A B ha.1 hb.1 (omega arith)

sized-right : (m k n : ℕ) (M : List (List ℕ)) → Sized m (k + n) M → Sized m n (map (drop k) M)
sized-right zero k n [] h = tt
sized-right zero k n (r ∷ M) h = absurd h
sized-right (suc m) k n [] h = absurd h
sized-right (suc m) k n (r ∷ M) h = let size : length r ≡ k + n = h.0 in
    (length-drop k r ∙ omega arith, sized-right m k n M h.1)

-- the rows of a block, each with that of the identity behind it
sized-block : (a : Block) → a.rows ≡ a.cols → Sized a.rows a.rows (matrix_of a)
sized-block a square = subst (λ k. Sized a.rows k (matrix_of a)) (sym square) (sized-cut a.rows a.cols a.entries a.full)

pub sized-joined : (a : Block) → a.rows ≡ a.cols → Sized a.rows (2 * a.rows) (beside (matrix_of a) (identity a.rows))
sized-joined a square =
    let double : a.rows + a.rows ≡ 2 * a.rows = omega arith in
    subst (λ k. Sized a.rows k (beside (matrix_of a) (identity a.rows))) double
    (sized-beside a.rows a.rows a.rows (matrix_of a) (identity a.rows) (sized-block a square) (sized-identity a.rows))

pub joined-next : (a : Block) (i : ℕ) (xs row x1 x2 x3 x4 : List ℕ) → i < a.rows → a.rows ≡ a.cols
    → xs ≡ first_rows i (beside (matrix_of a) (identity a.rows))
    → row ≡ get_or (matrix_of a) i [] → x1 ≡ xs ++ row → x2 ≡ x1 ++ zeros i → x3 ≡ x2 ++ 1 ∷ []
    → x4 ≡ x3 ++ zeros (a.rows - 1 - i)
    → x4 ≡ first_rows (i + 1) (beside (matrix_of a) (identity a.rows))
joined-next a i xs row x1 x2 x3 x4 l square now is_row e1 e2 e3 e4 =
    let n : ℕ = a.rows in
    let J : List (List ℕ) = beside (matrix_of a) (identity n) in
    let unit_row : List ℕ = zeros i ++ 1 ∷ zeros (n - 1 - i) in
    let pushed : x4 ≡ (((xs ++ row) ++ zeros i) ++ 1 ∷ []) ++ zeros (n - 1 - i) = e4
    ∙ ap (λ t. t ++ zeros (n - 1 - i)) (e3 ∙ ap (λ t. t ++ 1 ∷ []) (e2 ∙ ap (λ t. t ++ zeros i) e1)) in
    pushed
    ∙ append_assoc ((xs ++ row) ++ zeros i) (1 ∷ []) (zeros (n - 1 - i))
    ∙ append_assoc (xs ++ row) (zeros i) (1 ∷ zeros (n - 1 - i))
    ∙ append_assoc xs row unit_row
    ∙ ap₂ (λ t r. t ++ r) now
    (ap₂ (λ r s. r ++ s) is_row (sym (identity-row n i l))
    ∙ sym (beside-row n n n i (matrix_of a) (identity n) (sized-block a square) (sized-identity n) l))
    ∙ sym (first_rows-next i J (omega (arith, l, sized-size n (2 * n) J (sized-joined a square))))

-- the second halves of rows
pub sized-half : (n : ℕ) (rows : List ℕ) → length rows ≡ n * (2 * n) → Sized n n (map (drop n) (cut n (2 * n) rows))
sized-half n rows e =
    let double : 2 * n ≡ n + n = omega arith in
    sized-right n n n (cut n (2 * n) rows)
    (subst (λ k. Sized n k (cut n (2 * n) rows)) double (sized-cut n (2 * n) rows e))

pub half-next : (n i : ℕ) (rows xs more : List ℕ) → i < n → xs ≡ first_rows i (map (drop n) (cut n (2 * n) rows))
    → more ≡ xs ++ take ((i * (2 * n) + n + n) - (i * (2 * n) + n)) (drop (i * (2 * n) + n) rows)
    → more ≡ first_rows (i + 1) (map (drop n) (cut n (2 * n) rows))
half-next n i rows xs more l now is_more =
    let M : List (List ℕ) = cut n (2 * n) rows in
    let start : ℕ = i * (2 * n) + n in
    let width : (start + n) - start ≡ n = omega arith in
    let double : 2 * n ≡ n + n = omega arith in
    let in_M : i < length M = omega (arith, l, cut-size n (2 * n) rows) in
    is_more
    ∙ ap₂ (λ t k. t ++ take k (drop start rows)) now width
    ∙ ap (λ t. first_rows i (map (drop n) M) ++ take n t) (sym (drop-drop n (i * (2 * n)) rows))
    ∙ ap (λ t. first_rows i (map (drop n) M) ++ t)
    (sym (drop-take n n (drop (i * (2 * n)) rows)) ∙ ap (λ k. drop n (take k (drop (i * (2 * n)) rows))) (sym double)
    ∙ ap (drop n) (sym (cut-row n (2 * n) rows i l)) ∙ sym (get_or-map (drop n) M i [] [] in_M))
    ∙ sym (first_rows-next i (map (drop n) M) (omega (arith, in_M, length-map M (drop {A = ℕ} n))))

-- one more entry of the vector in the kernel
pub kernel_vector-next : (K : Ops) (n j i : ℕ) (rows v more : List ℕ) (x : ℕ) → i < n → j < 2 * n
    → v ≡ map (λ row. K.neg (get_or row j 0)) (take i (cut n (2 * n) rows))
    → x ≡ K.neg (get_or rows (i * (2 * n) + j) 0) → more ≡ v ++ x ∷ []
    → more ≡ map (λ row. K.neg (get_or row j 0)) (take (i + 1) (cut n (2 * n) rows))
kernel_vector-next K n j i rows v more x li lj now is_x is_more =
    is_more
    ∙ ap₂ (λ t y. t ++ y ∷ []) now (is_x ∙ ap K.neg (sym (cut-at n (2 * n) i j rows li lj)))
    ∙ sym (map_more (λ row. K.neg (get_or row j 0)) (cut n (2 * n) rows) i []
    (omega (arith, li, cut-size n (2 * n) rows)))

module _ (K : Ops) (h : IsField K) (a : Block) (square : a.rows ≡ a.cols) (scalars : AllScalars K a.entries) where
  own : Matrix K a.rows a.rows (matrix_of a)
  own = block-matrix_at K a a.rows a.rows refl (sym square) scalars

  pub joined-scalars : (start : List ℕ) → length start ≡ a.rows * (2 * a.rows) → cut a.rows (2 * a.rows) start
      ≡ beside (matrix_of a) (identity a.rows) → AllScalars K start
  joined-scalars start full is =
      let n : ℕ = a.rows in
      let double : n + n ≡ 2 * n = omega arith in
      cut-scalars K n (2 * n) start full
      (subst (Matrix K n (2 * n)) (sym is)
      (subst (λ k. Matrix K n k (beside (matrix_of a) (identity n))) double
      (beside-matrix K n n n (matrix_of a) (identity n) own (identity-matrix K h n))))

  pub block-inverse : (b : Block) (start rows shown : List ℕ) → cut a.rows (2 * a.rows) start ≡ beside (matrix_of a)
      (identity a.rows)
      → HasUnitColumns K a.rows a.rows (cut a.rows (2 * a.rows) start) (cut a.rows (2 * a.rows) rows) → shown ≡ rows
      → IsBlock b a.rows a.rows (map (drop a.rows) (cut a.rows (2 * a.rows) shown)) → IsInverseBlock K a b
  block-inverse b start rows shown is cleared is_shown block =
      let n : ℕ = a.rows in
      let B : List (List ℕ) = map (drop n) (cut n (2 * n) rows) in
      let inverse : IsInverse K n (matrix_of a) B =
      cleared-inverse K h n (matrix_of a) own (cut n (2 * n) rows)
      (subst (λ J. HasUnitColumns K n n J (cut n (2 * n) rows)) is cleared) in
      let has : IsBlock b n n B = subst (λ t. IsBlock b n n (map (drop n) (cut n (2 * n) t))) is_shown block in
      record {
        rows_are = has.rows_are;
        columns_are = has.columns_are ∙ square;
        scalars = is_block-scalars K b n n B (to_matrix K n n B inverse.shape) has;
        inverse = subst (IsInverse K n (matrix_of a)) (sym has.matrix_is) inverse;
      }

  pub block-kernel : (j : ℕ) (start rows shown v : List ℕ) → cut a.rows (2 * a.rows) start ≡ beside (matrix_of a)
      (identity a.rows)
      → HasNoPivot K a.rows j (cut a.rows (2 * a.rows) start) (cut a.rows (2 * a.rows) rows) → shown ≡ rows
      → v ≡ kernel_vector K a.rows j (cut a.rows (2 * a.rows) shown)
      → InKernel K a.rows (matrix_of a) v × ((B : List (List ℕ)) → IsInverse K a.rows (matrix_of a) B → ⊥)
  block-kernel j start rows shown v is stuck is_shown is_v =
      let n : ℕ = a.rows in
      let kernel : InKernel K n (matrix_of a) v =
      subst (InKernel K n (matrix_of a)) (sym (is_v ∙ ap (λ t. kernel_vector K n j (cut n (2 * n) t)) is_shown))
      (stuck-kernel K h n (matrix_of a) own j (cut n (2 * n) rows)
      (subst (λ J. HasNoPivot K n j J (cut n (2 * n) rows)) is stuck)) in
      (kernel, λ B inverse. kernel-no_inverse K h n (matrix_of a) own v B kernel inverse)

-- a block of one entry
module _ (K : Ops) (h : IsField K) (a : Block) (one : a.rows ≡ 1) (square : a.rows ≡ a.cols)
    (scalars : AllScalars K a.entries) where
  one-matrix : matrix_of a ≡ (get_or a.entries 0 0 ∷ []) ∷ []
  one-matrix = ap₂ (λ m n. cut m n a.entries) one (sym square ∙ one)
      ∙ ap (λ r. r ∷ []) (single a.entries (a.full ∙ ap₂ (λ m n. m * n) one (sym square ∙ one)))
    where
      single : (xs : List ℕ) → length xs ≡ 1 → take 1 xs ≡ get_or xs 0 0 ∷ []
      single [] e = absurd (omega arith)
      single (x ∷ xs) e = refl

  pub one-scalar : get_or a.entries 0 0 < K.order
  one-scalar = All-get_or (λ x. x < K.order) a.entries 0 0
      (omega (arith, a.full ∙ ap₂ (λ m n. m * n) one (sym square ∙ one))) scalars

  pub one-inverse : (b : Block) (y : ℕ) → get_or a.entries 0 0 ≢ 0 → y ≡ K.inv (get_or a.entries 0 0)
      → IsBlock b 1 1 (cut 1 1 (y ∷ [])) → IsInverseBlock K a b
  one-inverse b y not is_y has =
      let x : ℕ = get_or a.entries 0 0 in
      let B : List (List ℕ) = (y ∷ []) ∷ [] in
      let low : y < K.order = subst (λ t. t < K.order) (sym is_y) (h.inv_below x) in
      let xy : K.mul x y ≡ 1 = ap (K.mul x) is_y ∙ h.mul_inv x one-scalar not in
      let inverse : IsInverse K 1 ((x ∷ []) ∷ []) B = record {
        shape = from_matrix K 1 1 B ((low, tt), tt);
        left = ap (λ t. (t ∷ []) ∷ []) (h.add_zero (K.mul y x) (h.mul_below y x) ∙ h.mul_comm y x ∙ xy);
        right = ap (λ t. (t ∷ []) ∷ []) (h.add_zero (K.mul x y) (h.mul_below x y) ∙ xy);
      } in
      record {
        rows_are = has.rows_are ∙ sym one;
        columns_are = has.columns_are ∙ sym one ∙ square;
        scalars = is_block-scalars K b 1 1 B ((low, tt), tt) has;
        inverse = subst (λ n. IsInverse K n (matrix_of a) (matrix_of b)) (sym one)
            (subst₂ (IsInverse K 1) (sym one-matrix) (sym has.matrix_is) inverse);
      }

  pub one-kernel : (v : List ℕ) → get_or a.entries 0 0 ≡ 0 → v ≡ 1 ∷ [] → InKernel K a.rows (matrix_of a) v
      × ((B : List (List ℕ)) → IsInverse K a.rows (matrix_of a) B → ⊥)
  one-kernel v none is_v =
      let x : ℕ = get_or a.entries 0 0 in
      let at_one : InKernel K 1 ((x ∷ []) ∷ []) (1 ∷ []) = record {
        vector = from_vector K 1 (1 ∷ []) (one_below K h, tt);
        not_zero = λ e. cc;
        zero = ap (λ t. t ∷ []) (h.add_zero (K.mul x 1) (h.mul_below x 1) ∙ ap (λ t. K.mul t 1) none ∙ zero_mul K h 1);
      } in
      let kernel : InKernel K a.rows (matrix_of a) v =
      subst (λ n. InKernel K n (matrix_of a) v) (sym one)
      (subst₂ (InKernel K 1) (sym one-matrix) (sym is_v) at_one) in (
        kernel,
        λ B inverse. kernel-no_inverse K h a.rows (matrix_of a)
            (block-matrix_at K a a.rows a.rows refl (sym square) scalars) v B kernel inverse,
      )
