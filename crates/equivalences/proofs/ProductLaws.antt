-- Joined coefficients times rows, added at listed cells; and the part of a transposed matrix at a cell.
use Rattle.std.proofs.Common.{◌≡◌, ℕ, zero, suc, ◌+◌, Bool, true, false, cond, ◌||◌, eqb, refl, sym, ap}
use Rattle.std.proofs.Common.{ap₂, ◌∙◌, List, [], ◌∷◌, map, take, drop, get_or, suc-add, zero-add}
use Rattle.std.proofs.lemmas.Bool.{eqb-true}
use Rattle.dense_blocks.specs.Field.{Ops}
use Rattle.dense_blocks.specs.FieldLaws.{IsField}
use Rattle.dense_blocks.specs.Vectors.{plus, combination}
use Rattle.dense_blocks.specs.Matrices.{image_of, product}
use Rattle.dense_blocks.proofs.Shapes.{Matrix}
use Rattle.dense_blocks.proofs.VectorLaws.{combination-combination}
use Rattle.dense_blocks.proofs.MatrixLaws.{matrix_sum-image_of, product-image_of, product-matrix, matrix_sum-matrix}
use Rattle.rising_lists.specs.Rising.{IsRising, has, keys}
use Rattle.rising_lists.proofs.Keyed.{rising_tail, head-absent}
use Rattle.block_sparse.specs.Grids.{segment, width}
use Rattle.reduce_step.specs.Differences.{listed_size}
use Rattle.equivalences.specs.Rows.{with_product, with_products}
use Rattle.equivalence_laws.specs.Transposes.{transpose}
use Rattle.equivalence_laws.proofs.TransposeLaws.{combination-matrix_sum}

-- an unlisted cell keeps its rows
pub products-absent : (K : Ops) (n : ℕ) (ls : List (ℕ × ℕ)) (J R : List (List ℕ)) (c : ℕ) (A : List (List ℕ))
    → has c (keys ls) ≡ false → with_products K n ls J R c A ≡ A
products-absent K n [] J R c A h = refl
products-absent K n (l ∷ ls) J R c A h = go (eqb l.0 c) h (products-absent K n ls (drop l.1 J) R c A)
  where
    go : (b : Bool) → (b || has c (keys ls)) ≡ false
        → (has c (keys ls) ≡ false → with_products K n ls (drop l.1 J) R c A ≡ A)
        → with_products K n ls (drop l.1 J) R c (cond b (with_product K n A (take l.1 J) R) A) ≡ A
    go true h later = cc
    go false h later = later h

-- a listed cell gets its part
pub products-listed : (K : Ops) (n : ℕ) (ls : List (ℕ × ℕ)) (J R : List (List ℕ)) (c : ℕ) (A : List (List ℕ))
    → IsRising (keys ls) → has c (keys ls) ≡ true
    → with_products K n ls J R c A ≡ with_product K n A (segment ls J c) R
products-listed K n [] J R c A r h = cc
products-listed K n (l ∷ ls) J R c A r h =
    go (eqb l.0 c) (eqb-true l.0 c) h (products-listed K n ls (drop l.1 J) R c A (rising_tail l.0 (keys ls) r))
  where
    go : (b : Bool) → (b ≡ true → l.0 ≡ c) → (b || has c (keys ls)) ≡ true
        → (has c (keys ls) ≡ true
        → with_products K n ls (drop l.1 J) R c A ≡ with_product K n A (segment ls (drop l.1 J) c) R)
        → with_products K n ls (drop l.1 J) R c (cond b (with_product K n A (take l.1 J) R) A)
        ≡ with_product K n A (cond b (take l.1 J) (segment ls (drop l.1 J) c)) R
    go true e h later = products-absent K n ls (drop l.1 J) R c (with_product K n A (take l.1 J) R)
        (ap (λ q. has q (keys ls)) (sym (e refl)) ∙ head-absent l.0 (keys ls) r)
    go false e h later = later h

-- the first columns, and the others, as rows
columns-taken : (m n : ℕ) (A : List (List ℕ)) → take m (transpose (m + n) A) ≡ transpose m (map (take m) A)
columns-taken zero n A = refl
columns-taken (suc m) n A =
    ap (λ k. take (suc m) (transpose k A)) (suc-add m n)
    ∙ ap₂ ◌∷◌ (firsts A) (columns-taken m n (map (λ row. drop 1 row) A) ∙ ap (transpose m) (rests A))
  where
    entry : (row : List ℕ) → get_or row 0 0 ≡ get_or (take (suc m) row) 0 0
    entry [] = refl
    entry (a ∷ row) = refl

    firsts : (A : List (List ℕ)) → map (λ row. get_or row 0 0) A ≡ map (λ row. get_or row 0 0) (map (take (suc m)) A)
    firsts [] = refl
    firsts (row ∷ A) = ap₂ ◌∷◌ (entry row) (firsts A)

    rest : (row : List ℕ) → take m (drop 1 row) ≡ drop 1 (take (suc m) row)
    rest [] = take-nil m
      where
        take-nil : (m : ℕ) → ◌≡◌ {A = List ℕ} (take m []) []
        take-nil zero = refl
        take-nil (suc m) = refl
    rest (a ∷ row) = refl

    rests : (A : List (List ℕ)) → map (take m) (map (λ row. drop 1 row) A)
        ≡ map (λ row. drop 1 row) (map (take (suc m)) A)
    rests [] = refl
    rests (row ∷ A) = ap₂ ◌∷◌ (rest row) (rests A)

columns-dropped : (m n : ℕ) (A : List (List ℕ)) → drop m (transpose (m + n) A) ≡ transpose n (map (drop m) A)
columns-dropped zero n A = ap (λ k. transpose k A) (zero-add n) ∙ ap (transpose n) (same A)
  where
    same : (A : List (List ℕ)) → A ≡ map (drop 0) A
    same [] = refl
    same (row ∷ A) = ap (λ B. row ∷ B) (same A)
columns-dropped (suc m) n A =
    ap (λ k. drop (suc m) (transpose k A)) (suc-add m n)
    ∙ columns-dropped m n (map (λ row. drop 1 row) A) ∙ ap (transpose n) (rests A)
  where
    rest : (row : List ℕ) → drop m (drop 1 row) ≡ drop (suc m) row
    rest [] = drop-nil m
      where
        drop-nil : (m : ℕ) → ◌≡◌ {A = List ℕ} (drop m []) []
        drop-nil zero = refl
        drop-nil (suc m) = refl
    rest (a ∷ row) = refl

    rests : (A : List (List ℕ)) → map (drop m) (map (λ row. drop 1 row) A) ≡ map (drop (suc m)) A
    rests [] = refl
    rests (row ∷ A) = ap₂ ◌∷◌ (rest row) (rests A)

map-twice : {A B C : Type 0} (f : B → C) (g : A → B) (xs : List A) → map f (map g xs) ≡ map (λ x. f (g x)) xs
map-twice f g [] = refl
map-twice f g (x ∷ xs) = ap (λ u. f (g x) ∷ u) (map-twice f g xs)

-- the rows at a cell of a transposed matrix are its columns there
pub segment-transpose : (ls : List (ℕ × ℕ)) (A : List (List ℕ)) (c : ℕ)
    → segment ls (transpose (width ls) A) c ≡ transpose (listed_size ls c) (map (λ row. segment ls row c) A)
segment-transpose [] A c = refl
segment-transpose (l ∷ ls) A c =
    elim (eqb l.0 c) as (λ b. cond b (take l.1 (transpose (l.1 + width ls) A))
    (segment ls (drop l.1 (transpose (l.1 + width ls) A)) c)
    ≡ transpose (cond b l.1 (listed_size ls c)) (map (λ row. cond b (take l.1 row) (segment ls (drop l.1 row) c)) A)) [
      | true ↦ columns-taken l.1 (width ls) A
      | false ↦
          ap (λ T. segment ls T c) (columns-dropped l.1 (width ls) A)
          ∙ segment-transpose ls (map (drop l.1) A) c
          ∙ ap (transpose (listed_size ls c)) (map-twice (λ row. segment ls row c) (drop l.1) A)
    ]

module _ (K : Ops) (F : IsField K) where
  -- what rows with a product more make of a vector
  pub product-more-image_of : (m k n : ℕ) (A J R : List (List ℕ)) (z : List ℕ) → Matrix K m n A → Matrix K m k J
      → Matrix K k n R
      → image_of K (with_product K n A J R) z ≡ plus K (image_of K A z) (image_of K J (image_of K R z))
  product-more-image_of m k n A J R z hA hJ hR =
      matrix_sum-image_of K F m n A (product K n J R) z hA (product-matrix K F m k n J R hJ hR)
      ∙ ap (plus K (image_of K A z)) (product-image_of K F k n J R z hR)

  pub product-more-combination : (m k n : ℕ) (A J R : List (List ℕ)) (z : List ℕ) → Matrix K m n A → Matrix K m k J
      → Matrix K k n R
      → combination K n z (with_product K n A J R) ≡ plus K (combination K n z A)
      (combination K n (combination K k z J) R)
  product-more-combination m k n A J R z hA hJ hR =
      combination-matrix_sum K F m n z A (product K n J R) hA (product-matrix K F m k n J R hJ hR)
      ∙ ap (plus K (combination K n z A)) (sym (combination-combination K F m k n z J R hJ hR))

  pub product-more-matrix : (m k n : ℕ) (A J R : List (List ℕ)) → Matrix K m n A → Matrix K m k J → Matrix K k n R
      → Matrix K m n (with_product K n A J R)
  product-more-matrix m k n A J R hA hJ hR =
      matrix_sum-matrix K F m n A (product K n J R) hA (product-matrix K F m k n J R hJ hR)
