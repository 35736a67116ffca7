-- The parts of a joined matrix after a removal: a part of C - c (a r) is the part of C, less what the parts of c and r
-- give.
use Rattle.std.proofs.Common.{◌≡◌, ℕ, zero, suc, ◌+◌, Bool, true, false, cond, ◌||◌, eqb, List, [], ◌∷◌, ◌++◌, map}
use Rattle.std.proofs.Common.{take, drop, refl, sym, ap, ap₂, ◌∙◌, arith}
use Rattle.std.specs.Prelude.{◌==◌, if◌then◌else◌}
use Rattle.std.proofs.lemmas.Bool.{eq-eqb, eqb-true}
use Rattle.std.proofs.lemmas.List.{take-map, drop-map, take_all}
use Rattle.std.proofs.lemmas.List.Elements.{All-head, All-tail}
use Rattle.std.proofs.Math.Seq.{drop-append_seam}
use Rattle.dense_blocks.specs.Field.{Ops}
use Rattle.dense_blocks.specs.Vectors.{zeros, plus, multiple, combination}
use Rattle.dense_blocks.specs.MatrixFacts.{negative, matrix_sum, matrix_negative}
use Rattle.dense_blocks.specs.Matrices.{product}
use Rattle.dense_blocks.proofs.VectorLaws.{nil-plus, plus-nil, zeros-append, zeros-size, take-zeros}
use Rattle.dense_blocks.proofs.Cutting.{Sized, sized-size}
use Rattle.rising_lists.specs.Rising.{has, keys}
use Rattle.block_complexes.specs.BlockComplexes.{cells, size_of}
use Rattle.block_sparse.specs.StoredBlocks.{StoredBlocks, matrix, complex_in}
use Rattle.removals.specs.Removals.{corner}
use Rattle.block_sparse.specs.Grids.{AreSized, width, segment, part, columns_of}

-- how many coordinates a listed cell has
abbrev pub listed_size : List (ℕ × ℕ) → ℕ → ℕ
listed_size [] c = 0
listed_size (l ∷ ls) c = if l.0 == c then l.1 else listed_size ls c

segment-map : {A B : Type 0} (f : A → B) (ls : List (ℕ × ℕ)) (xs : List A) (c : ℕ) → segment ls (map f xs) c
    ≡ map f (segment ls xs c)
segment-map f [] xs c = refl
segment-map {A} {B} f (l ∷ ls) xs c = go (eqb l.0 c) (segment-map f ls (drop l.1 xs) c)
  where
    go : (b : Bool) → segment ls (map f (drop l.1 xs)) c ≡ map f (segment ls (drop l.1 xs) c)
        → cond b (take l.1 (map f xs)) (segment ls (drop l.1 (map f xs)) c)
        ≡ map f (cond b (take l.1 xs) (segment ls (drop l.1 xs) c))
    go true e = take-map f l.1 xs
    go false e = ap (λ ys. segment ls ys c) (drop-map f l.1 xs) ∙ e

-- an operation on lists, item by item, as long as the shorter
module _ {A : Type 0} (op : A → A → A) (zip : List A → List A → List A) (left-nil : (ys : List A) → zip [] ys ≡ [])
    (right-nil : (xs : List A) → zip xs [] ≡ [])
    (both : (x y : A) (xs ys : List A) → zip (x ∷ xs) (y ∷ ys) ≡ op x y ∷ zip xs ys) where
  take-zip : (n : ℕ) (xs ys : List A) → take n (zip xs ys) ≡ zip (take n xs) (take n ys)
  take-zip zero xs ys = sym (left-nil [])
  take-zip (suc n) [] ys = ap (take (suc n)) (left-nil ys) ∙ sym (left-nil (take (suc n) ys))
  take-zip (suc n) (x ∷ xs) [] = ap (take (suc n)) (right-nil (x ∷ xs)) ∙ sym (right-nil (x ∷ take n xs))
  take-zip (suc n) (x ∷ xs) (y ∷ ys) =
      ap (take (suc n)) (both x y xs ys) ∙ ap (λ zs. op x y ∷ zs) (take-zip n xs ys)
      ∙ sym (both x y (take n xs) (take n ys))

  drop-zip : (n : ℕ) (xs ys : List A) → drop n (zip xs ys) ≡ zip (drop n xs) (drop n ys)
  drop-zip zero xs ys = refl
  drop-zip (suc n) [] ys = ap (drop (suc n)) (left-nil ys) ∙ sym (left-nil (drop (suc n) ys))
  drop-zip (suc n) (x ∷ xs) [] = ap (drop (suc n)) (right-nil (x ∷ xs)) ∙ sym (right-nil (drop n xs))
  drop-zip (suc n) (x ∷ xs) (y ∷ ys) = ap (drop (suc n)) (both x y xs ys) ∙ drop-zip n xs ys

  segment-zip : (ls : List (ℕ × ℕ)) (xs ys : List A) (c : ℕ) → segment ls (zip xs ys) c ≡ zip (segment ls xs c)
      (segment ls ys c)
  segment-zip [] xs ys c = sym (left-nil [])
  segment-zip (l ∷ ls) xs ys c = go (eqb l.0 c) (segment-zip ls (drop l.1 xs) (drop l.1 ys) c)
    where
      go : (b : Bool) → segment ls (zip (drop l.1 xs) (drop l.1 ys)) c ≡ zip (segment ls (drop l.1 xs) c)
          (segment ls (drop l.1 ys) c)
          → cond b (take l.1 (zip xs ys)) (segment ls (drop l.1 (zip xs ys)) c)
          ≡ zip (cond b (take l.1 xs) (segment ls (drop l.1 xs) c)) (cond b (take l.1 ys) (segment ls (drop l.1 ys) c))
      go true e = take-zip l.1 xs ys
      go false e = ap (λ zs. segment ls zs c) (drop-zip l.1 xs ys) ∙ e

drop-zeros : (m n : ℕ) → drop m (zeros (m + n)) ≡ zeros n
drop-zeros m n = ap (drop m) (zeros-append m n) ∙ ap (λ k. drop k (zeros m ++ zeros n)) (sym (zeros-size m))
    ∙ drop-append_seam (zeros m) (zeros n)

segment-zeros : (ls : List (ℕ × ℕ)) (c : ℕ) → segment ls (zeros (width ls)) c ≡ zeros (listed_size ls c)
segment-zeros [] c = refl
segment-zeros (l ∷ ls) c = go (eqb l.0 c) (segment-zeros ls c)
  where
    go : (b : Bool) → segment ls (zeros (width ls)) c ≡ zeros (listed_size ls c)
        → cond b (take l.1 (zeros (l.1 + width ls))) (segment ls (drop l.1 (zeros (l.1 + width ls))) c)
        ≡ zeros (cond b l.1 (listed_size ls c))
    go true e = take-zeros l.1 (l.1 + width ls) (omega arith)
    go false e = ap (λ xs. segment ls xs c) (drop-zeros l.1 (width ls)) ∙ e

module _ (K : Ops) where
  segment-plus : (ls : List (ℕ × ℕ)) (u v : List ℕ) (c : ℕ) → segment ls (plus K u v) c ≡ plus K (segment ls u c)
      (segment ls v c)
  segment-plus = segment-zip K.add (plus K) (nil-plus K) (plus-nil K) (λ a b u v. refl)

  segment-matrix_sum : (ls : List (ℕ × ℕ)) (A B : List (List ℕ)) (c : ℕ) → segment ls (matrix_sum K A B) c
      ≡ matrix_sum K (segment ls A c) (segment ls B c)
  segment-matrix_sum = segment-zip (plus K) (matrix_sum K) (λ B. refl) sum-nil (λ a b A B. refl)
    where
      sum-nil : (A : List (List ℕ)) → matrix_sum K A [] ≡ []
      sum-nil [] = refl
      sum-nil (a ∷ A) = refl

  -- the columns of a cell in a sum, a negative, a product
  columns-matrix_sum : (left : List (ℕ × ℕ)) (A B : List (List ℕ)) (s : ℕ) → columns_of left (matrix_sum K A B) s
      ≡ matrix_sum K (columns_of left A s) (columns_of left B s)
  columns-matrix_sum left [] B s = refl
  columns-matrix_sum left (a ∷ A) [] s = refl
  columns-matrix_sum left (a ∷ A) (b ∷ B) s = ap₂ ◌∷◌ (segment-plus left a b s) (columns-matrix_sum left A B s)

  columns-matrix_negative : (left : List (ℕ × ℕ)) (A : List (List ℕ)) (s : ℕ) → columns_of left (matrix_negative K A) s
      ≡ matrix_negative K (columns_of left A s)
  columns-matrix_negative left [] s = refl
  columns-matrix_negative left (a ∷ A) s = ap₂ ◌∷◌ (segment-map K.neg left a s) (columns-matrix_negative left A s)

  segment-combination : (left : List (ℕ × ℕ)) (cs : List ℕ) (B : List (List ℕ)) (s : ℕ)
      → segment left (combination K (width left) cs B) s ≡ combination K (listed_size left s) cs (columns_of left B s)
  segment-combination left [] B s = segment-zeros left s
  segment-combination left (c ∷ cs) [] s = segment-zeros left s
  segment-combination left (c ∷ cs) (b ∷ B) s =
      segment-plus left (multiple K c b) (combination K (width left) cs B) s
      ∙ ap₂ (plus K) (segment-map (K.mul c) left b s) (segment-combination left cs B s)

  pub columns-product : (left : List (ℕ × ℕ)) (A B : List (List ℕ)) (s : ℕ)
      → columns_of left (product K (width left) A B) s ≡ product K (listed_size left s) A (columns_of left B s)
  columns-product left [] B s = refl
  columns-product left (a ∷ A) B s = ap₂ ◌∷◌ (segment-combination left a B s) (columns-product left A B s)

  -- the part from s to t of C - c (a r)
  pub part-corners : (left below : List (ℕ × ℕ)) (C c a r : List (List ℕ)) (s t : ℕ)
      → part left below (matrix_sum K C (matrix_negative K (product K (width left) c (product K (width left) a r)))) s t
      ≡ matrix_sum K (part left below C s t)
      (matrix_negative K (product K (listed_size left s) (segment below c t)
      (product K (listed_size left s) a (columns_of left r s))))
  part-corners left below C c a r s t =
      let n = width left in
      let taken : List (List ℕ) = product K n c (product K n a r) in
      ap (λ A. columns_of left A s) (segment-matrix_sum below C (matrix_negative K taken) t)
      ∙ columns-matrix_sum left (segment below C t) (segment below (matrix_negative K taken) t) s
      ∙ ap (matrix_sum K (part left below C s t))
      (ap (λ A. columns_of left A s) (segment-map (negative K) below taken t)
      ∙ columns-matrix_negative left (segment below taken t) s
      ∙ ap (matrix_negative K)
      (ap (λ A. columns_of left A s) (segment-map (λ row. combination K n row (product K n a r)) below c t)
      ∙ columns-product left (segment below c t) (product K n a r) s
      ∙ ap (product K (listed_size left s) (segment below c t)) (columns-product left a r s)))

-- with one cell alone below, or on the left
pub part-below_one : (left : List (ℕ × ℕ)) (y m l : ℕ) (r : List (List ℕ)) (s : ℕ) → Sized m l r
    → part left ((y, m) ∷ []) r s y ≡ columns_of left r s
part-below_one left y m l r s h =
    ap (λ b. columns_of left (cond b (take m r) []) s) (eq-eqb y y refl)
    ∙ ap (λ A. columns_of left A s) (take_all m r (omega (arith, sized-size m l r h)))

pub part-left_one : (below : List (ℕ × ℕ)) (x n k : ℕ) (c : List (List ℕ)) (t : ℕ) → Sized k n c
    → part ((x, n) ∷ []) below c x t ≡ segment below c t
part-left_one below x n k c t h =
    ap (λ b. map (λ row. cond b (take n row) []) (segment below c t)) (eq-eqb x x refl)
    ∙ sym (segment-map (take n) below c t) ∙ ap (λ A. segment below A t) (whole k c h)
  where
    whole : (k : ℕ) (B : List (List ℕ)) → Sized k n B → map (take n) B ≡ B
    whole zero [] g = refl
    whole zero (b ∷ B) g = absurd g
    whole (suc k) [] g = absurd g
    whole (suc k) (b ∷ B) g = ap₂ ◌∷◌ (take_all n b (omega (arith, g.0))) (whole k B g.1)

pub listed_size-live : (live : List (ℕ × ℕ × ℕ)) (ls : List (ℕ × ℕ)) → AreSized live ls → (c : ℕ)
    → has c (keys ls) ≡ true → listed_size ls c ≡ size_of live c
listed_size-live live [] h c m = cc
listed_size-live live (l ∷ ls) h c m = go (eqb l.0 c) (eqb-true l.0 c) m
    (listed_size-live live ls (All-tail (λ (l : ℕ × ℕ). (has l.0 (cells live) ≡ true) × (size_of live l.0 ≡ l.1)) l ls
    h) c)
  where
    go : (b : Bool) → (b ≡ true → l.0 ≡ c) → (b || has c (keys ls)) ≡ true
        → (has c (keys ls) ≡ true → listed_size ls c ≡ size_of live c)
        → cond b l.1 (listed_size ls c) ≡ size_of live c
    go true e m later = sym (All-head (λ (l : ℕ × ℕ). (has l.0 (cells live) ≡ true) × (size_of live l.0 ≡ l.1)) l ls
        h).1 ∙ ap (size_of live) (e refl)
    go false e m later = later m

-- C, r and c join the matrices of v from the left to below, from the left to y, and from x to below; then C - c (a r)
-- joins the corners
pub joined-corners : (K : Ops) (v : StoredBlocks) (x y m n k l : ℕ) (left below : List (ℕ × ℕ))
    (C c a r : List (List ℕ)) → AreSized v.live left
    → ((s t : ℕ) → has s (keys left) ≡ true → has t (keys below) ≡ true → part left below C s t ≡ matrix v s t)
    → ((s : ℕ) → has s (keys left) ≡ true → part left ((y, m) ∷ []) r s y ≡ matrix v s y) → Sized m l r
    → ((t : ℕ) → has t (keys below) ≡ true → part ((x, n) ∷ []) below c x t ≡ matrix v x t) → Sized k n c
    → (s t : ℕ) → has s (keys left) ≡ true → has t (keys below) ≡ true
    → part left below (matrix_sum K C (matrix_negative K (product K (width left) c (product K (width left) a r)))) s t
    ≡ corner K (complex_in v) x y a s t
joined-corners K v x y m n k l left below C c a r sized C-is r-is r-sized c-is c-sized s t hs ht =
    let column : segment below c t ≡ matrix v x t = sym (part-left_one below x n k c t c-sized) ∙ c-is t ht in
    let row : columns_of left r s ≡ matrix v s y = sym (part-below_one left y m l r s r-sized) ∙ r-is s hs in
    part-corners K left below C c a r s t
    ∙ ap₂ (λ A p. matrix_sum K A
    (matrix_negative K (product K p (segment below c t) (product K p a (columns_of left r s))))) (C-is s t hs ht)
    (listed_size-live v.live left sized s hs)
    ∙ ap₂ (λ A B. matrix_sum K (matrix v s t)
    (matrix_negative K (product K (size_of v.live s) A (product K (size_of v.live s) a B)))) column row
