-- Parts of matrices, row by row.
use Rattle.std.proofs.Common.{◌≡◌, ℕ, zero, suc, ◌+◌, ◌*◌, ◌<◌, ◌≤◌, Bool, true, false, ◌&&◌, List, [], ◌∷◌, ◌++◌}
use Rattle.std.proofs.Common.{length, map, take, drop, get_or, refl, sym, ap, ap₂, ◌∙◌, subst, arith, eqb, length-drop}
use Rattle.std.proofs.Common.{add-one}
use Rattle.std.proofs.lemmas.List.{get_or-take, get_or-drop, get_or-map, length-map, length-take-le}
use Rattle.std.specs.List.{list_all}
use Rattle.dense_blocks.proofs.Cutting.{Sized, first_rows, first_rows-next}
use Rattle.dense_blocks.specs.Matrices.{cut}
use Rattle.block_sparse.specs.StoredBlocks.{is_zero}
use Rattle.block_sparse.specs.Grids.{width, window}

abbrev zeros_only : List ℕ → Bool
zeros_only row = list_all (λ a. eqb a 0) row

-- the rows of a matrix cut from a list have n entries each
pub sized-cut : (m n : ℕ) (xs : List ℕ) → m * n ≤ length xs → Sized m n (cut m n xs)
sized-cut zero n xs h = tt
sized-cut (suc m) n xs h =
    let more : suc m * n ≡ n + m * n = omega arith in
    (length-take-le n xs (omega (arith, more, h)), sized-cut m n (drop n xs) (omega (arith, more, h, length-drop n xs)))

sized-take : (h m n : ℕ) (A : List (List ℕ)) → Sized m n A → h ≤ m → Sized h n (take h A)
sized-take zero m n A s l = tt
sized-take (suc h) zero n A s l = absurd (omega arith)
sized-take (suc h) (suc m) n [] s l = absurd s
sized-take (suc h) (suc m) n (r ∷ A) s l = (s.0, sized-take h m n A s.1 (omega arith))

pub sized-drop : (k h m n : ℕ) (A : List (List ℕ)) → Sized m n A → k + h ≤ m → Sized h n (take h (drop k A))
sized-drop zero h m n A s l = sized-take h m n A s (omega arith)
sized-drop (suc k) h zero n A s l = absurd (omega arith)
sized-drop (suc k) h (suc m) n [] s l = absurd s
sized-drop (suc k) h (suc m) n (r ∷ A) s l = sized-drop k h m n A s.1 (omega arith)

sized-map : (h n col w : ℕ) (A : List (List ℕ)) → Sized h n A → col + w ≤ n
    → Sized h w (map (λ r. take w (drop col r)) A)
sized-map zero n col w [] s l = tt
sized-map zero n col w (r ∷ A) s l = absurd s
sized-map (suc h) n col w [] s l = absurd s
sized-map (suc h) n col w (r ∷ A) s l =
    (length-take-le w (drop col r) (omega (arith, length-drop col r, s.0, l)), sized-map h n col w A s.1 l)

pub sized-window : (row h col w m n : ℕ) (A : List (List ℕ)) → Sized m n A → row + h ≤ m → col + w ≤ n
    → Sized h w (window row h col w A)
sized-window row h col w m n A s r c = sized-map h n col w (take h (drop row A)) (sized-drop row h m n A s r) c

-- a row of a part
pub window-row : (row h col w : ℕ) (A : List (List ℕ)) (i : ℕ) → row + h ≤ length A → i < h
    → get_or (window row h col w A) i [] ≡ take w (drop col (get_or A (row + i) []))
window-row row h col w A i s l =
    get_or-map (λ r. take w (drop col r)) (take h (drop row A)) i [] []
    (subst (λ k. i < k) (sym (length-take-le h (drop row A) (omega (arith, length-drop row A)))) l)
    ∙ ap (λ r. take w (drop col r)) (get_or-take h (drop row A) i [] l ∙ get_or-drop row A i [])

pub window-size : (row h col w : ℕ) (A : List (List ℕ)) → row + h ≤ length A → length (window row h col w A) ≡ h
window-size row h col w A s = length-map (take h (drop row A)) (λ r. take w (drop col r))
    ∙ length-take-le h (drop row A) (omega (arith, length-drop row A))

-- a matrix is zero where each row is
pub zero-by_rows : (W : List (List ℕ)) → ((i : ℕ) → i < length W → list_all (λ a. eqb a 0) (get_or W i []) ≡ true)
    → is_zero W ≡ true
zero-by_rows [] h = refl
zero-by_rows (r ∷ W) h = ap₂ ◌&&◌ (h 0 (omega arith)) (zero-by_rows W (λ i l. h (suc i) (omega arith)))

pub not_zero-by_row : (W : List (List ℕ)) (i : ℕ) → i < length W → list_all (λ a. eqb a 0) (get_or W i []) ≡ false
    → is_zero W ≡ false
not_zero-by_row [] i l h = absurd (omega arith)
not_zero-by_row (r ∷ W) zero l h = ap (λ b. b && is_zero W) h
not_zero-by_row (r ∷ W) (suc i) l h = ap (λ b. zeros_only r && b) (not_zero-by_row W i (omega arith) h)
    ∙ and_false (zeros_only r)
  where
    and_false : (b : Bool) → (b && false) ≡ false
    and_false true = refl
    and_false false = refl

-- one more row of a part
pub window-next : (row h col w : ℕ) (A : List (List ℕ)) (i : ℕ) → row + h ≤ length A → i < h
    → first_rows (i + 1) (window row h col w A) ≡ first_rows i (window row h col w A)
    ++ take w (drop col (get_or A (row + i) []))
window-next row h col w A i s l =
    first_rows-next i (window row h col w A) (subst (λ k. i < k) (sym (window-size row h col w A s)) l)
    ∙ ap (λ t. first_rows i (window row h col w A) ++ t) (window-row row h col w A i s l)

-- how far the first cells reach
pub width-next : (ls : List (ℕ × ℕ)) (i : ℕ) → i < length ls → width (take (i + 1) ls) ≡ width (take i ls)
    + (get_or ls i (0, 0)).1
width-next ls i l = ap (λ k. width (take k ls)) (add-one i) ∙ next ls i l
  where
    next : (ls : List (ℕ × ℕ)) (i : ℕ) → i < length ls → width (take (suc i) ls) ≡ width (take i ls)
        + (get_or ls i (0, 0)).1
    next [] i l = absurd (omega arith)
    next (x ∷ xs) zero l = omega arith
    next (x ∷ xs) (suc i) l = omega (arith, next xs i (omega arith))

pub width-take : (ls : List (ℕ × ℕ)) (i : ℕ) → width (take i ls) ≤ width ls
width-take [] zero = omega arith
width-take [] (suc i) = omega arith
width-take (x ∷ xs) zero = omega arith
width-take (x ∷ xs) (suc i) = omega (arith, width-take xs i)

pub width-within : (ls : List (ℕ × ℕ)) (i : ℕ) → i < length ls → width (take i ls) + (get_or ls i (0, 0)).1 ≤ width ls
width-within ls i l = omega (arith, width-next ls i l, width-take ls (i + 1))
