-- Blocks of joined matrices, row by row, and their lines, one by one.
use Rattle.std.proofs.Common.{◌≡◌, ℕ, zero, suc, ◌+◌, ◌≤◌, min, Bool, true, false, Option, Some, None, List, [], ◌∷◌}
use Rattle.std.proofs.Common.{◌++◌}
use Rattle.std.proofs.Common.{if◌then◌else◌, map, length, take, drop, get_or, add-one, refl, sym, ap, ap₂, ◌∙◌, arith}
use Rattle.std.proofs.Common.{append_assoc, append-nil, ◌<◌, ⊎_elim, ◌&&◌, eqb}
use Rattle.std.proofs.lemmas.Bool.{cases_lt}
use Rattle.std.specs.List.{flat_map, concat, list_all}
use Rattle.std.specs.Option.{option_map_or}
use Rattle.std.specs.Fmt.{decimal}
use Rattle.std.proofs.lemmas.List.{map-append, take-map, drop-map, drop_min, length-take, get_or-drop, get_or_past}
use Rattle.std.proofs.Common.{length-append}
use Rattle.std.proofs.lemmas.List.Concat.{flat_map-append}
use Rattle.std.proofs.lemmas.List.Folds.{flat_map-map, list_all-append}
use Rattle.dense_blocks.specs.Matrices.{cut}
use Rattle.dense_blocks.specs.Blocks.{matrix_of}
use Rattle.dense_blocks.specs.declared.block.Block.{Block}
use Rattle.dense_blocks.proofs.Cutting.{cut-size}
use Rattle.reply_text.specs.declared.coordinates.Coordinates.{Coordinates}
use Rattle.reply_text.specs.JoinedMatrices.{JoinedMatrices, coordinates_after, all_coordinates, submatrix}
use Rattle.reply_text.specs.JoinedMatrices.{entries_between}
use Rattle.reply_text.specs.JoinedMatrices.{matrix_between, nonzero_line, block_line, block_lines}
use Rattle.reply_text.proofs.Writing.{one_line}
use Rattle.reply_text.specs.Parts.{spaced_words, lines_text, capped, row_between, entries_words}

-- ---- rows

nothing : (w col : ℕ) → take {A = ℕ} w (drop col []) ≡ []
nothing zero zero = refl
nothing zero (suc col) = refl
nothing (suc w) zero = refl
nothing (suc w) (suc col) = refl

-- no row of the block stands where the matrix has none
pub row-beyond : (b : Block) (s t : Coordinates) (i : ℕ) → b.rows ≤ t.first + i → row_between b s t i ≡ []
row-beyond b s t i beyond =
    ap (λ r. take s.size (drop s.first r)) (get_or_past (matrix_of b) (t.first + i) []
    (omega (arith, cut-size b.rows b.cols b.entries, beyond)))
    ∙ nothing s.size s.first

-- one row more, of which a missing one gives nothing
rows-more : (f : List ℕ → List ℕ) → f [] ≡ [] → (xs : List (List ℕ)) (i : ℕ)
    → concat (map f (take (suc i) xs)) ≡ concat (map f (take i xs)) ++ f (get_or xs i [])
rows-more f none [] zero = sym none
rows-more f none [] (suc i) = sym none
rows-more f none (x ∷ xs) zero = append-nil (f x)
rows-more f none (x ∷ xs) (suc i) =
    ap (λ rest. f x ++ rest) (rows-more f none xs i)
    ∙ sym (append_assoc (f x) (concat (map f (take i xs))) (f (get_or xs i [])))

-- the entries of the first i rows of the block from s to t
abbrev pub first_entries : ℕ → Block → Coordinates → Coordinates → List ℕ
first_entries i b s t = concat (submatrix t.first i s.first s.size (matrix_of b))

first-suc : (i : ℕ) (b : Block) (s t : Coordinates) → first_entries (suc i) b s t ≡ first_entries i b s t
    ++ row_between b s t i
first-suc i b s t =
    let f : List ℕ → List ℕ = λ r. take s.size (drop s.first r) in
    let rows = drop t.first (matrix_of b) in
    rows-more f (nothing s.size s.first) rows i
    ∙ ap (λ r. concat (map f (take i rows)) ++ f r) (get_or-drop t.first (matrix_of b) i [])

pub first-more : (i : ℕ) (b : Block) (s t : Coordinates) → first_entries (i + 1) b s t ≡ first_entries i b s t
    ++ row_between b s t i
first-more i b s t = ap (λ n. first_entries n b s t) (add-one i) ∙ first-suc i b s t

-- ---- zero rows

abbrev are_zero : List ℕ → Bool
are_zero entries = list_all (λ e. eqb e 0) entries

and-false : (a : Bool) → (a && false) ≡ false
and-false true = refl
and-false false = refl

-- one zero row more
pub zero-more : (i : ℕ) (b : Block) (s t : Coordinates) → list_all (λ e. eqb e 0) (first_entries i b s t) ≡ true
    → list_all (λ e. eqb e 0) (row_between b s t i) ≡ true
    → list_all (λ e. eqb e 0) (first_entries (i + 1) b s t) ≡ true
zero-more i b s t h is_zero =
    ap are_zero (first-more i b s t)
    ∙ list_all-append (λ e. eqb e 0) (first_entries i b s t) (row_between b s t i) ∙ ap₂ ◌&&◌ h is_zero

-- a row that is not zero
pub not-zero : (i n : ℕ) (b : Block) (s t : Coordinates) → i < n
    → list_all (λ e. eqb e 0) (row_between b s t i) ≡ false
    → list_all (λ e. eqb e 0) (first_entries n b s t) ≡ false
not-zero i zero b s t l e = absurd (omega arith)
not-zero i (suc m) b s t l e =
    ap are_zero (first-suc m b s t)
    ∙ list_all-append (λ x. eqb x 0) (first_entries m b s t) (row_between b s t m)
    ∙ ⊎_elim (λ (k : i < m). before (not-zero i m b s t k e)) last (cases_lt i m)
  where
    before : are_zero (first_entries m b s t) ≡ false
        → (are_zero (first_entries m b s t) && are_zero (row_between b s t m)) ≡ false
    before is = ap (λ x. x && are_zero (row_between b s t m)) is

    last : m ≤ i → (are_zero (first_entries m b s t) && are_zero (row_between b s t m)) ≡ false
    last k =
        let same : m ≡ i = omega (arith, k, l) in
        ap (λ x. are_zero (first_entries m b s t) && x) (ap (λ j. are_zero (row_between b s t j)) same ∙ e)
        ∙ and-false (are_zero (first_entries m b s t))

words-append : (xs ys : List ℕ) → entries_words (xs ++ ys) ≡ entries_words xs ++ entries_words ys
words-append xs ys =
    ap spaced_words (map-append decimal xs ys) ∙ flat_map-append (λ word. 32 ∷ word) (map decimal xs) (map decimal ys)

-- what is written, after one row more
pub words-more : (i : ℕ) (b : Block) (s t : Coordinates) (start old new : List ℕ)
    → old ≡ start ++ entries_words (first_entries i b s t)
    → new ≡ old ++ entries_words (row_between b s t i)
    → new ≡ start ++ entries_words (first_entries (i + 1) b s t)
words-more i b s t start old new h more =
    let first = first_entries i b s t in
    let row = row_between b s t i in
    more ∙ ap (λ text. text ++ entries_words row) h ∙ append_assoc start (entries_words first) (entries_words row)
    ∙ ap (λ text. start ++ text) (sym (words-append first row) ∙ ap entries_words (sym (first-more i b s t)))

-- ---- lines

-- what is written of a block that is not zero
pub nonzero-written : (word : List ℕ) (s t : Coordinates) (entries old new : List ℕ)
    → list_all (λ e. eqb e 0) entries ≡ false
    → new ≡ (((old ++ (word ++ 32 ∷ decimal s.cell)) ++ 32 ∷ decimal t.cell) ++ entries_words entries) ++ 10 ∷ []
    → new ≡ old ++ lines_text (nonzero_line word s t entries)
nonzero-written word s t entries old new nonzero written =
    let words = decimal s.cell ∷ decimal t.cell ∷ map decimal entries in
    let one = 32 ∷ decimal s.cell in
    let two = 32 ∷ decimal t.cell in
    let rest = entries_words entries in
    written
    ∙ ap (λ text. text ++ 10 ∷ []) (append_assoc (old ++ (word ++ one)) two rest
    ∙ append_assoc old (word ++ one) (two ++ rest) ∙ ap (λ text. old ++ text) (append_assoc word one (two ++ rest)))
    ∙ append_assoc old (word ++ spaced_words words) (10 ∷ []) ∙ ap (λ text. old ++ text) (one_line word words)
    ∙ ap (λ (zero : Bool). old ++ lines_text (if zero then [] else (word ∷ words) ∷ [])) (sym nonzero)

flat_map-more : {X A : Type 0} (f : X → List A) (xs : List X) (x : X) → flat_map f (xs ++ x ∷ []) ≡ flat_map f xs ++ f x
flat_map-more f xs x = flat_map-append f xs (x ∷ []) ∙ ap (λ rest. flat_map f xs ++ rest) (append-nil (f x))

-- how many lines, after those of one member more
pub lines-count : {X : Type 0} (f : X → List (List (List ℕ))) (xs : List X) (i : ℕ) (x : X) (old new n : ℕ)
    → old ≡ length (flat_map f (take i xs)) → n ≡ length (f x) → new ≡ old + n
    → take (i + 1) xs ≡ take i xs ++ x ∷ []
    → new ≡ length (flat_map f (take (i + 1) xs))
lines-count f xs i x old new n h one more next =
    more ∙ ap₂ ◌+◌ h one ∙ sym (length-append (flat_map f (take i xs)) (f x))
    ∙ ap length (sym (flat_map-more f (take i xs) x)) ∙ ap (λ ys. length (flat_map f ys)) (sym next)

-- ---- coordinates

pub coordinates-more : (earlier cells : List (ℕ × ℕ × ℕ)) (c : ℕ × ℕ × ℕ)
    → all_coordinates earlier (cells ++ c ∷ []) ≡ all_coordinates earlier cells
    ++ coordinates_after (earlier ++ cells) c ∷ []
coordinates-more earlier [] c = ap (λ es. coordinates_after es c ∷ []) (sym (append-nil earlier))
coordinates-more earlier (x ∷ cells) c =
    ap (λ rest. coordinates_after earlier x ∷ rest) (coordinates-more (earlier ++ x ∷ []) cells c
    ∙ ap (λ es. all_coordinates (earlier ++ x ∷ []) cells ++ coordinates_after es c ∷ [])
    (append_assoc earlier (x ∷ []) cells))

-- the list of those found, after one cell more
pub found-more : (cells : List (ℕ × ℕ × ℕ)) (i : ℕ) (c : ℕ × ℕ × ℕ) (old new : List Coordinates) (x : Coordinates)
    → old ≡ map capped (all_coordinates [] (take i cells))
    → new ≡ old ++ x ∷ []
    → x ≡ capped (coordinates_after (take i cells) c)
    → take (i + 1) cells ≡ take i cells ++ c ∷ []
    → new ≡ map capped (all_coordinates [] (take (i + 1) cells))
found-more cells i c old new x h more is next =
    let first = all_coordinates [] (take i cells) in
    more ∙ ap₂ (λ ys y. ys ++ y ∷ []) h is ∙ sym (map-append capped first (coordinates_after (take i cells) c ∷ []))
    ∙ ap (map capped) (sym (coordinates-more [] (take i cells) c)) ∙ ap (λ ys. map capped (all_coordinates [] ys))
    (sym next)

-- ---- no block reaches beyond the cap

drop-capped : {X : Type 0} (n : ℕ) (xs : List X) → length xs ≤ 4096 → drop (min n 4096) xs ≡ drop n xs
drop-capped n xs short =
    let once : min (min n 4096) (length xs) ≡ min n (length xs) = omega (arith, short) in
    sym (drop_min (min n 4096) xs) ∙ ap (λ k. drop k xs) once ∙ drop_min n xs

same-rows : (F G : List ℕ → List ℕ) (m n : ℕ) (entries : List ℕ) → ((r : List ℕ) → length r ≤ n → F r ≡ G r)
    → map F (cut m n entries) ≡ map G (cut m n entries)
same-rows F G zero n entries same = refl
same-rows F G (suc m) n entries same =
    ap₂ ◌∷◌ (same (take n entries) (omega (arith, length-take n entries))) (same-rows F G m n (drop n entries) same)

some-rows : (F : List ℕ → List ℕ) (h row : ℕ) (A : List (List ℕ)) → map F (take h (drop row A))
    ≡ take h (drop row (map F A))
some-rows F h row A = sym (take-map F h (drop row A)) ∙ ap (take h) (sym (drop-map F row A))

entries-capped : (b : Block) (s t : Coordinates) → entries_between b (capped s) (capped t) ≡ entries_between b s t
entries-capped b s t =
    let A = matrix_of b in
    let F : List ℕ → List ℕ = λ r. take s.size (drop (min s.first 4096) r) in
    let G : List ℕ → List ℕ = λ r. take s.size (drop s.first r) in
    let same : map F A ≡ map G A = same-rows F G b.rows b.cols b.entries
    (λ r l. ap (take s.size) (drop-capped s.first r (omega (arith, l, b.cols_fit)))) in
    ap (λ rows. concat (map F (take t.size rows)))
    (drop-capped t.first A (omega (arith, cut-size b.rows b.cols b.entries, b.rows_fit)))
    ∙ ap concat (some-rows F t.size t.first A ∙ ap (λ rows. take t.size (drop t.first rows)) same
    ∙ sym (some-rows G t.size t.first A))

line-capped : (word : List ℕ) (m : JoinedMatrices) (s t : Coordinates) → block_line word m (capped s) (capped t)
    ≡ block_line word m s t
line-capped word m s t = found (matrix_between m s t)
  where
    found : (o : Option Block)
        → option_map_or (λ b. nonzero_line word (capped s) (capped t) (entries_between b (capped s) (capped t))) o []
        ≡ option_map_or (λ b. nonzero_line word s t (entries_between b s t)) o []
    found None = refl
    found (Some b) = ap (nonzero_line word s t) (entries-capped b s t)

flat_map-same : {X A : Type 0} (f g : X → List A) (xs : List X) → ((x : X) → f x ≡ g x) → flat_map f xs ≡ flat_map g xs
flat_map-same f g [] same = refl
flat_map-same f g (x ∷ xs) same = ap₂ ◌++◌ (same x) (flat_map-same f g xs same)

-- the lines of all blocks, by coordinates that begin at the cap at most
pub lines-capped : (word : List ℕ) (m : JoinedMatrices) (from to : List Coordinates)
    → from ≡ map capped (all_coordinates [] m.from) → to ≡ map capped (all_coordinates [] m.to)
    → flat_map (λ s. flat_map (λ t. block_line word m s t) to) from ≡ block_lines word m
lines-capped word m from to is_from is_to =
    ap₂ (λ ss ts. flat_map (λ s. flat_map (λ t. block_line word m s t) ts) ss) is_from is_to
    ∙ flat_map-map (λ s. flat_map (λ t. block_line word m s t) (map capped all_to)) capped (all_coordinates [] m.from)
    ∙ flat_map-same (λ s. flat_map (λ t. block_line word m (capped s) t) (map capped all_to))
    (λ s. flat_map (λ t. block_line word m s t) all_to) (all_coordinates [] m.from)
    (λ s. flat_map-map (λ t. block_line word m (capped s) t) capped all_to
    ∙ flat_map-same (λ t. block_line word m (capped s) (capped t)) (λ t. block_line word m s t) all_to
    (λ t. line-capped word m s t))
  where
    all_to : List Coordinates
    all_to = all_coordinates [] m.to
