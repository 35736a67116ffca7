-- A text cut at the first byte that passes a test.
use Rattle.std.proofs.Common.{◌≡◌, ℕ, zero, suc, add-one, sym, ◌+◌, ◌-◌, ◌≤◌, ◌<◌, Bool, true, false, cond, ltb, not}
use Rattle.std.proofs.Common.{List, [], ◌∷◌, length, take, drop, filter, nat_eq, Some, None, refl, ap, ◌∙◌, arith}
use Rattle.std.proofs.Common.{rules}
use Rattle.std.specs.List.{slice_split, position, position_or_len}
use Rattle.std.specs.Str.Lines.{lines, lines_of_parts, strip_carriage_return}
use Rattle.std.proofs.lemmas.List.Splits.{slice_split_first, length-slice_split}
use Rattle.std.proofs.lemmas.Grind.{common_steps}
use Rattle.std.proofs.lemmas.List.{drop_all, length-drop}
use Rattle.std.proofs.lemmas.Bool.{ltb-true, ltb-false}
use Rattle.sheaf_text.specs.Cut.{words}
use Rattle.sheaf_text.specs.Forms.{is_blank, has_bytes}

found : (b : Bool) (n i : ℕ) → cond b (Some n) None ≡ Some i → (b ≡ true) × (n ≡ i)
found true n i e = (refl, cc)
found false n i e = absurd cc

missed : (b : Bool) (n : ℕ) → cond b (Some n) None ≡ None → b ≡ false
missed true n e = absurd cc
missed false n e = refl

-- no byte passes: the text is the one part
whole_more : (p : ℕ → Bool) (b : ℕ) (bytes : List ℕ) (t : Bool) → p b ≡ t
    → (length bytes ≤ position_or_len p bytes → slice_split p bytes ≡ bytes ∷ []) → length bytes + 1
    ≤ cond (not t) (1 + position_or_len p bytes) 0 → slice_split p (b ∷ bytes) ≡ (b ∷ bytes) ∷ []
whole_more p b bytes true e rest h = absurd (omega arith)
whole_more p b bytes false e rest h = let r = rest (omega arith) in rw (e, r) refl

whole : (p : ℕ → Bool) (bytes : List ℕ) → length bytes ≤ position_or_len p bytes → slice_split p bytes ≡ bytes ∷ []
whole p [] h = refl
whole p (b ∷ bytes) h = whole_more p b bytes (p b) refl (whole p bytes) (omega arith)

pub one_part : (p : ℕ → Bool) (bytes : List ℕ) → position p bytes ≡ None → slice_split p bytes ≡ bytes ∷ []
one_part p bytes e = whole p bytes (ltb-false _ _ (missed _ _ e))

pub first_part : (p : ℕ → Bool) (bytes : List ℕ) (i : ℕ) → position p bytes ≡ Some i → slice_split p bytes
    ≡ take i bytes ∷ slice_split p (take (length bytes - (i + 1)) (drop (i + 1) bytes))
first_part p bytes i e =
    let f = found (ltb (position_or_len p bytes) (length bytes)) (position_or_len p bytes) i e in
    let rest : take (length bytes - (i + 1)) (drop (i + 1) bytes) ≡ drop (i + 1) bytes = grind (arith, common_steps) in
    rw rest (rw f.1 at (slice_split_first p bytes 0 (ltb-true _ _ f.0)))

-- ---- lines

parts_more : (x : List ℕ) (parts : List (List ℕ)) → 0 < length parts → lines_of_parts (x ∷ parts)
    ≡ strip_carriage_return x ∷ lines_of_parts parts
parts_more x [] h = absurd (omega arith)
parts_more x (y ∷ more) h = refl

last_part : (x : List ℕ) → 0 < length x → lines_of_parts (x ∷ []) ≡ x ∷ []
last_part [] h = absurd (omega arith)
last_part (b ∷ x) h = search rules

abbrev is_end : ℕ → Bool
is_end b = nat_eq b 10

pub lines_whole : (bytes : List ℕ) → 0 < length bytes → position is_end bytes ≡ None → lines bytes ≡ bytes ∷ []
lines_whole bytes some e = ap lines_of_parts (one_part is_end bytes e) ∙ last_part bytes some

pub lines_first : (bytes : List ℕ) (i : ℕ) → position is_end bytes ≡ Some i
    → lines bytes ≡ strip_carriage_return (take i bytes) ∷ lines (take (length bytes - (i + 1)) (drop (i + 1) bytes))
lines_first bytes i e =
    let rest = take (length bytes - (i + 1)) (drop (i + 1) bytes) in
    ap lines_of_parts (first_part is_end bytes i e) ∙ parts_more (take i bytes) (slice_split is_end rest)
    (omega (arith, length-slice_split is_end rest))

-- ---- words

pub words_whole : (text : List ℕ) → position is_blank text ≡ None → words text ≡ cond (has_bytes text) (text ∷ []) []
words_whole text e = ap (filter has_bytes) (one_part is_blank text e)

pub words_first : (text : List ℕ) (i : ℕ) → position is_blank text ≡ Some i →
    let rest = take (length text - (i + 1)) (drop (i + 1) text) in
    words text ≡ cond (has_bytes (take i text)) (take i text ∷ words rest) (words rest)
words_first text i e = ap (filter has_bytes) (first_part is_blank text i e)

-- ---- one word after another

drop-next : (ws : List (List ℕ)) (i : ℕ) (w : List ℕ) (more : List (List ℕ)) → drop i ws ≡ w ∷ more
    → drop (suc i) ws ≡ more
drop-next [] zero w more e = absurd cc
drop-next [] (suc i) w more e = absurd cc
drop-next (x ∷ ws) zero w more e = cc
drop-next (x ∷ ws) (suc i) w more e = drop-next ws i w more e

pub drop_more : (ws : List (List ℕ)) (i : ℕ) (w : List ℕ) (more : List (List ℕ)) → drop i ws ≡ w ∷ more
    → more ≡ drop (i + 1) ws
drop_more ws i w more e = sym (ap (λ n. drop n ws) (add-one i) ∙ drop-next ws i w more e)

pub drop_ends : (ws : List (List ℕ)) (i n : ℕ) → drop i ws ≡ [] → i ≤ n → [] ≡ drop n ws
drop_ends ws i n e le = sym (drop_all n ws (omega (arith, length-drop i ws, ap length e)))
