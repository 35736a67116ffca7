-- Lines of words and numbers, written number by number.
use Rattle.std.proofs.Common.{Result, Ok, Err, OnErr, ◌≡◌, ℕ, zero, suc, ◌<◌, List, [], ◌∷◌, ◌++◌, length, get_or, take}
use Rattle.std.proofs.Common.{drop, map, Option, refl, sym, ap, ◌∙◌, subst, append_assoc, append-nil, arith}
use Rattle.std.specs.List.{join_with_byte}
use Rattle.std.specs.Prelude.{codes, decimal}
use Rattle.io_edge.specs.Bytes.{Took, TookPrefix}
use Rattle.io_edge.proofs.Known.{took_prefix_then, took_prefix_longer}
use Rattle.reply_text.specs.Lines.{line_text}
use Rattle.sheaf_text.specs.declared.fault.LineCause.{LineCause}
use Rattle.sheaf_text.specs.declared.fault.Refusal.TheVariants.{Bad}
use Rattle.sheaf_run.specs.Answers.{bad_line}
use Rattle.sheaf_run.specs.Parts.{spaced_numbers, text_of_parts}
use Rattle.sheaf_run.specs.Words.{cause_word}

-- the numbers before one, that one, and those after it
spaced-split : (numbers : List ℕ) (i : ℕ) → i < length numbers
    → spaced_numbers numbers ≡ (spaced_numbers (take i numbers) ++ (codes " " ++ decimal (get_or numbers i 0)))
    ++ spaced_numbers (drop (suc i) numbers)
spaced-split [] i h = absurd (omega arith)
spaced-split (n ∷ numbers) zero h = refl
spaced-split (n ∷ numbers) (suc i) h =
    let own = codes " " ++ decimal n in
    let front = spaced_numbers (take i numbers) in
    let next = codes " " ++ decimal (get_or numbers i 0) in
    let rest = spaced_numbers (drop (suc i) numbers) in
    ap (λ text. own ++ text) (spaced-split numbers i (omega arith)) ∙ sym (append_assoc own (front ++ next) rest)
    ∙ ap (λ text. text ++ rest) (sym (append_assoc own front next))

-- a front of one number is one of all numbers
pub front_of_numbers : (old new newer : Option (List ℕ)) (numbers : List ℕ) (i : ℕ) → i < length numbers
    → Took old new (spaced_numbers (take i numbers))
    → TookPrefix new newer (codes " " ++ decimal (get_or numbers i 0)) → TookPrefix old newer (spaced_numbers numbers)
front_of_numbers old new newer numbers i l took front =
    let before = spaced_numbers (take i numbers) in
    let own = codes " " ++ decimal (get_or numbers i 0) in
    subst (TookPrefix old newer) (sym (spaced-split numbers i l))
    (took_prefix_longer old newer (before ++ own) (spaced_numbers (drop (suc i) numbers))
    (took_prefix_then old new newer before own took front))

-- words joined, where all but the first are numbers
join-numbers : (words : List ℕ) (numbers : List ℕ) → words ++ spaced_numbers numbers
    ≡ join_with_byte 32 (words ∷ map decimal numbers)
join-numbers words [] = append-nil words
join-numbers words (n ∷ numbers) = ap (λ rest. words ++ 32 ∷ rest) (join-numbers (decimal n) numbers)

-- a line of words and then numbers
pub line_of_numbers : (words : List ℕ) (numbers : List ℕ) → text_of_parts words numbers (codes "\n")
    ≡ line_text (words ∷ map decimal numbers)
line_of_numbers words numbers = ap (λ text. text ++ 10 ∷ []) (join-numbers words numbers)

-- the line of a line that is refused
pub line_of_cause : (line : ℕ) (cause : LineCause)
    → text_of_parts (codes "bad line") (line ∷ []) (codes " " ++ (cause_word cause ++ codes "\n"))
    ≡ (bad_line line (Bad cause)).text
line_of_cause line cause =
    let digits = decimal line in
    let end = cause_word cause in
    ap (λ rest. codes "bad line " ++ rest)
    (ap (λ front. front ++ 32 ∷ (end ++ 10 ∷ [])) (append-nil digits) ∙ sym (append_assoc digits (32 ∷ end) (10 ∷ [])))

-- what holds anyway holds on an error
pub on_err : {T E P : Type 0} (r : Result T E) → P → OnErr r P
on_err (Ok x) p = tt
on_err (Err e) p = p
