-- The last part of a list of entries, lent to be written.
use Rattle.std.proofs.Common.{◌≡◌, ℕ, ◌+◌, ◌-◌, List, [], ◌++◌, length, take, drop, sym, ap, ap₂, ◌∙◌, arith}
use Rattle.std.proofs.Common.{length-append}
use Rattle.std.proofs.lemmas.List.{append-nil, take_at, drop_at, take_all, drop_all}
use Rattle.std.specs.List.{refill}
use borrow.Rule.Slice.PartMut.{post_of}

-- what the slice from start on holds
abbrev pub tail_of : ℕ → List ℕ → List ℕ
tail_of start xs = take (length xs - start) (drop start xs)

pub tail-read : (xs before w : List ℕ) (start : ℕ) → xs ≡ before ++ w → start ≡ length before → tail_of start xs ≡ w
tail-read xs before w start e s =
    ap (λ t. take (length xs - start) (drop start t)) e
    ∙ ap (take (length xs - start)) (drop_at before w start (sym s))
    ∙ take_all (length xs - start) w (omega (arith, ap length e, length-append before w))

pub tail-written : (items xs before w ys : List ℕ) (start : ℕ) → xs ≡ items → xs ≡ before ++ w → start ≡ length before
    → length ys ≡ length w → refill (length items) items (take start xs ++ (ys ++ post_of start (length xs - start) xs))
    ≡ before ++ ys
tail-written items xs before w ys start same e s size =
    let none : post_of start (length xs - start) xs ≡ [] = drop_all (length xs - start) (drop start xs)
    (omega (arith, ap length (ap (drop start) e ∙ drop_at before w start (sym s)), ap length e, length-append before w))
    in
    let now : take start xs ++ (ys ++ post_of start (length xs - start) xs) ≡ before ++ ys =
    ap₂ (λ t u. t ++ (ys ++ u)) (ap (take start) e ∙ take_at before w start (sym s)) none
    ∙ ap (λ t. before ++ t) (append-nil ys) in
    let whole : length (before ++ ys) ≡ length items =
    length-append before ys ∙ ap (λ n. length before + n) size ∙ sym (length-append before w)
    ∙ ap length (sym e ∙ same) in
    ap (refill (length items) items) now
    ∙ ap (λ t. take (length items) ((before ++ ys) ++ t))
    (drop_all (length (before ++ ys)) items (omega (arith, whole)))
    ∙ ap (take (length items)) (append-nil (before ++ ys))
    ∙ take_all (length items) (before ++ ys) (omega (arith, whole))

-- all of a list lent to be written
pub whole-written : (items xs : List ℕ) → length xs ≡ length items → refill (length items) items xs ≡ xs
whole-written items xs e =
    ap (λ t. take (length items) (xs ++ t)) (drop_all (length xs) items (omega (arith, e)))
    ∙ ap (take (length items)) (append-nil xs)
    ∙ take_all (length items) xs (omega (arith, e))
