-- The number that a word is, digit by digit.
use Rattle.std.proofs.Common.{◌≡◌, ℕ, zero, suc, cond, ◌+◌, ◌-◌, ◌*◌, ◌^◌, ◌≤◌, ◌<◌, Bool, true, false, List, [], ◌∷◌}
use Rattle.std.proofs.Common.{length, take, get_or, refl, ap, ◌∙◌, arith, Some, None}
use Rattle.std.specs.Prelude.{nat_le, ◌&&◌}
use Rattle.std.specs.Char.{is_ascii_digit}
use Rattle.std.specs.Int.{IsInRange}
use Rattle.std.specs.Str.{all_ascii_digits}
use Rattle.std.specs.Str.Parse.{digits_value, AllDigits}
use Rattle.std.proofs.lemmas.Bool.Decides.{nat_tests}
use Rattle.std.proofs.lemmas.Int.Digits.{digits_value_more}
use Rattle.std.proofs.lemmas.List.{length-take}
use Rattle.std.proofs.lemmas.Str.{digit_value_digit}
use Rattle.std.proofs.lemmas.Str.Parse.{IsNumeralModel, numerals_by_value, tells_all_ascii_digits, digits_value_short}
use Rattle.sheaf_text.specs.Cut.{word_number}
use Rattle.sheaf_text.specs.Forms.{has_bytes}

decimal : IsNumeralModel (λ ds. all_ascii_digits ds ≡ true) (digits_value 10)
decimal = numerals_by_value _ tells_all_ascii_digits

pub value_more : (w : List ℕ) (i : ℕ) → i < length w → IsInRange 48 57 (get_or w i 0) → digits_value 10 (take (i + 1) w)
    ≡ digits_value 10 (take i w) * 10 + (get_or w i 0 - 48)
value_more w i lt digit = digits_value_more 10 w i lt ∙ ap (λ n. digits_value 10 (take i w) * 10 + n)
    (omega (arith, digit_value_digit (get_or w i 0) digit))

pub value_small : (w : List ℕ) (i : ℕ) → i < length w → length w ≤ 9 → AllDigits 10 (take i w)
    → digits_value 10 (take i w) < 10 ^ 8
value_small w i lt short so_far = digits_value_short decimal (take i w) 8 (decimal.from (take i w) so_far)
    (omega (arith, length-take i w))

and_no : (b : Bool) → (b && false) ≡ false
and_no true = refl
and_no false = refl

not_all : (w : List ℕ) (i : ℕ) → i < length w → is_ascii_digit (get_or w i 0) ≡ false → all_ascii_digits w ≡ false
not_all [] i lt e = absurd (omega arith)
not_all (c ∷ w) zero lt e = ap (λ b. b && all_ascii_digits w) e
not_all (c ∷ w) (suc i) lt e = ap (λ b. is_ascii_digit c && b) (not_all w i (omega arith) e) ∙ and_no (is_ascii_digit c)

pub no_number : (w : List ℕ) (i : ℕ) → i < length w → is_ascii_digit (get_or w i 0) ≡ false → word_number w ≡ None
no_number w i lt e = ap (λ b. cond ((has_bytes w && nat_le (length w) 9) && b) (Some (digits_value 10 w)) None)
    (not_all w i lt e) ∙ ap (λ b. cond b (Some (digits_value 10 w)) None) (and_no (has_bytes w && nat_le (length w) 9))

pub a_number : (w : List ℕ) → 0 < length w → length w ≤ 9 → AllDigits 10 w → word_number w ≡ Some (digits_value 10 w)
a_number w some short digits =
    let some' : has_bytes w ≡ true = grind (arith, nat_tests) in
    let short' : nat_le (length w) 9 ≡ true = grind (arith, nat_tests) in
    let digits' : all_ascii_digits w ≡ true = decimal.from w digits in
    rw (some', short', digits') refl
