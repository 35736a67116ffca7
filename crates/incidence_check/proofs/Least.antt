-- The least numbers that pass tests.
use Rattle.std.proofs.Common.{◌≡◌, ℕ, ◌<◌, ◌≤◌, Bool, true, false, ◌||◌, ◌⊎◌, ⊎_elim, nat_eq, nat_lt, List, length}
use Rattle.std.proofs.Common.{get_or, slice_get, min, Option, None, Some, refl, sym, ap, ◌∙◌, subst, arith, Bor}
use Rattle.std.specs.Option.{option_copied}
use Rattle.std.specs.Slice.{IsGetResult}
use Rattle.std.specs.List.{AllWithin, list_any}
use Rattle.std.specs.List.Sorted.{IsNonDecreasing}
use Rattle.std.proofs.lemmas.Bool.{or_from, or_left, or_right, eq-eqb, ne_eqb, ltb-false, ltb-true, cases_lt}
use Rattle.std.proofs.lemmas.List.{get_or_default}
use Rattle.std.proofs.lemmas.List.Folds.{list_any_none, list_any_at}
use Rattle.std.proofs.lemmas.Option.{slice_get_past, slice_get-get_or}
use Rattle.incidence_check.specs.Reach.{IsLeastFrom, lesser}

-- the least of what passes one of two tests
pub lesser-least : (p q : ℕ → Bool) (from : ℕ) (a b : Option ℕ) → IsLeastFrom p from a → IsLeastFrom q from b
    → IsLeastFrom (λ u. p u || q u) from (lesser a b)
lesser-least p q from None None h k = λ u l. or_from (p u) (q u) (h u l) (k u l)
lesser-least p q from None (Some b) h k =
    (k.0, or_right (p b) (q b) k.1, λ v l m. or_from (p v) (q v) (h v l) (k.2 v l m))
lesser-least p q from (Some a) None h k =
    (h.0, or_left (p a) (q a) h.1, λ v l m. or_from (p v) (q v) (h.2 v l m) (k v l))
lesser-least p q from (Some a) (Some b) h k =
    (omega arith, passes (cases_lt a b), λ v l m. or_from (p v) (q v) (h.2 v l (omega arith)) (k.2 v l (omega arith)))
  where
    passes : (a < b) ⊎ (b ≤ a) → (p (min a b) || q (min a b)) ≡ true
    passes c = ⊎_elim
        (λ (l : a < b). let e : min a b ≡ a = omega arith in or_left (p (min a b)) (q (min a b)) (ap p e ∙ h.1))
        (λ (l : b ≤ a). let e : min a b ≡ b = omega arith in or_right (p (min a b)) (q (min a b)) (ap q e ∙ k.1)) c

-- tests that agree from a bound on have the same least number
pub least_agree : (p q : ℕ → Bool) (from : ℕ) (r : Option ℕ) → ((u : ℕ) → p u ≡ q u) → IsLeastFrom p from r
    → IsLeastFrom q from r
least_agree p q from None same h = λ u l. sym (same u) ∙ h u l
least_agree p q from (Some x) same h = (h.0, sym (same x) ∙ h.1, λ v l m. sym (same v) ∙ h.2 v l m)

-- the first of rising numbers that is not below a bound
pub least-point : (xs : List ℕ) (from i : ℕ) → IsNonDecreasing xs → AllWithin (λ y. nat_lt y from ≡ true) xs 0 i
    → AllWithin (λ y. nat_lt y from ≡ false) xs i (length xs)
    → IsLeastFrom (λ u. list_any (nat_eq u) xs) from (slice_get xs i)
least-point xs from i rise low high = ⊎_elim inside past (cases_lt i (length xs))
  where
    inside : i < length xs → IsLeastFrom (λ u. list_any (nat_eq u) xs) from (slice_get xs i)
    inside l =
        let x : ℕ = get_or xs i 0 in
        subst (IsLeastFrom (λ u. list_any (nat_eq u) xs) from) (sym (slice_get-get_or xs i 0 l)) (
          ltb-false x from (high i 0 (omega arith) l),
          list_any_at (nat_eq x) xs i 0 l (eq-eqb x x refl),
          λ v p q. list_any_none (nat_eq v) xs (λ k d m. ne_eqb v (get_or xs k d) (λ e. ⊎_elim
              (λ (before : k < i). let a : get_or xs k d < from =
              ltb-true (get_or xs k d) from (low k d (omega arith) before) in absurd (omega arith))
              (λ (after : i ≤ k). let a : get_or xs i d ≤ get_or xs k d = rise i k d after m in
              absurd (omega (arith, get_or_default xs i 0 d l)))
              (cases_lt k i))),
        )

    past : length xs ≤ i → IsLeastFrom (λ u. list_any (nat_eq u) xs) from (slice_get xs i)
    past l =
        subst (IsLeastFrom (λ u. list_any (nat_eq u) xs) from) (sym (slice_get_past xs i l))
        (λ u p. list_any_none (nat_eq u) xs (λ k d m. ne_eqb u (get_or xs k d) (λ e.
        let a : get_or xs k d < from = ltb-true (get_or xs k d) from (low k d (omega arith) (omega arith)) in
        absurd (omega arith))))

-- what `get` and `copied` answer of an item
pub copied-get : (xs : List ℕ) (i : ℕ) (r : Option (Bor ℕ)) → IsGetResult xs i i r → slice_get xs i ≡ option_copied r
copied-get xs i None h = slice_get_past xs i h.3
copied-get xs i (Some x) h = slice_get-get_or xs i 0 h.3.0 ∙ ap Some (sym (h.3.1 0))
