-- Answers that clear pairs.
use Rattle.std.proofs.Common.{◌≡◌, ◌≢◌, ℕ, ◌<◌, ◌≤◌, Bool, true, false, cond, ◌&&◌, ◌⊎◌, ⊎_elim, inl, inr, nat_eq}
use Rattle.std.proofs.Common.{nat_lt, Option, None, Some, refl, sym, ◌∙◌, arith}
use Rattle.std.proofs.lemmas.Bool.{true≢false, and_parts, or_cases, or_left, or_right, and_from, eq-eqb, eqb-true}
use Rattle.std.proofs.lemmas.Bool.{lt-ltb, ltb-true, cases_lt, cases_eq}
use Rattle.square_check.specs.Searches.{is_before, IsFirstFailure, earlier_pair, Fails, PassesBefore}

abbrev Before : ℕ × ℕ → ℕ × ℕ → Type 0
Before p q = (p.0 < q.0) ⊎ ((p.0 ≡ q.0) × (p.1 < q.1))

before_from : (p q : ℕ × ℕ) → is_before p q ≡ true → Before p q
before_from p q h =
    ⊎_elim (λ (e : nat_lt p.0 q.0 ≡ true). inl (ltb-true p.0 q.0 e))
    (λ (e : (nat_eq p.0 q.0 && nat_lt p.1 q.1) ≡ true).
    let both = and_parts (nat_eq p.0 q.0) (nat_lt p.1 q.1) e in
    inr (eqb-true p.0 q.0 both.0, ltb-true p.1 q.1 both.1))
    (or_cases (nat_lt p.0 q.0) (nat_eq p.0 q.0 && nat_lt p.1 q.1) h)

to_before : (p q : ℕ × ℕ) → Before p q → is_before p q ≡ true
to_before p q h =
    ⊎_elim (λ (l : p.0 < q.0). or_left (nat_lt p.0 q.0) (nat_eq p.0 q.0 && nat_lt p.1 q.1) (lt-ltb p.0 q.0 l))
    (λ (e : (p.0 ≡ q.0) × (p.1 < q.1)).
    or_right (nat_lt p.0 q.0) (nat_eq p.0 q.0 && nat_lt p.1 q.1)
    (and_from (nat_eq p.0 q.0) (nat_lt p.1 q.1) (eq-eqb p.0 q.0 e.0) (lt-ltb p.1 q.1 e.1))) h

before-trans : (p q r : ℕ × ℕ) → is_before p q ≡ true → is_before q r ≡ true → is_before p r ≡ true
before-trans p q r h k =
    to_before p r (⊎_elim
    (λ (l : p.0 < q.0). ⊎_elim (λ (m : q.0 < r.0). inl (omega arith)) (λ (m : (q.0 ≡ r.0) × (q.1 < r.1)).
    inl (omega (arith, m.0))) (before_from q r k))
    (λ (l : (p.0 ≡ q.0) × (p.1 < q.1)).
    ⊎_elim (λ (m : q.0 < r.0). inl (omega (arith, l.0))) (λ (m : (q.0 ≡ r.0) × (q.1 < r.1)).
    inr (l.0 ∙ m.0, omega (arith, l.1, m.1))) (before_from q r k))
    (before_from p q h))

-- what comes before p comes before each q that does not
before-others : (p q r : ℕ × ℕ) → is_before r p ≡ true → is_before q p ≡ false → is_before r q ≡ true
before-others p q r h k =
    let no : Before q p → ⊥ = λ b. true≢false (sym (to_before q p b) ∙ k) in
    to_before r q (⊎_elim
    (λ (l : r.0 < p.0). ⊎_elim (λ (m : q.0 < p.0). absurd (no (inl m))) (λ (m : p.0 ≤ q.0). inl (omega arith))
    (cases_lt q.0 p.0))
    (λ (l : (r.0 ≡ p.0) × (r.1 < p.1)).
    ⊎_elim (λ (m : q.0 < p.0). absurd (no (inl m)))
    (λ (m : p.0 ≤ q.0).
    ⊎_elim (λ (e : q.0 ≡ p.0).
    ⊎_elim (λ (w : q.1 < p.1). absurd (no (inr (e, w)))) (λ (w : p.1 ≤ q.1). inr (l.0 ∙ sym e, omega (arith, l.1)))
    (cases_lt q.1 p.1))
    (λ (ne : q.0 ≢ p.0). inl (omega (arith, l.0))) (cases_eq q.0 p.0))
    (cases_lt q.0 p.0))
    (before_from r p h))

module _ (P : ℕ → ℕ → Type 0) where
  pub clears-passing : (r : Option (ℕ × ℕ)) (s u : ℕ) → P s u → PassesBefore P r s u
  clears-passing None s u h = h
  clears-passing (Some p) s u h = λ _. h

  pub earlier-fails : (a b : Option (ℕ × ℕ)) → Fails P a → Fails P b → Fails P (earlier_pair a b)
  earlier-fails None b h k = k
  earlier-fails (Some p) None h k = h
  earlier-fails (Some p) (Some q) h k = by (is_before q p)
    where
      by : (b : Bool) → Fails P (cond b (Some q) (Some p))
      by true = k
      by false = h

  pub earlier-clears_first : (a b : Option (ℕ × ℕ)) (s u : ℕ) → PassesBefore P a s u
      → PassesBefore P (earlier_pair a b) s u
  earlier-clears_first None b s u h = clears-passing b s u h
  earlier-clears_first (Some p) None s u h = h
  earlier-clears_first (Some p) (Some q) s u h = by (is_before q p) refl
    where
      by : (b : Bool) → is_before q p ≡ b → PassesBefore P (cond b (Some q) (Some p)) s u
      by true e = λ l. h (before-trans (s, u) q p l e)
      by false e = h

  pub earlier-clears_second : (a b : Option (ℕ × ℕ)) (s u : ℕ) → PassesBefore P b s u
      → PassesBefore P (earlier_pair a b) s u
  earlier-clears_second None b s u h = h
  earlier-clears_second (Some p) None s u h = λ _. h
  earlier-clears_second (Some p) (Some q) s u h = by (is_before q p) refl
    where
      by : (b : Bool) → is_before q p ≡ b → PassesBefore P (cond b (Some q) (Some p)) s u
      by true e = h
      by false e = λ l. h (before-others p q (s, u) l e)

  -- what fails and clears all pairs is the first, where only cells fail
  pub first-from : (count : ℕ) (r : Option (ℕ × ℕ)) → ((s u : ℕ) → (count ≤ s) ⊎ (count ≤ u) → P s u) → Fails P r
      → ((s u : ℕ) → PassesBefore P r s u) → IsFirstFailure P count r
  first-from count None outside h k = k
  first-from count (Some p) outside h k = record {
    s_is_cell = ⊎_elim (λ (l : p.0 < count). l) (λ (l : count ≤ p.0). absurd (h (outside p.0 p.1 (inl l))))
        (cases_lt p.0 count);
    u_is_cell = ⊎_elim (λ (l : p.1 < count). l) (λ (l : count ≤ p.1). absurd (h (outside p.0 p.1 (inr l))))
        (cases_lt p.1 count);
    fails = h;
    before = λ v w l. k v w l;
  }
