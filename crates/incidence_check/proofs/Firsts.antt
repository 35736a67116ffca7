-- The first of what a function gives for the numbers in a row.
use Rattle.std.proofs.Common.{◌≡◌, ◌≢◌, ℕ, zero, suc, ◌+◌, ◌<◌, ◌≤◌, ⊎_elim, List, [], ◌∷◌, ◌++◌, slice_get, Option}
use Rattle.std.proofs.Common.{None, Some, refl, sym, ap, ap₂, ◌∙◌, arith}
use Rattle.std.specs.List.{range_with_len, filter_map, flat_map, cons_option}
use Rattle.std.proofs.lemmas.Bool.{cases_eq}

pub none_from_append : {X : Type 0} (xs ys : List X) → xs ++ ys ≡ [] → (xs ≡ []) × (ys ≡ [])
none_from_append [] ys h = (refl, h)
none_from_append (x ∷ xs) ys h = absurd (cc)

-- the first of two lists is that of the one in front, where it has one
pub first-append : {X : Type 0} (xs ys : List X) (x : X) → slice_get xs 0 ≡ Some x → slice_get (xs ++ ys) 0 ≡ Some x
first-append [] ys x h = absurd (cc)
first-append (y ∷ xs) ys x h = h

module _ {X : Type 0} (f : ℕ → Option X) where
  pub filter_map-none : (a n : ℕ) → ((k : ℕ) → a ≤ k → k < a + n → f k ≡ None) → filter_map f (range_with_len a n) ≡ []
  filter_map-none a zero h = refl
  filter_map-none a (suc n) h =
      ap₂ cons_option (h a (omega arith) (omega arith))
      (filter_map-none (a + 1) n (λ k l m. h k (omega arith) (omega arith)))

  -- and the way back
  pub none_from_filter_map : (a n : ℕ) → filter_map f (range_with_len a n) ≡ [] → (k : ℕ) → a ≤ k → k < a + n
      → f k ≡ None
  none_from_filter_map a zero h k l m = absurd (omega arith)
  none_from_filter_map a (suc n) h k l m =
      let p = parts (f a) (filter_map f (range_with_len (a + 1) n)) h in
      ⊎_elim (λ (e : a ≡ k). ap f (sym e) ∙ p.0)
      (λ (ne : a ≢ k). none_from_filter_map (a + 1) n p.1 k (omega arith) (omega arith)) (cases_eq a k)
    where
      parts : (o : Option X) (xs : List X) → cons_option o xs ≡ [] → (o ≡ None) × (xs ≡ [])
      parts None xs e = (refl, e)
      parts (Some x) xs e = absurd (cc)

  pub filter_map-first : (a n t : ℕ) (x : X) → a ≤ t → t < a + n → ((k : ℕ) → a ≤ k → k < t → f k ≡ None) → f t ≡ Some x
      → slice_get (filter_map f (range_with_len a n)) 0 ≡ Some x
  filter_map-first a zero t x l m before here = absurd (omega arith)
  filter_map-first a (suc n) t x l m before here =
      ⊎_elim
      (λ (e : a ≡ t). ap (λ o. slice_get (cons_option o (filter_map f (range_with_len (a + 1) n))) 0) (ap f e ∙ here))
      (λ (ne : a ≢ t).
      ap (λ o. slice_get (cons_option o (filter_map f (range_with_len (a + 1) n))) 0)
      (before a (omega arith) (omega arith))
      ∙ filter_map-first (a + 1) n t x (omega arith) (omega arith) (λ k p q. before k (omega arith) q) here)
      (cases_eq a t)

module _ {X : Type 0} (f : ℕ → List X) where
  pub flat_map-none : (a n : ℕ) → ((k : ℕ) → a ≤ k → k < a + n → f k ≡ []) → flat_map f (range_with_len a n) ≡ []
  flat_map-none a zero h = refl
  flat_map-none a (suc n) h =
      ap₂ (λ xs ys. xs ++ ys) (h a (omega arith) (omega arith))
      (flat_map-none (a + 1) n (λ k l m. h k (omega arith) (omega arith)))

  pub none_from_flat_map : (a n : ℕ) → flat_map f (range_with_len a n) ≡ [] → (k : ℕ) → a ≤ k → k < a + n → f k ≡ []
  none_from_flat_map a zero h k l m = absurd (omega arith)
  none_from_flat_map a (suc n) h k l m =
      let p = none_from_append (f a) (flat_map f (range_with_len (a + 1) n)) h in
      ⊎_elim (λ (e : a ≡ k). ap f (sym e) ∙ p.0)
      (λ (ne : a ≢ k). none_from_flat_map (a + 1) n p.1 k (omega arith) (omega arith)) (cases_eq a k)

  pub flat_map-first : (a n t : ℕ) (x : X) → a ≤ t → t < a + n → ((k : ℕ) → a ≤ k → k < t → f k ≡ [])
      → slice_get (f t) 0 ≡ Some x
      → slice_get (flat_map f (range_with_len a n)) 0 ≡ Some x
  flat_map-first a zero t x l m before here = absurd (omega arith)
  flat_map-first a (suc n) t x l m before here =
      ⊎_elim
      (λ (e : a ≡ t). first-append (f a) (flat_map f (range_with_len (a + 1) n)) x (ap (λ k. slice_get (f k) 0) e
      ∙ here))
      (λ (ne : a ≢ t).
      ap (λ xs. slice_get (xs ++ flat_map f (range_with_len (a + 1) n)) 0) (before a (omega arith) (omega arith))
      ∙ flat_map-first (a + 1) n t x (omega arith) (omega arith) (λ k p q. before k (omega arith) q) here)
      (cases_eq a t)
