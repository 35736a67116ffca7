-- The first pair at which something differs, put together from several searches.
use Rattle.std.proofs.Common.{◌≡◌, ℕ, ◌<◌, ◌≤◌, Option, Some, None, sym, ◌∙◌, subst, arith, ◌⊎◌, inl, inr}
use Rattle.std.proofs.lemmas.Bool.{cases_lt}
use Rattle.reduce_step.specs.Differences.{IsBefore, IsEarlier, Found}

-- a pair comes before another, or not
cases_before : (s t p q : ℕ) → IsBefore s t p q ⊎ ((p < s) ⊎ ((p ≡ s) × (q ≤ t)))
cases_before s t p q = elim (cases_lt s p) [
  | inl l ↦ inl (inl l)
  | inr l ↦ elim (cases_lt p s) [
    | inl m ↦ inr (inl m)
    | inr m ↦
        let e : s ≡ p = omega arith in
        elim (cases_lt t q) [ inl n ↦ inl (inr (e, n)) | inr n ↦ inr (inr (sym e, omega arith)) ]
  ]
]

before-trans : (a b s t p q : ℕ) → IsBefore a b s t → IsBefore s t p q → IsBefore a b p q
before-trans a b s t p q (inl l) (inl m) = inl (omega arith)
before-trans a b s t p q (inl l) (inr m) = inl (omega (arith, m.0))
before-trans a b s t p q (inr l) (inl m) = inl (omega (arith, l.0))
before-trans a b s t p q (inr l) (inr m) = inr (l.0 ∙ m.0, omega (arith, l.1, m.1))

not-later : (a b s t p q : ℕ) → (p < s) ⊎ ((p ≡ s) × (q ≤ t)) → IsBefore a b p q → IsBefore a b s t
not-later a b s t p q (inl l) (inl m) = inl (omega arith)
not-later a b s t p q (inl l) (inr m) = inl (omega (arith, m.0))
not-later a b s t p q (inr l) (inl m) = inl (omega (arith, l.0))
not-later a b s t p q (inr l) (inr m) = inr (m.0 ∙ l.0, omega (arith, l.1, m.1))

later-before : (s t b d a c : ℕ) → (IsBefore b d a c → ⊥) → IsBefore s t a c → IsBefore s t b d
later-before s t b d a c n l = elim (cases_before b d a c) [ inl m ↦ absurd (n m) | inr m ↦ not-later s t b d a c m l ]

before-later : (p q s t a c : ℕ) → (IsBefore s t p q → ⊥) → IsBefore s t a c → IsBefore p q a c
before-later p q s t a c n l = go (cases_before s t p q) l
  where
    go : IsBefore s t p q ⊎ ((p < s) ⊎ ((p ≡ s) × (q ≤ t))) → IsBefore s t a c → IsBefore p q a c
    go (inl m) h = absurd (n m)
    go (inr (inl m)) (inl h) = inl (omega arith)
    go (inr (inl m)) (inr h) = inl (omega (arith, h.0))
    go (inr (inr m)) (inl h) = inl (omega (arith, m.0))
    go (inr (inr m)) (inr h) = elim (cases_lt q c) [
      | inl k ↦ inr (m.0 ∙ h.0, k)
      | inr k ↦ absurd (omega (arith, m.1, h.1))
    ]

pub not-before : (s t p q : ℕ) → p ≤ s → q ≤ t → IsBefore s t p q → ⊥
not-before s t p q h k (inl l) = absurd (omega arith)
not-before s t p q h k (inr l) = absurd (omega (arith, l.1))

module _ (Same : ℕ → ℕ → Type 0) where
  -- of two kinds of pairs the earlier difference is the first
  pub found-either : (C D : ℕ → ℕ → Type 0) (p q r : Option (ℕ × ℕ)) → IsEarlier p q r → Found Same C p → Found Same D q
      → Found Same (λ s t. C s t ⊎ D s t) r
  found-either C D p q r is f g = go p q is f g
    where
      Either : Option (ℕ × ℕ) → Type 0
      Either = Found Same (λ s t. C s t ⊎ D s t)

      go : (p q : Option (ℕ × ℕ)) → IsEarlier p q r → Found Same C p → Found Same D q → Either r
      go None None e f g = subst Either (sym e) (λ s t h. elim h [ inl c ↦ f s t c | inr d ↦ g s t d ])
      go None (Some b) e f g = subst Either (sym e) (g.0, λ s t h l. elim h [ inl c ↦ f s t c | inr d ↦ g.1 s t d l ])
      go (Some a) None e f g = subst Either (sym e) (f.0, λ s t h l. elim h [ inl c ↦ f.1 s t c l | inr d ↦ g s t d ])
      go (Some a) (Some b) (inl e) f g = subst Either (sym e.1) (
        g.0,
        λ s t h l. elim h [
          | inl c ↦ f.1 s t c (before-trans s t b.0 b.1 a.0 a.1 l e.0)
          | inr d ↦ g.1 s t d l
        ],
      )
      go (Some a) (Some b) (inr e) f g = subst Either (sym e.1) (
        f.0,
        λ s t h l. elim h [
          | inl c ↦ f.1 s t c l
          | inr d ↦ g.1 s t d (later-before s t b.0 b.1 a.0 a.1 e.0 l)
        ],
      )

  -- pairs of which each is the same if those before it are
  pub found-all : (C D : ℕ → ℕ → Type 0) (r : Option (ℕ × ℕ)) → Found Same C r
      → ((s t : ℕ) → D s t → ((p q : ℕ) → C p q → (IsBefore s t p q → ⊥) → Same p q) → Same s t) → Found Same D r
  found-all C D None f h = λ s t d. h s t d (λ p q c n. f p q c)
  found-all C D (Some a) f h = (f.0, λ s t d l. h s t d (λ p q c n. f.1 p q c (before-later p q s t a.0 a.1 n l)))

  pub found-within : (C D : ℕ → ℕ → Type 0) (r : Option (ℕ × ℕ)) → ((s t : ℕ) → D s t → C s t) → Found Same C r
      → Found Same D r
  found-within C D None sub f = λ s t d. f s t (sub s t d)
  found-within C D (Some a) sub f = (f.0, λ s t d l. f.1 s t (sub s t d) l)
