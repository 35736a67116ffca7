-- From the first candidate of a column, and of the columns after it, to the first of all pairs.
use Rattle.std.proofs.Common.{◌≡◌, ℕ, Bool, true, false, refl, sym, ap, ◌∙◌, arith, inl, inr, Option, Some, None}
use Rattle.std.proofs.Common.{MatchOption}
use Rattle.std.proofs.lemmas.Bool.{cases_lt}
use Rattle.block_sparse.specs.StoredBlocks.{StoredBlocks}
use Rattle.block_sparse.specs.Candidates.{is_candidate}
use Rattle.open_columns.specs.Open.{FirstFrom, FirstPair}
use Rattle.pair_find.specs.Pairs.{AtOrAfter, IsFirstFrom, IsNextFrom, NoneFrom}

differ : (b : Bool) → b ≡ true → b ≡ false → ⊥
differ b e f = let g : true ≡ false = sym e ∙ f in cc

-- a candidate of the pair's own column
pub first-in_column : (v : StoredBlocks) (from : ℕ × ℕ) (t : ℕ) → FirstFrom (λ q. is_candidate v from.0 q) from.1
    (Some t) → IsFirstFrom v from (from.0, t)
first-in_column v from t f = record {
  candidate = f.is;
  at_or_after = inr (refl, f.after);
  first = λ q c a. elim a [
    | inl u ↦ inl u
    | inr w ↦ elim (cases_lt q.1 t) [
      | inl u ↦ absurd (differ (is_candidate v q.0 q.1) c (ap (λ s. is_candidate v s q.1) (sym w.0)
          ∙ f.none_before q.1 w.1 u))
      | inr u ↦ inr (w.0, omega arith)
    ]
  ];
}

-- none there: one of a later column, or none
module _ (v : StoredBlocks) (from : ℕ × ℕ) (here : FirstFrom (λ q. is_candidate v from.0 q) from.1 None) where
  pub none-beyond : FirstPair (is_candidate v) from.0 None → NoneFrom v from
  none-beyond none q a = elim a [
    | inl u ↦ none q.0 q.1 u
    | inr w ↦ ap (λ s. is_candidate v s q.1) (sym w.0) ∙ here q.1 w.1
  ]

  pub first-beyond : (p : ℕ × ℕ) → FirstPair (is_candidate v) from.0 (Some p) → IsFirstFrom v from p
  first-beyond p f = record {
    candidate = f.is;
    at_or_after = inl f.after;
    first = λ q c a. elim a [
      | inr w ↦ absurd (differ (is_candidate v q.0 q.1) c (ap (λ s. is_candidate v s q.1) (sym w.0) ∙ here q.1 w.1))
      | inl u ↦ elim (cases_lt q.0 p.0) [
        | inl l ↦ absurd (differ (is_candidate v q.0 q.1) c (f.none_before q.0 q.1 u l))
        | inr l ↦ elim (cases_lt p.0 q.0) [
          | inl m ↦ inl m
          | inr m ↦
              let same : p.0 ≡ q.0 = omega arith in
              elim (cases_lt q.1 p.1) [
                | inl k ↦ absurd (differ (is_candidate v q.0 q.1) c (ap (λ s. is_candidate v s q.1) (sym same)
                    ∙ f.none_beside q.1 k))
                | inr k ↦ inr (same, omega arith)
              ]
        ]
      ]
    ];
  }

  pub beyond : (o : Option (ℕ × ℕ)) → FirstPair (is_candidate v) from.0 o
      → MatchOption o (NoneFrom v from) (λ p. IsFirstFrom v from p)
  beyond None f = none-beyond f
  beyond (Some p) f = first-beyond p f

-- no pair comes before that of two zeros
pub all-after : (q : ℕ × ℕ) → AtOrAfter q (0, 0)
all-after q = elim (cases_lt 0 q.0) [ inl u ↦ inl u | inr u ↦ inr (omega arith, omega arith) ]

pub from-start : (v : StoredBlocks) (from : ℕ × ℕ) (o : Option (ℕ × ℕ)) → NoneFrom v from
    → MatchOption o (NoneFrom v (0, 0)) (λ p. IsFirstFrom v (0, 0) p)
    → MatchOption o ((s t : ℕ) → is_candidate v s t ≡ false) (λ p. IsNextFrom v from p)
from-start v from None none f = λ s t. f (s, t) (all-after (s, t))
from-start v from (Some p) none f = inr (none, f)
