-- How far a reduction by first pairs has come: its beginning, one pair more, and its end.
use Rattle.std.proofs.Common.{◌≡◌, ◌≤◌, inl, inr, ℕ, zero, suc, Bool, true, false, ◌&&◌, List, [], ◌∷◌}
use Rattle.std.proofs.Common.{◌++◌, Option, Some, None, refl, sym}
use Rattle.std.proofs.Common.{ap, ap₂, ◌∙◌, subst, arith, append-nil, append_assoc}
use Rattle.std.specs.Prelude.{◌==◌, not}
use Rattle.std.proofs.lemmas.Bool.{eq-eqb}
use Rattle.dense_blocks.specs.Field.{Ops}
use Rattle.dense_blocks.specs.FieldLaws.{IsField}
use Rattle.dense_blocks.specs.MatrixFacts.{IsInverse, zero_matrix}
use Rattle.block_complexes.specs.BlockComplexes.{BlockComplex, AreConsecutive, HaveSameMatrices, size_of}
use Rattle.block_complexes.proofs.SameLaws.{same-refl, same-sym, same-trans}
use Rattle.removals.specs.Removals.{IsRemoval}
use Rattle.removals.specs.Reductions.{IsAfter, IsInvertibleAt, IsIrreducible}
use Rattle.removals.proofs.SameRemovals.{removal-same-before}
use Rattle.block_sparse.specs.StoredBlocks.{StoredBlocks, StoredBlock, complex_in, block_at, flag_of}
use Rattle.block_sparse.specs.Candidates.{is_candidate, is_unflagged}
use Rattle.block_sparse.specs.Invariants.{IsSound}
use Rattle.block_sparse.proofs.ScalarBlocks.{matrix-none}
use Rattle.pair_find.specs.Pairs.{AtOrAfter, IsFirstFrom}
use Rattle.reduce_step.proofs.FitLaws.{zero-no_inverse}
use Rattle.reduce_step.proofs.DifferenceLaws.{live-size}
use Rattle.pair_commit.specs.Slots.{FlagsAreSingular}
use Rattle.first_reduction.specs.FirstPairs.{IsFirstInvertible, IsFirstReduction}
use Rattle.first_reduction.specs.Advances.{IsBeginning}

-- ---- the same block complex

module _ (K : Ops) (v m : BlockComplex) (h : HaveSameMatrices v m) where
  invertible-same : (s t : ℕ) → IsInvertibleAt K m s t → IsInvertibleAt K v s t
  invertible-same s t invertible =
      let a = invertible.0 in
      let i = invertible.1 in
      let pair = subst (λ l. AreConsecutive l s t) h.live i.pair in (
        a,
        record {
          pair = pair;
          square = subst (λ l. size_of l t ≡ size_of l s) h.live i.square;
          inverse = subst (λ A. IsInverse K (size_of v.live s) A a)
              (h.matrices s t (record { from = pair.from; to = pair.to }))
              (subst (λ l. IsInverse K (size_of l s) (m.matrix s t) a) h.live i.inverse);
        },
      )

reduction-same : (K : Ops) (v m : BlockComplex) (pairs : List (ℕ × ℕ)) (w : BlockComplex) → HaveSameMatrices v m
    → IsFirstReduction K m pairs w → IsFirstReduction K v pairs w
reduction-same K v m [] w h r = (
  λ s t i. r.0 s t (invertible-same K m v (same-sym v m h) s t i),
  same-trans v m w h r.1,
)
reduction-same K v m (p ∷ pairs) w h r = (
  r.0,
  r.1,
  λ s t i. r.2 s t (invertible-same K m v (same-sym v m h) s t i),
  removal-same-before K m v p.0 p.1 r.1 r.0 (same-sym v m h) r.3,
  r.4,
)

-- ---- what a reduction by first pairs is

pub removed-more : (K : Ops) (v m w : BlockComplex) (pairs : List (ℕ × ℕ)) (x y : ℕ) (a : List (List ℕ))
    → IsAfter K v pairs m → IsRemoval K m x y a w → IsAfter K v (pairs ++ (x, y) ∷ []) w
removed-more K v m w [] x y a after removal =
    (w, a, removal-same-before K m v x y a w (same-sym v m after) removal, same-refl w)
removed-more K v m w (p ∷ pairs) x y a after removal =
    (after.0, after.1, after.2, removed-more K after.0 m w pairs x y a after.3 removal)

pub reduction-after : (K : Ops) (v w : BlockComplex) (pairs : List (ℕ × ℕ)) → IsFirstReduction K v pairs w
    → IsAfter K v pairs w
reduction-after K v w [] r = r.1
reduction-after K v w (p ∷ pairs) r = (r.0, r.1, r.3, reduction-after K r.0 w pairs r.4)

pub reduction-irreducible : (K : Ops) (v w : BlockComplex) (pairs : List (ℕ × ℕ)) → IsFirstReduction K v pairs w
    → IsIrreducible K w
reduction-irreducible K v w [] r = λ s t i. r.0 s t (invertible-same K v w r.1 s t i)
reduction-irreducible K v w (p ∷ pairs) r = reduction-irreducible K r.0 w pairs r.4

-- ---- beginnings

pub beginning-same : (K : Ops) (v w : BlockComplex) → HaveSameMatrices v w → IsBeginning K v [] w
beginning-same K v w h = λ rest u r. reduction-same K v w rest u h r

pub beginning-one : (K : Ops) (v w : BlockComplex) (x y : ℕ) (a : List (List ℕ)) → IsFirstInvertible K v x y
    → IsRemoval K v x y a w → IsBeginning K v ((x, y) ∷ []) w
beginning-one K v w x y a first removal = λ rest u r. (w, a, first, removal, r)

pub beginning-then : (K : Ops) (u v w : BlockComplex) (ps qs : List (ℕ × ℕ)) → IsBeginning K u ps v
    → IsBeginning K v qs w → IsBeginning K u (ps ++ qs) w
beginning-then K u v w ps qs b c = λ rest x r.
    subst (λ l. IsFirstReduction K u l x) (sym (append_assoc ps qs rest)) (b (qs ++ rest) x (c rest x r))

pub beginning-end : (K : Ops) (v w : BlockComplex) (pairs : List (ℕ × ℕ)) → IsBeginning K v pairs w
    → IsIrreducible K w → IsFirstReduction K v pairs w
beginning-end K v w pairs b i =
    subst (λ l. IsFirstReduction K v l w) (append-nil pairs) (b [] w (i, same-refl w))

-- ---- the first candidate

module _ (K : Ops) (F : IsField K) (v : StoredBlocks) (sound : IsSound v.live v.rows v.columns)
    (singular : FlagsAreSingular K v) where
  -- a pair that may be removed is a candidate
  invertible-candidate : (s t : ℕ) → IsInvertibleAt K (complex_in v) s t → is_candidate v s t ≡ true
  invertible-candidate s t invertible = go (block_at v s t) refl
    where
      sized : (size_of v.live s == size_of v.live t) ≡ true
      sized = eq-eqb (size_of v.live s) (size_of v.live t) (sym invertible.1.square)

      open-flag : (f : Bool) → (f ≡ true → ⊥) → not f ≡ true
      open-flag true h = absurd (h refl)
      open-flag false h = refl

      go : (o : Option StoredBlock) → block_at v s t ≡ o → is_candidate v s t ≡ true
      go None e =
          let i = invertible.1 in
          absurd (zero-no_inverse K F (size_of v.live s) invertible.0 (live-size v.live s sound.live_cells i.pair.from)
          (subst (λ A. IsInverse K (size_of v.live s) A invertible.0)
          (matrix-none K v s t e ∙ ap (λ m. zero_matrix m (size_of v.live s)) i.square) i.inverse))
      go (Some b) e =
          ap₂ (λ o c. is_unflagged o && c) e sized
          ∙ ap (λ f. f && true) (open-flag b.flagged (λ f. singular s t (ap flag_of e ∙ f) invertible))

  from-start : (p : ℕ × ℕ) → AtOrAfter p (0, 0)
  from-start (zero, t) = inr (refl, omega arith)
  from-start (suc s, t) = inl (omega arith)

  before : (x y s t : ℕ) → AtOrAfter (s, t) (x, y) → (x ≤ s) × (s ≡ x → y ≤ t)
  before x y s t (inl l) = (omega (arith, l), λ e. absurd (omega (arith, l, e)))
  before x y s t (inr e) = (omega (arith, e.0), λ _. e.1)

  pub first-invertible : (x y : ℕ) → IsFirstFrom v (0, 0) (x, y) → IsFirstInvertible K (complex_in v) x y
  first-invertible x y first s t i =
      before x y s t (first.first (s, t) (invertible-candidate s t i) (from-start (s, t)))
