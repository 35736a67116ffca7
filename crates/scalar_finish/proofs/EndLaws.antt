-- Reductions to the end: what they leave, that there is one, and how one goes on.
use Rattle.std.proofs.Common.{◌≡◌, ℕ, ◌<◌, ◌≤◌, ◌+◌, true, false, ◌||◌, refl, sym, ap, ap₂}
use Rattle.std.proofs.Common.{◌∙◌, subst, subst₂, arith, inl, inr, List, [], ◌∷◌, ◌++◌, length, get_or, eqb}
use Rattle.std.proofs.Common.{All, append-nil, append_assoc}
use Rattle.std.proofs.lemmas.Bool.{eq-eqb, cases_eq, cases_lt}
use Rattle.std.proofs.lemmas.List.{map-append}
use Rattle.std.proofs.lemmas.List.Elements.{All-filter}
use Rattle.std.specs.Prelude.{not}
use Rattle.dense_blocks.specs.Field.{Ops}
use Rattle.dense_blocks.specs.FieldLaws.{IsField}
use Rattle.dense_blocks.specs.Blocks.{matrix_of}
use Rattle.dense_blocks.specs.MatrixFacts.{IsMatrix, zero_matrix}
use Rattle.dense_blocks.proofs.Shapes.{to_matrix}
use Rattle.dense_blocks.proofs.MatrixLaws.{inverse-unique}
use Rattle.rising_lists.specs.Rising.{IsRising, has}
use Rattle.rising_lists.proofs.Keyed.{place_of, rising_le}
use Rattle.block_complexes.specs.BlockComplexes.{BlockComplex, AreBothLive, AreConsecutive, IsBlockComplex}
use Rattle.block_complexes.specs.BlockComplexes.{HaveSameMatrices, cells, size_of}
use Rattle.block_complexes.proofs.FullLaws.{IsFull, filled, filled-full, same-filled}
use Rattle.block_complexes.proofs.SameLaws.{with-live, same-refl, same-sym, same-trans}
use Rattle.block_complexes.proofs.Sums.{is_other}
use Rattle.block_sparse.specs.StoredBlocks.{is_zero}
use Rattle.removals.specs.Removals.{IsRemoval}
use Rattle.removals.proofs.CornerLaws.{corner-zero_row, matrix-left, inverse-shape, has-without, of_cell-without}
use Rattle.removals.proofs.RemovalLaws.{removal_keeps_block_complex}
use Rattle.removals.proofs.SameRemovals.{both-before, removal-same-before, removal-one}
use Rattle.equivalence_laws.specs.Bases.{HasNoBlock}
use Rattle.reduce_step.specs.declared.record.Step.{Step}
use Rattle.reduce_step.specs.Logs.{pairs_of}
use Rattle.reduce_step.proofs.FitLaws.{zero_matrix-zero}
use Rattle.reduce_step.proofs.LogLaws.{steps-more}
use Rattle.scalar_finish.specs.Finishes.{IsFirstNonzero, IsFinish}
use Rattle.scalar_finish.specs.Laws.{FinishIsAfter, FinishesAreEqual}
use Rattle.scalar_finish.specs.Beginnings.{IsBeginning, HasNoneFrom, IsFirstFrom, IsStepAt, IsVisit, IsOnTheWay}

-- ---- what is left

no_block-same : (v w : BlockComplex) → HaveSameMatrices v w → HasNoBlock v → HasNoBlock w
no_block-same v w same none = with-live HasNoBlock w v.live same.live (λ s t l. same.matrices s t l ∙ none s t l)

pub finish_is_after : FinishIsAfter
finish_is_after K v w [] F is f = (f.1, no_block-same v w f.1 f.0)
finish_is_after K v w (p ∷ pairs) F is f =
    let rest = finish_is_after K f.0 w pairs F (removal_keeps_block_complex K v f.0 p.0 p.1 f.1 F is f.3) f.4 in
    ((f.0, f.1, f.3, rest.0), rest.1)

-- ---- there is one

both : (v : BlockComplex) (s t : ℕ) → AreConsecutive v.live s t → AreBothLive v.live s t
both v s t c = record { from = c.from; to = c.to }

first-same : (v m : BlockComplex) (x y : ℕ) → HaveSameMatrices v m → IsFirstNonzero v x y → IsFirstNonzero m x y
first-same v m x y same f = with-live (λ m. IsFirstNonzero m x y) m v.live same.live (record {
  pair = f.pair;
  nonzero = ap is_zero (same.matrices x y (both v x y f.pair)) ∙ f.nonzero;
  first = λ s t c n. f.first s t c (ap is_zero (sym (same.matrices s t (both v s t c))) ∙ n);
})

first-one : (v : BlockComplex) (x y s t : ℕ) → IsFirstNonzero v x y → IsFirstNonzero v s t → (x ≡ s) × (y ≡ t)
first-one v x y s t f g =
    let a = f.first s t g.pair g.nonzero in
    let b = g.first x y f.pair f.nonzero in
    let e : x ≡ s = omega (arith, a.0, b.0) in
    (e, omega (arith, a.1 (sym e), b.1 e))

no_block-first : (v : BlockComplex) (x y : ℕ) → HasNoBlock v → IsFirstNonzero v x y → ⊥
no_block-first v x y none f =
    let e : true ≡ false = sym (ap is_zero (none x y (both v x y f.pair))
    ∙ zero_matrix-zero (size_of v.live y) (size_of v.live x)) ∙ f.nonzero in cc

pub finishes_are_equal : FinishesAreEqual
finishes_are_equal K v v' w w' [] [] F is same f g =
    (refl, same-trans w v w' (same-sym v w f.1) (same-trans v v' w' same g.1))
finishes_are_equal K v v' w w' [] (q ∷ qs) F is same f g =
    absurd (no_block-first v q.0 q.1 f.0 (first-same v' v q.0 q.1 (same-sym v v' same) g.2))
finishes_are_equal K v v' w w' (p ∷ ps) [] F is same f g =
    absurd (no_block-first v' p.0 p.1 g.0 (first-same v v' p.0 p.1 same f.2))
finishes_are_equal K v v' w w' (p ∷ ps) (q ∷ qs) F is same f g =
    let x = p.0 in
    let y = p.1 in
    let n = size_of v.live x in
    let back = same-sym v v' same in
    let pair = first-one v x y q.0 q.1 f.2 (first-same v' v q.0 q.1 back g.2) in
    let other = subst₂ (λ x y. IsRemoval K v x y g.1 g.0) (sym pair.0) (sym pair.1)
    (removal-same-before K v' v q.0 q.1 g.1 g.0 back g.3) in
    let first = f.3 in
    let shape = is.matrices x y (both v x y first.pair) in
    let square = to_matrix K n n (v.matrix x y) (subst (λ k. IsMatrix K k n (v.matrix x y)) first.square shape) in
    let inverse = inverse-unique K F n (v.matrix x y) g.1 f.1 square other.inverse first.inverse in
    let second = subst (λ a. IsRemoval K v x y a g.0) inverse other in
    let left = removal-one K v x y f.1 f.0 g.0 first second in
    let rest = finishes_are_equal K f.0 g.0 w w' ps qs F (removal_keeps_block_complex K v f.0 x y f.1 F is first) left
    f.4 g.4 in
    (ap₂ ◌∷◌ (ap₂ (λ a b. (a, b)) pair.0 pair.1) rest.0, rest.1)

-- ---- how one goes on

-- what has nothing keeps nothing
module _ (K : Ops) (F : IsField K) (v : BlockComplex) (is : IsBlockComplex K v) (x y : ℕ) (a : List (List ℕ))
    (w : BlockComplex) (removal : IsRemoval K v x y a w) where
  full : IsFull K (filled v)
  full = filled-full K F v is

  before : IsRemoval K (filled v) x y a w
  before = removal-same-before K v (filled v) x y a w (same-filled v) removal

  left : (c : ℕ) → has c (cells w.live) ≡ true → (has c (cells v.live) ≡ true) × (is_other x y c ≡ true)
  left c h = has-without x y v.live c (subst (λ live. has c (cells live) ≡ true) removal.live h)

  same-size : (c : ℕ) → has c (cells w.live) ≡ true → size_of w.live c ≡ size_of v.live c
  same-size c h = ap (λ live. size_of live c) removal.live ∙ of_cell-without x y (λ l. l.2) v.live c (left c h).1

  none-from : (s : ℕ) → HasNoneFrom v s → HasNoneFrom w s
  none-from s none t l =
      let b = both-before K v x y a w removal s t l in
      let side : AreBothLive v.live s y = record { from = b.from; to = removal.pair.to } in
      matrix-left K F (filled v) full x y a w before s t l.from l.to
      ∙ corner-zero_row K F (filled v) full x y a (inverse-shape K F (filled v) full x y a w before) s t
      ((same-filled v).matrices s y side ∙ none y side)
      ∙ (same-filled v).matrices s t b ∙ none t b
      ∙ sym (ap₂ zero_matrix (same-size t l.to) (same-size s l.from))

  not-removed : has x (cells w.live) ≡ true → ⊥
  not-removed h =
      let e : false ≡ true = sym (ap (λ b. not (b || eqb x y)) (eq-eqb x x refl)) ∙ (left x h).1 in cc

-- the first pair of a cell is the first of all where nothing goes from the cells before it
pub first-first : (v w : BlockComplex) (n y : ℕ) → IsRising (cells v.live) → n < length (cells v.live)
    → ((s : ℕ) → has s (cells w.live) ≡ true → has s (cells v.live) ≡ true)
    → ((j : ℕ) → j < n → HasNoneFrom w (get_or (cells v.live) j 0))
    → IsFirstFrom w (get_or (cells v.live) n 0) y
    → IsFirstNonzero w (get_or (cells v.live) n 0) y
first-first v w n y r inside within done f = record { pair = f.pair; nonzero = f.nonzero; first = first }
  where
    x : ℕ
    x = get_or (cells v.live) n 0

    first : (s t : ℕ) → AreConsecutive w.live s t → is_zero (w.matrix s t) ≡ false
        → (get_or (cells v.live) n 0 ≤ s) × (s ≡ get_or (cells v.live) n 0 → y ≤ t)
    first s t c nonzero =
        let at = place_of (cells v.live) s (within s c.from) in
        elim (cases_lt at.at n) [
          | inl l ↦
              let none = subst (HasNoneFrom w) at.is (done at.at l) in
              let e : true ≡ false = sym (ap is_zero (none t (both w s t c))
              ∙ zero_matrix-zero (size_of w.live t) (size_of w.live s)) ∙ nonzero in cc
          | inr l ↦ (
            omega (arith, rising_le (cells v.live) r n at.at (omega arith) at.inside, at.is),
            λ e. f.first t (subst (λ k. AreConsecutive w.live k t) e c)
                (subst (λ k. is_zero (w.matrix k t) ≡ false) e nonzero),
          )
        ]

beginning-then : (K : Ops) (u v w : BlockComplex) (ps : List (ℕ × ℕ)) (p : ℕ × ℕ) (a : List (List ℕ))
    → IsBeginning K u ps v → IsFirstNonzero v p.0 p.1 → IsRemoval K v p.0 p.1 a w → IsBeginning K u (ps ++ p ∷ []) w
beginning-then K u v w ps p a b first removal = λ rest x r.
    subst (λ l. IsFinish K u l x) (sym (append_assoc ps (p ∷ []) rest)) (b (p ∷ rest) x (w, a, first, removal, r))

module _ (K : Ops) (F : IsField K) (v : BlockComplex) (rises : IsRising (cells v.live)) (n : ℕ)
    (inside : n < length (cells v.live)) where
  abbrev cell : ℕ → ℕ
  cell j = get_or (cells v.live) j 0

  way-none : (steps : List Step) (w : BlockComplex) → IsOnTheWay K v n steps w → HasNoneFrom w (cell n)
      → IsOnTheWay K v (n + 1) steps w
  way-none steps w h none = record {
    units = h.units;
    block_complex = h.block_complex;
    steps_are = h.steps_are;
    beginning = h.beginning;
    within = h.within;
    done = λ j l. elim (cases_eq j n) [
      | inl e ↦ subst (λ k. HasNoneFrom w (cell k)) (sym e) none
      | inr d ↦ h.done j (omega arith)
    ];
  }

  way-step : (steps : List Step) (w m : BlockComplex) (y : ℕ) (step : Step) → IsOnTheWay K v n steps w
      → IsFirstFrom w (cell n) y → IsStepAt K w (cell n) y step m → IsOnTheWay K v (n + 1) (steps ++ step ∷ []) m
  way-step steps w m y step h f s =
      let a = matrix_of step.inverse in
      let at = subst₂ (λ x y. IsRemoval K w x y a m) s.from s.to s.removal in
      let first = first-first v w n y rises inside h.within h.done f in
      let goes = subst₂ (IsFirstNonzero w) (sym s.from) (sym s.to) first in
      record {
        units = subst (All (λ (l : ℕ × ℕ × ℕ). l.2 ≡ 1)) (sym s.removal.live)
            (All-filter (λ (l : ℕ × ℕ × ℕ). is_other step.x step.y l.0) (λ (l : ℕ × ℕ × ℕ). l.2 ≡ 1) w.live h.units);
        block_complex = removal_keeps_block_complex K w m step.x step.y a F h.block_complex s.removal;
        steps_are = steps-more K steps step v w m h.steps_are s.step_from s.removal;
        beginning = subst (λ ps. IsBeginning K v ps m)
            (sym (map-append (λ (step : Step). (step.x, step.y)) steps (step ∷ [])))
            (beginning-then K v w m (pairs_of steps) (step.x, step.y) a h.beginning goes s.removal);
        within = λ c l. h.within c (left K F w h.block_complex step.x step.y a m s.removal c l).0;
        done = λ j l. elim (cases_eq j n) [
          | inl e ↦ λ t both.
              absurd (not-removed K F w h.block_complex (cell n) y a m at
              (subst (λ k. has (cell k) (cells m.live) ≡ true) e both.from))
          | inr d ↦ none-from K F w h.block_complex step.x step.y a m s.removal (cell j) (h.done j (omega arith))
        ];
      }

  -- one cell more
  pub way-next : (steps longer : List Step) (w m : BlockComplex) → IsOnTheWay K v n steps w
      → IsVisit K w steps (cell n) m longer → IsOnTheWay K v (n + 1) longer m
  way-next steps longer w m h (inl e) =
      subst₂ (IsOnTheWay K v (n + 1)) (sym e.2) (sym e.1) (way-none steps w h e.0)
  way-next steps longer w m h (inr e) =
      subst (λ l. IsOnTheWay K v (n + 1) l m) (sym e.4) (way-step steps w m e.0 e.1 h e.2 e.3)

-- before the first cell
pub way-start : (K : Ops) (v : BlockComplex) → All (λ l. l.2 ≡ 1) v.live → IsBlockComplex K v → IsOnTheWay K v 0 [] v
way-start K v units is = record {
  units = units;
  block_complex = is;
  steps_are = same-refl v;
  beginning = λ rest u r. r;
  within = λ s h. h;
  done = λ j l. absurd (omega arith);
}

-- after the last
pub way-end : (K : Ops) (v w : BlockComplex) (steps : List Step) → IsOnTheWay K v (length (cells v.live)) steps w
    → IsFinish K v (pairs_of steps) w
way-end K v w steps h =
    subst (λ l. IsFinish K v l w) (append-nil (pairs_of steps)) (h.beginning [] w (none, same-refl w))
  where
    none : HasNoBlock w
    none s t l = let at = place_of (cells v.live) s (h.within s l.from) in
        subst (HasNoneFrom w) at.is (h.done at.at at.inside) t l
