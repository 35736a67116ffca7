-- The pair that is removed: the first block of a column, its footprint, its record and its step.
use Rattle.std.proofs.Common.{◌≡◌, ◌≢◌, ℕ, ◌<◌, Bool, true, false, cond, ◌||◌, sym, ap, ◌∙◌}
use Rattle.std.proofs.Common.{subst, subst₂, arith, inl, inr, List, [], ◌∷◌, length, get_or, eqb, All}
use Rattle.std.specs.Prelude.{◌&&◌}
use Rattle.std.specs.Option.{is_some}
use Rattle.std.proofs.lemmas.Bool.{eq-eqb, cases_Bool}
use Rattle.std.proofs.lemmas.List.Elements.{All-head, All-tail}
use Rattle.dense_blocks.specs.Field.{Ops}
use Rattle.dense_blocks.specs.FieldLaws.{IsField}
use Rattle.dense_blocks.specs.Blocks.{matrix_of}
use Rattle.dense_blocks.specs.MatrixFacts.{IsInverse, zero_matrix}
use Rattle.dense_blocks.specs.declared.block.Block.{Block}
use Rattle.dense_blocks.proofs.Shapes.{Matrix, from_matrix}
use Rattle.dense_blocks.proofs.ScalarLaws.{inv_mul}
use Rattle.dense_blocks.proofs.BlockLaws.{block-matrix_at}
use Rattle.rising_lists.specs.Rising.{IsRising, has}
use Rattle.rising_lists.proofs.Keyed.{has-at, place_of, rising_le}
use Rattle.block_complexes.specs.BlockComplexes.{BlockComplex, IsBlockComplex, cells, size_of}
use Rattle.removals.specs.Removals.{IsRemoval}
use Rattle.block_sparse.specs.StoredBlocks.{StoredBlocks, IsBetween, block_at, complex_in, is_zero, matrix, matrix_or}
use Rattle.block_sparse.specs.Invariants.{IsSound}
use Rattle.block_sparse.proofs.ScalarBlocks.{not-block_at}
use Rattle.reduce_step.specs.declared.footprint.Footprint.{Footprint}
use Rattle.reduce_step.specs.declared.record.Step.{Step}
use Rattle.reduce_step.specs.Differences.{Fits}
use Rattle.reduce_step.specs.Finishes.{IsSingular}
use Rattle.reduce_step.specs.Footprints.{IsFootprint, IsOverField}
use Rattle.reduce_step.specs.Logs.{IsStepFrom}
use Rattle.reduce_step.specs.Records.{RecordValue}
use Rattle.reduce_step.specs.Steps.{IsStepOf}
use Rattle.reduce_step.proofs.DifferenceLaws.{not-both}
use Rattle.reduce_step.proofs.FitLaws.{nonzero-block_at, zero_matrix-zero}
use Rattle.reduce_step.proofs.StandingLaws.{footprint-fits, pivot-stands}
use Rattle.scalar_finish.specs.Beginnings.{IsFirstFrom, IsStepAt}

-- ---- the first block of a column

module _ (v : StoredBlocks) (x : ℕ) (column : List ℕ) (are : (t : ℕ) → has t column ≡ is_some (block_at v x t)) where
  zero-at : (t : ℕ) → is_some (block_at v x t) ≡ false
      → matrix v x t ≡ zero_matrix (size_of v.live t) (size_of v.live x)
  zero-at t n = ap (λ o. matrix_or o (zero_matrix (size_of v.live t) (size_of v.live x)))
      (not-block_at (block_at v x t) n)

  pub first-below : IsRising column → ((t : ℕ) → has t column ≡ true → IsBetween v x t) → 0 < length column
      → IsFirstFrom (complex_in v) x (get_or column 0 0)
  first-below rises between some =
      let b = between (get_or column 0 0) (has-at column 0 some) in record {
        pair = b.between;
        nonzero = b.nonzero;
        first = λ t c n. elim (cases_Bool (is_some (block_at v x t))) [
          | inl h ↦
              let at = place_of column t (are t ∙ h) in
              omega (arith, rising_le column rises 0 at.at (omega arith) at.inside, at.is)
          | inr h ↦ not-both (is_zero (matrix v x t))
              (ap is_zero (zero-at t h) ∙ zero_matrix-zero (size_of v.live t) (size_of v.live x)) n
        ];
      }

-- ---- cells of size 1

pub one-size : (live : List (ℕ × ℕ × ℕ)) (c : ℕ) → All (λ l. l.2 ≡ 1) live → has c (cells live) ≡ true
    → size_of live c ≡ 1
one-size [] c units h = cc
one-size (l ∷ ls) c units h =
    go (eqb l.0 c) h (one-size ls c (All-tail (λ (l : ℕ × ℕ × ℕ). l.2 ≡ 1) l ls units))
  where
    go : (b : Bool) → (b || has c (cells ls)) ≡ true → (has c (cells ls) ≡ true → size_of ls c ≡ 1)
        → cond b l.2 (size_of ls c) ≡ 1
    go true m later = All-head (λ (l : ℕ × ℕ × ℕ). l.2 ≡ 1) l ls units
    go false m later = later m

-- one entry that is not 0 has an inverse
unit-inverse : (K : Ops) → IsField K → (A : List (List ℕ)) → Matrix K 1 1 A → is_zero A ≡ false
    → (B : List (List ℕ)) × IsInverse K 1 A B
unit-inverse K F [] h n = absurd h
unit-inverse K F ([] ∷ A) h n = absurd h.0
unit-inverse K F ((e ∷ f ∷ r) ∷ A) h n = absurd h.0.1
unit-inverse K F ((e ∷ []) ∷ r ∷ A) h n = absurd h.1
unit-inverse K F ((e ∷ []) ∷ []) h n =
    let low : e < K.order = h.0.0 in
    let some : e ≢ 0 = λ z. let f : true ≡ false = sym (ap (λ b. (b && true) && true) (eq-eqb e 0 z)) ∙ n in cc in
    let i = K.inv e in (
      (i ∷ []) ∷ [],
      record {
        shape = from_matrix K 1 1 ((i ∷ []) ∷ []) ((F.inv_below e, tt), tt);
        left = ap (λ t. (t ∷ []) ∷ []) (F.add_zero (K.mul i e) (F.mul_below i e) ∙ inv_mul K F e low some);
        right = ap (λ t. (t ∷ []) ∷ []) (F.add_zero (K.mul e i) (F.mul_below e i) ∙ F.mul_inv e low some);
      },
    )

-- so such a pivot is not found singular
pub not-singular : (K : Ops) → IsField K → (foot : Footprint) (x y : ℕ) (pivot : Block) (kernel : List ℕ)
    → IsOverField K foot → foot.pivot.rows ≡ 1 → is_zero (matrix_of foot.pivot) ≡ false
    → IsSingular K foot x y pivot kernel → ⊥
not-singular K F foot x y pivot kernel over one nonzero s =
    let b = foot.pivot in
    let shape = block-matrix_at K b 1 1 one (sym foot.parts.square ∙ one) over.pivot in
    let inverse = unit-inverse K F (matrix_of b) shape nonzero in
    let none = subst (λ (c : Block). (B : List (List ℕ)) → IsInverse K c.rows (matrix_of c) B → ⊥) s.pivot_is
    s.no_inverse in
    none inverse.0 (subst (λ n. IsInverse K n (matrix_of b) inverse.0) (sym one) inverse.1)

-- ---- the footprint of the pair

module _ (K : Ops) (F : IsField K) (v : StoredBlocks) (sound : IsSound v.live v.rows v.columns)
    (units : All (λ l. l.2 ≡ 1) v.live) (is : IsBlockComplex K (complex_in v)) (x y : ℕ)
    (first : IsFirstFrom (complex_in v) x y) where
  pub pair-stands : is_some (block_at v x y) ≡ true
  pair-stands = nonzero-block_at K v x y first.nonzero

  pub pair-square : size_of v.live y ≡ size_of v.live x
  pair-square = one-size v.live y units first.pair.to ∙ sym (one-size v.live x units first.pair.from)

  module _ (foot : Footprint) (h : IsFootprint v x y foot) where
    own : IsFootprint v foot.x foot.y foot
    own = subst₂ (λ x y. IsFootprint v x y foot) (sym h.from) (sym h.to) h

    stands : is_some (block_at v foot.x foot.y) ≡ true
    stands = subst₂ (λ x y. is_some (block_at v x y) ≡ true) (sym h.from) (sym h.to) pair-stands

    square : size_of v.live foot.y ≡ size_of v.live foot.x
    square = subst₂ (λ x y. size_of v.live y ≡ size_of v.live x) (sym h.from) (sym h.to) pair-square

    pub pair-fits : Fits v foot
    pair-fits = footprint-fits K F v sound is foot stands square own

    pub pivot-rows : foot.pivot.rows ≡ 1
    pivot-rows = (pivot-stands K F v sound is foot stands square own).fits.rows
        ∙ ap (size_of v.live) h.to ∙ one-size v.live y units first.pair.to

    pub pivot-nonzero : is_zero (matrix_of foot.pivot) ≡ false
    pivot-nonzero = ap is_zero h.pivot ∙ first.nonzero

-- ---- the step of a record

pub step-at : {T : Type 0} (ops : T → Ops) (f : T) (v w : BlockComplex) (x y : ℕ) (r : RecordValue T) (step : Step)
    → r.f ≡ f → r.foot.x ≡ x → r.foot.y ≡ y → IsStepOf r step → IsStepFrom (ops r.f) v step
    → IsRemoval (ops r.f) v r.foot.x r.foot.y (matrix_of r.inverse) w
    → IsStepAt (ops f) v x y step w
step-at ops f v w x y r step field from to is step_from removal = record {
  from = is.from ∙ from;
  to = is.to ∙ to;
  step_from = subst (λ f. IsStepFrom (ops f) v step) field step_from;
  removal =
      subst (λ a. IsRemoval (ops f) v step.x step.y (matrix_of a) w) (sym is.inverse)
      (subst₂ (λ x y. IsRemoval (ops f) v x y (matrix_of r.inverse) w) (sym is.from) (sym is.to)
      (subst (λ f. IsRemoval (ops f) v r.foot.x r.foot.y (matrix_of r.inverse) w) field removal));
}
