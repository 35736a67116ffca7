-- The step of a record that fits is one from what stands; steps from the same block complex, one step more, and the
-- pairs of steps.
use Rattle.std.proofs.Common.{◌≡◌, ℕ, Bool, true, false, ◌&&◌, List, [], ◌∷◌, ◌++◌, refl, sym, ap, ap₂, ◌∙◌, subst}
use Rattle.std.proofs.Common.{inl, inr}
use Rattle.std.specs.Prelude.{◌==◌, not}
use Rattle.std.specs.Option.{is_some}
use Rattle.std.proofs.lemmas.Bool.{cases_Bool}
use Rattle.dense_blocks.specs.Field.{Ops}
use Rattle.dense_blocks.specs.Blocks.{matrix_of}
use Rattle.dense_blocks.specs.declared.block.Block.{Block}
use Rattle.dense_blocks.specs.Inverses.{IsInverseBlock}
use Rattle.rising_lists.specs.Rising.{has, keys, entry_of}
use Rattle.block_complexes.specs.BlockComplexes.{BlockComplex, AreConsecutive, HaveSameMatrices, cells, size_of}
use Rattle.block_complexes.proofs.SameLaws.{same-refl, same-sym, same-trans}
use Rattle.removals.specs.Removals.{IsRemoval}
use Rattle.removals.specs.Reductions.{IsAfter}
use Rattle.removals.proofs.SameRemovals.{removal-same-before}
use Rattle.block_sparse.specs.StoredBlocks.{StoredBlocks, complex_in, block_at, matrix, is_zero}
use Rattle.block_sparse.specs.Grids.{AreSized}
use Rattle.block_sparse.specs.Invariants.{IsSound}
use Rattle.block_sparse.proofs.GridLaws.{sized-live}
use Rattle.block_sparse.proofs.ScalarBlocks.{block_at-between, row-between}
use Rattle.reduce_step.specs.declared.record.Step.{Step}
use Rattle.reduce_step.specs.Footprints.{IsFootprint}
use Rattle.reduce_step.specs.Records.{RecordValue}
use Rattle.reduce_step.specs.Steps.{IsStepOf}
use Rattle.reduce_step.specs.Logs.{IsStepFrom, IsJoinedOf, AreStepsFrom, pairs_of}
use Rattle.reduce_step.proofs.ApplyLaws.{block-block_at}
use Rattle.reduce_step.proofs.DifferenceLaws.{one-of}
use Rattle.reduce_step.proofs.FitLaws.{nonzero-block_at}

-- a block stands exactly where the matrix between two live cells is not zero
record IsWhereNonzero (v : StoredBlocks) (s t : ℕ) : Type 0 where
  from : is_some (block_at v s t) ≡ (has s (cells v.live) && not (is_zero (matrix v s t)))
  to : is_some (block_at v s t) ≡ (has t (cells v.live) && not (is_zero (matrix v s t)))

block-nonzero : (v : StoredBlocks) → IsSound v.live v.rows v.columns → (s t : ℕ) → is_some (block_at v s t) ≡ true
    → is_zero (matrix v s t) ≡ false
block-nonzero v sound s t e =
    (row-between v sound s t (block-block_at (entry_of v.rows t s) (entry_of v.columns s t) e)).nonzero

block-where-nonzero : (K : Ops) (v : StoredBlocks) → IsSound v.live v.rows v.columns → (s t : ℕ) → IsWhereNonzero v s t
block-where-nonzero K v sound s t = elim (cases_Bool (is_some (block_at v s t))) [
  | inl e ↦
      let pair = block_at-between v sound s t e in
      let nonzero = block-nonzero v sound s t e in
      record {
        from = e ∙ sym (ap₂ ◌&&◌ pair.from (ap not nonzero));
        to = e ∙ sym (ap₂ ◌&&◌ pair.to (ap not nonzero));
      }
  | inr e ↦
      record {
        from = e ∙ sym (zero-of (has s (cells v.live)) (is_zero-none e));
        to = e ∙ sym (zero-of (has t (cells v.live)) (is_zero-none e));
      }
]
  where
    zero-of : (b : Bool) → is_zero (matrix v s t) ≡ true → (b && not (is_zero (matrix v s t))) ≡ false
    zero-of true e = ap not e
    zero-of false e = refl

    is_zero-none : is_some (block_at v s t) ≡ false → is_zero (matrix v s t) ≡ true
    is_zero-none e = elim (cases_Bool (is_zero (matrix v s t))) [
      | inl z ↦ z
      | inr n ↦ absurd (let f : true ≡ false = sym (nonzero-block_at K v s t n) ∙ e in cc)
    ]

-- what a step has, by its parts
record AreStepParts (K : Ops) (v : BlockComplex) (x y : ℕ) (left below : List (ℕ × ℕ))
    (pivot inverse row column : Block) : Type 0 where
  pair : AreConsecutive v.live x y
  nonzero : is_zero (v.matrix x y) ≡ false
  square : size_of v.live y ≡ size_of v.live x
  on_left : (s : ℕ) → has s (keys left) ≡ (has s (cells v.live) && not (is_zero (v.matrix s y)) && not (s == x))
  is_below : (t : ℕ) → has t (keys below) ≡ (has t (cells v.live) && not (is_zero (v.matrix x t)) && not (t == y))
  left_sized : AreSized v.live left
  below_sized : AreSized v.live below
  pivot_is : matrix_of pivot ≡ v.matrix x y
  is_inverse : IsInverseBlock K pivot inverse
  row_is : IsJoinedOf v left ((y, size_of v.live y) ∷ []) (matrix_of row)
  column_is : IsJoinedOf v ((x, size_of v.live x) ∷ []) below (matrix_of column)

parts-step : (K : Ops) (v : BlockComplex) (step : Step)
    → AreStepParts K v step.x step.y step.left step.below step.pivot step.inverse step.row step.column
    → IsStepFrom K v step
parts-step K v step h = record {
  pair = h.pair;
  nonzero = h.nonzero;
  square = h.square;
  left = h.on_left;
  below = h.is_below;
  left_sized = h.left_sized;
  below_sized = h.below_sized;
  pivot = h.pivot_is;
  inverse = h.is_inverse;
  row = h.row_is;
  column = h.column_is;
}

-- the step of a record whose footprint is that of what stands
module _ {F : Type 0} (K : Ops) (v : StoredBlocks) (sound : IsSound v.live v.rows v.columns) (r : RecordValue F)
    (inverse : IsInverseBlock K r.foot.pivot r.inverse) (foot : IsFootprint v r.foot.x r.foot.y r.foot)
    (stands : is_some (block_at v r.foot.x r.foot.y) ≡ true)
    (square : size_of v.live r.foot.y ≡ size_of v.live r.foot.x) where
  step-parts : AreStepParts K (complex_in v) r.foot.x r.foot.y r.foot.left r.foot.below r.foot.pivot r.inverse
      r.foot.row r.foot.column
  step-parts = record {
    pair = block_at-between v sound r.foot.x r.foot.y stands;
    nonzero = block-nonzero v sound r.foot.x r.foot.y stands;
    square = square;
    on_left = λ s.
        foot.left s ∙ ap (λ b. b && not (s == r.foot.x)) (block-where-nonzero K v sound s r.foot.y).from;
    is_below = λ t.
        foot.below t ∙ ap (λ b. b && not (t == r.foot.y)) (block-where-nonzero K v sound r.foot.x t).to;
    left_sized = foot.left_sized;
    below_sized = foot.below_sized;
    pivot_is = foot.pivot;
    is_inverse = inverse;
    row_is = foot.row;
    column_is = foot.column;
  }

  pub step-from : (step : Step) → IsStepOf r step → IsStepFrom K (complex_in v) step
  step-from step is =
      let w = complex_in v in
      let f = r.foot in
      parts-step K w step
      (subst (λ x. AreStepParts K w x step.y step.left step.below step.pivot step.inverse step.row step.column)
      (sym is.from)
      (subst (λ y. AreStepParts K w f.x y step.left step.below step.pivot step.inverse step.row step.column)
      (sym is.to)
      (subst (λ left. AreStepParts K w f.x f.y left step.below step.pivot step.inverse step.row step.column)
      (sym is.left)
      (subst (λ below. AreStepParts K w f.x f.y f.left below step.pivot step.inverse step.row step.column)
      (sym is.below)
      (subst (λ pivot. AreStepParts K w f.x f.y f.left f.below pivot step.inverse step.row step.column)
      (sym is.pivot)
      (subst (λ a. AreStepParts K w f.x f.y f.left f.below f.pivot a step.row step.column)
      (sym is.inverse)
      (subst (λ row. AreStepParts K w f.x f.y f.left f.below f.pivot r.inverse row step.column)
      (sym is.row)
      (subst (λ column. AreStepParts K w f.x f.y f.left f.below f.pivot r.inverse f.row column)
      (sym is.column) step-parts))))))))

-- a step from w is one from v where v and w are the same block complex
module _ (K : Ops) (v w : BlockComplex) (same : HaveSameMatrices v w) (step : Step) (h : IsStepFrom K w step) where
  same-pair : AreConsecutive v.live step.x step.y
  same-pair = subst (λ l. AreConsecutive l step.x step.y) same.live h.pair

  same-left : AreSized v.live step.left
  same-left = subst (λ l. AreSized l step.left) same.live h.left_sized

  same-below : AreSized v.live step.below
  same-below = subst (λ l. AreSized l step.below) same.live h.below_sized

  same-pivot : w.matrix step.x step.y ≡ v.matrix step.x step.y
  same-pivot = same.matrices step.x step.y (record { from = same-pair.from; to = same-pair.to })

  both : (b : Bool) (A B : List (List ℕ)) → (b ≡ true → A ≡ B) → (b && not (is_zero A)) ≡ (b && not (is_zero B))
  both true A B e = ap (λ C. not (is_zero C)) (e refl)
  both false A B e = refl

  pub same-step : IsStepFrom K v step
  same-step = record {
    pair = same-pair;
    nonzero = sym (ap is_zero same-pivot) ∙ h.nonzero;
    square = subst (λ l. size_of l step.y ≡ size_of l step.x) same.live h.square;
    left = λ s.
        h.left s
        ∙ ap (λ l. has s (cells l) && not (is_zero (w.matrix s step.y)) && not (s == step.x)) same.live
        ∙ ap (λ b. b && not (s == step.x)) (both (has s (cells v.live)) (w.matrix s step.y) (v.matrix s step.y)
        (λ e. same.matrices s step.y (record { from = e; to = same-pair.to })));
    below = λ t.
        h.below t
        ∙ ap (λ l. has t (cells l) && not (is_zero (w.matrix step.x t)) && not (t == step.y)) same.live
        ∙ ap (λ b. b && not (t == step.y)) (both (has t (cells v.live)) (w.matrix step.x t) (v.matrix step.x t)
        (λ e. same.matrices step.x t (record { from = same-pair.from; to = e })));
    left_sized = same-left;
    below_sized = same-below;
    pivot = h.pivot ∙ same-pivot;
    inverse = h.inverse;
    row = λ s t hs ht.
        let e = one-of step.y t ht in
        subst (λ l. IsJoinedOf w step.left ((step.y, size_of l step.y) ∷ []) (matrix_of step.row)) same.live h.row
        s t hs ht
        ∙ same.matrices s t (record {
          from = sized-live v.live step.left same-left s hs;
          to = subst (λ c. has c (cells v.live) ≡ true) e same-pair.to;
        });
    column = λ s t hs ht.
        let e = one-of step.x s hs in
        subst (λ l. IsJoinedOf w ((step.x, size_of l step.x) ∷ []) step.below (matrix_of step.column)) same.live
        h.column s t hs ht
        ∙ same.matrices s t (record {
          from = subst (λ c. has c (cells v.live) ≡ true) e same-pair.from;
          to = sized-live v.live step.below same-below t ht;
        });
  }

-- steps from the same block complex, and to the same
pub steps-same-before : (K : Ops) (steps : List Step) (v m w : BlockComplex) → HaveSameMatrices v m
    → AreStepsFrom K v steps w → AreStepsFrom K m steps w
steps-same-before K [] v m w same h = same-trans m v w (same-sym v m same) h
steps-same-before K (step ∷ steps) v m w same h = (
  h.0,
  same-step K m v (same-sym v m same) step h.1,
  removal-same-before K v m step.x step.y (matrix_of step.inverse) h.0 same h.2,
  h.3,
)

pub steps-same-after : (K : Ops) (steps : List Step) (u v w : BlockComplex) → AreStepsFrom K u steps v
    → HaveSameMatrices v w → AreStepsFrom K u steps w
steps-same-after K [] u v w h same = same-trans u v w h same
steps-same-after K (step ∷ steps) u v w h same = (h.0, h.1, h.2, steps-same-after K steps h.0 v w h.3 same)

-- one step more
pub steps-more : (K : Ops) (steps : List Step) (step : Step) (u v w : BlockComplex) → AreStepsFrom K u steps v
    → IsStepFrom K v step → IsRemoval K v step.x step.y (matrix_of step.inverse) w
    → AreStepsFrom K u (steps ++ step ∷ []) w
steps-more K [] step u v w same is removal = (
  w,
  same-step K u v same step is,
  removal-same-before K v u step.x step.y (matrix_of step.inverse) w (same-sym u v same) removal,
  same-refl w,
)
steps-more K (first ∷ steps) step u v w h is removal =
    (h.0, h.1, h.2, steps-more K steps step h.0 v w h.3 is removal)

-- what steps leave is what is left after their pairs
pub steps-after : (K : Ops) (steps : List Step) (v w : BlockComplex) → AreStepsFrom K v steps w
    → IsAfter K v (pairs_of steps) w
steps-after K [] v w h = h
steps-after K (step ∷ steps) v w h = (h.0, matrix_of step.inverse, h.2, steps-after K steps h.0 w h.3)

-- both at once
pub steps-same : (K : Ops) (steps : List Step) (u v w m : BlockComplex) → HaveSameMatrices u v → HaveSameMatrices w m
    → AreStepsFrom K u steps w → AreStepsFrom K v steps m
steps-same K steps u v w m before after h =
    steps-same-before K steps u v m before (steps-same-after K steps u w m h after)
