-- How a reduction ends: what is split and then reduced to the end stands for what is present.
use Rattle.std.proofs.Common.{◌≡◌, ℕ, suc, List, [], ◌∷◌, map, All, refl, sym, ap, ◌∙◌, subst}
use Rattle.std.proofs.lemmas.List.{length-map}
use Rattle.dense_blocks.specs.Field.{Ops}
use Rattle.dense_blocks.specs.FieldLaws.{IsField}
use Rattle.dense_blocks.specs.Vectors.{IsVector, zeros}
use Rattle.dense_blocks.specs.Matrices.{image_of}
use Rattle.cochain_vec.specs.Complexes.{coordinates, coboundary}
use Rattle.cochain_vec.specs.CochainComplexes.{IsCochainComplex}
use Rattle.cochain_vec.specs.Shapes.{RowsFit}
use Rattle.cochain_vec.specs.Cohomology.{HasDimension, AreDimensions}
use Rattle.block_complexes.specs.BlockComplexes.{BlockComplex, IsBlockComplex, HaveSameMatrices}
use Rattle.block_complexes.specs.Cochains.{complex_of}
use Rattle.block_complexes.proofs.SameLaws.{with-live, same-complex}
use Rattle.removals.specs.Reductions.{IsAfter}
use Rattle.removals.proofs.RemovalLaws.{removal_keeps_block_complex, removal_keeps_cochain_complex}
use Rattle.removals.proofs.ReductionLaws.{removals_keep_all}
use Rattle.equivalence_laws.specs.Bases.{HasNoBlock, HasNoCoboundary}
use Rattle.equivalence_laws.proofs.BasisLaws.{equivalence_carries_bases}
use Rattle.equivalence_laws.proofs.BlocklessLaws.{no_block}
use Rattle.equivalence_laws.proofs.CompositeLaws.{complex_fits}
use Rattle.equivalence_laws.proofs.ReductionLaws.{pairs_have_composite, pairs_give_equivalence}
use Rattle.block_sparse.specs.StoredBlocks.{StoredBlocks, complex_in}
use Rattle.reduce_step.specs.declared.record.Step.{Step}
use Rattle.reduce_step.specs.Logs.{AreStepsFrom, pairs_of}
use Rattle.reduce_step.proofs.LogLaws.{steps-after}
use Rattle.scalar_finish.specs.Splits.{IsSplit, entry_at}
use Rattle.scalar_finish.specs.Laws.{SplitKeeps}
use Rattle.scalar_finish.proofs.DimensionLaws.{finish_counts_dimensions}
use Rattle.scalar_finish.proofs.EndLaws.{finish_is_after}
use Rattle.scalar_finish.proofs.NumberLaws.{all-coordinates}
use Rattle.scalar_finish.proofs.SplitLaws.{split_keeps_all}
use Rattle.query_answers.specs.Answers.{AreSizes}
use Rattle.query_answers.specs.Endings.{IsEndingOf}
use Rattle.query_answers.specs.declared.ending.Ending.{Ending}

-- what is split has cells of size 1 alone
pub split-units : (v w : BlockComplex) → IsSplit v w → All (λ l. l.2 ≡ 1) w.live
split-units v w h =
    let every : All (λ (l : ℕ × ℕ × ℕ). Unit {0}) v.live = λ i d inside. tt in
    subst (All (λ l. l.2 ≡ 1)) (sym h.live)
    (all-coordinates (λ l. l.2 ≡ 1) (λ l. Unit {0}) (λ l j q. refl) 0 v.live every)

-- the same block complex is split into the same
pub split-same : (v v' w : BlockComplex) → HaveSameMatrices v v' → IsSplit v w → IsSplit v' w
split-same v v' w same h = with-live (λ u. IsSplit u w) v' v.live same.live (record {
  live = h.live;
  matrices = λ s t p q l i j.
      h.matrices s t p q l i j ∙ ap (λ A. (entry_at A q p ∷ []) ∷ []) (sym (same.matrices s t l));
})

-- removals keep that the coboundary of a coboundary is zero
pub after-closed : (K : Ops) (F : IsField K) (v w : BlockComplex) (pairs : List (ℕ × ℕ)) → IsBlockComplex K v
    → IsCochainComplex K (complex_of v) → IsAfter K v pairs w → IsCochainComplex K (complex_of w)
after-closed K F v w [] is closed after = subst (IsCochainComplex K) (sym (same-complex v w after)) closed
after-closed K F v w (p ∷ pairs) is closed after =
    after-closed K F after.0 w pairs (removal_keeps_block_complex K v after.0 p.0 p.1 after.1 F is after.2)
    (removal_keeps_cochain_complex K v after.0 p.0 p.1 after.1 F is after.2 closed) after.3

-- what is split is a cochain complex where it was one
pub split-closed : (K : Ops) (v w : BlockComplex) → SplitKeeps K v w → IsCochainComplex K (complex_of v)
    → IsCochainComplex K (complex_of w)
split-closed K v w keeps closed k z c =
    keeps.coboundaries (suc k) (coboundary K (complex_of w) k z)
    ∙ ap (coboundary K (complex_of v) (suc k)) (keeps.coboundaries k z)
    ∙ closed k z (subst (λ n. IsVector K n z) (keeps.sizes k) c)
    ∙ ap zeros (sym (keeps.sizes (suc (suc k))))

-- steps from a cochain complex, and the ending of what they leave
module _ (K : Ops) (F : IsField K) (base : BlockComplex) (log : List Step) (present : StoredBlocks) (ending : Ending)
    (is : IsBlockComplex K base) (closed : IsCochainComplex K (complex_of base))
    (steps : AreStepsFrom K base log (complex_in present)) (own : IsEndingOf K present ending) where
  pub present-after : IsAfter K base (pairs_of log) (complex_in present)
  present-after = steps-after K log base (complex_in present) steps

  pub present-is : IsBlockComplex K (complex_in present)
  present-is = (removals_keep_all K base (complex_in present) (pairs_of log) F is present-after).block_complex

  pub present-closed : IsCochainComplex K (complex_of (complex_in present))
  present-closed = after-closed K F base (complex_in present) (pairs_of log) is closed present-after

  pub split-keeps : SplitKeeps K (complex_in present) (complex_in ending.split)
  split-keeps = split_keeps_all K (complex_in present) (complex_in ending.split) F present-is own.split

  pub own-closed : IsCochainComplex K (complex_of (complex_in ending.split))
  own-closed = split-closed K (complex_in present) (complex_in ending.split) split-keeps present-closed

  own-after : IsAfter K (complex_in ending.split) (pairs_of ending.log.items) (complex_in ending.rest)
      × HasNoBlock (complex_in ending.rest)
  own-after = finish_is_after K (complex_in ending.split) (complex_in ending.rest) (pairs_of ending.log.items) F
      split-keeps.block_complex own.finish

  pub rest-no_block : HasNoBlock (complex_in ending.rest)
  rest-no_block = own-after.1

  pub rest-is : IsBlockComplex K (complex_in ending.rest)
  rest-is = (removals_keep_all K (complex_in ending.split) (complex_in ending.rest) (pairs_of ending.log.items) F
      split-keeps.block_complex own-after.0).block_complex

  pub rest-fits : RowsFit (complex_of (complex_in ending.rest))
  rest-fits = complex_fits K F (complex_in ending.rest) rest-is

  pub rest-no_coboundary : HasNoCoboundary K (complex_of (complex_in ending.rest))
  rest-no_coboundary = no_block K F (complex_in ending.rest) rest-is rest-no_block

  base-dimension : (k : ℕ)
      → HasDimension K (complex_of base) k (coordinates (complex_of (complex_in ending.rest)) k)
  base-dimension k =
      let small = finish_counts_dimensions K (complex_in present) (complex_in ending.split) (complex_in ending.rest)
      (pairs_of ending.log.items) F present-is present-closed own.split own.finish k in
      let maps = pairs_have_composite K base F is closed (complex_in present) (pairs_of log) present-after in
      let equivalence = pairs_give_equivalence K base F is closed (complex_in present) (pairs_of log) maps.0 maps.1
      maps.2 present-after maps.3 in (
        map (image_of K (maps.1 k)) small.0,
        length-map small.0 (image_of K (maps.1 k)) ∙ small.1,
        equivalence_carries_bases K (complex_of base) (complex_of (complex_in present)) maps.0 maps.1 maps.2 F
            (complex_fits K F base is) (complex_fits K F (complex_in present) present-is) equivalence k small.0 small.2,
      )

  -- the coordinates that are left count the dimensions at the start
  pub sizes-dimensions : (degrees : ℕ) (numbers : List ℕ)
      → AreSizes (complex_of (complex_in ending.rest)) degrees numbers
      → AreDimensions K (complex_of base) degrees numbers
  sizes-dimensions degrees numbers h = record {
    one_each = h.one_each;
    dimensions = λ k inside.
        subst (HasDimension K (complex_of base) k) (sym (h.sizes k inside)) (base-dimension k);
  }
