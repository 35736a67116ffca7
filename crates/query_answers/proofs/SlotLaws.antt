-- What the steps of a slot keep of its cells; and the reply for what they leave.
use Rattle.std.proofs.Common.{◌≡◌, ℕ, List, [], ◌∷◌, All, sym, ◌∙◌, subst}
use Rattle.std.specs.Prelude.{◌==◌, ◌||◌, not}
use Rattle.std.proofs.lemmas.List.Elements.{All-filter}
use Rattle.dense_blocks.specs.Field.{Ops}
use Rattle.block_complexes.specs.BlockComplexes.{BlockComplex}
use Rattle.block_complexes.specs.Cochains.{complex_of}
use Rattle.block_complexes.proofs.SameLaws.{same-complex}
use Rattle.block_sparse.specs.StoredBlocks.{complex_in}
use Rattle.reduce_step.specs.declared.record.Step.{Step}
use Rattle.reduce_step.specs.Logs.{AreStepsFrom, pairs_of}
use Rattle.pair_commit.specs.Slots.{SlotValue}
use Rattle.sheaf_words.specs.declared.reply.Reduced.{Reduced}
use Rattle.core_machine.specs.Replies.{Reduction, IsRightReduced}
use Rattle.query_answers.specs.Degrees.{AreCoboundaryMatrices, HaveCoboundaryShapes}
use Rattle.query_answers.specs.SlotReductions.{IsReductionIn}

-- what all live cells have, those that are left have
pub steps-live : (K : Ops) (P : ℕ × ℕ × ℕ → Type 0) (steps : List Step) (v w : BlockComplex)
    → AreStepsFrom K v steps w → All P v.live → All P w.live
steps-live K P [] v w h all = subst (All P) (sym h.live) all
steps-live K P (step ∷ steps) v w h all =
    steps-live K P steps h.0 w h.3
    (subst (All P) (sym h.2.live) (All-filter (λ l. not (l.0 == step.x || l.0 == step.y)) P v.live all))

pub reduced-right : {F : Type 0} (K : Ops) (degrees : ℕ) (slot : SlotValue F) (reply : Reduced)
    → reply.pairs ≡ pairs_of slot.log → reply.live ≡ slot.present.live
    → HaveCoboundaryShapes degrees (complex_of (complex_in slot.present)) reply.d
    → AreCoboundaryMatrices K (complex_of (complex_in slot.present)) reply.d
    → (r : Reduction) → IsReductionIn degrees slot r → IsRightReduced K r reply
reduced-right K degrees slot reply pairs live shapes matrices r is =
    let same : complex_of r.rest ≡ complex_of (complex_in slot.present) =
    same-complex (complex_in slot.present) r.rest is.rest in
    record {
      pairs = pairs ∙ sym is.pairs;
      live = live ∙ sym is.rest.live;
      shapes = subst (λ C. HaveCoboundaryShapes r.degrees C reply.d) (sym same)
          (subst (λ n. HaveCoboundaryShapes n (complex_of (complex_in slot.present)) reply.d) (sym is.degrees_are)
          shapes);
      matrices = subst (λ C. AreCoboundaryMatrices K C reply.d) (sym same) matrices;
    }
