-- Steps put after others: one list of events more, and one pair more that is removed.
use Rattle.std.proofs.Common.{ℕ, List, [], ◌∷◌, ◌++◌, Some, nat_eq, refl, sym, subst}
use Rattle.std.specs.Map.{update}
use Rattle.std.proofs.lemmas.Map.{update_here}
use Rattle.dense_blocks.specs.Field.{Ops}
use Rattle.block_complexes.specs.BlockComplexes.{BlockComplex}
use Rattle.block_complexes.proofs.SameLaws.{same-refl, same-sym}
use Rattle.removals.specs.Removals.{IsRemoval}
use Rattle.removals.specs.Reductions.{IsAfter}
use Rattle.removals.proofs.SameRemovals.{removal-same-before}
use Rattle.sheaf_words.specs.declared.query.Command.{Command}
use Rattle.sheaf_words.specs.declared.event.Event.{Event}
use Rattle.sheaf_words.specs.declared.event.Event.TheVariants.{Pair}
use Rattle.core_machine.specs.Replies.{Reduction}
use Rattle.core_machine.specs.Machine.{State, IsReductionOf, PairStep, Leads}
use Rattle.core_machine.specs.Solo.{SoloStep}
use Rattle.first_reduction.specs.FirstPairs.{IsFirstInvertible}
use Rattle.core_machine.proofs.CountLaws.{leads-more}

pub leads-append : {F : Type 0} (IsStep : Event → State F → State F → Type 0) (events others : List Event)
    (s m t : State F) → Leads IsStep events s m → Leads IsStep others m t → Leads IsStep (events ++ others) s t
leads-append IsStep [] others s m t leads after = subst (λ x. Leads IsStep others x t) (sym leads) after
leads-append IsStep (first ∷ events) others s m t leads after =
    (leads.0, leads.1, leads-append IsStep events others leads.0 m t leads.2 after)

-- what is left after pairs, and then after one more
pub after-more : (K : Ops) (v w u : BlockComplex) (pairs : List (ℕ × ℕ)) (x y : ℕ) (a : List (List ℕ))
    → IsAfter K v pairs w → IsRemoval K w x y a u → IsAfter K v (pairs ++ (x, y) ∷ []) u
after-more K v w u [] x y a after removal =
    (u, a, removal-same-before K w v x y a u (same-sym v w after) removal, same-refl u)
after-more K v w u (p ∷ pairs) x y a after removal =
    (after.0, after.1, after.2, after-more K after.0 w u pairs x y a after.3 removal)

-- the state with these pairs removed from version v
abbrev pub with_pairs : {F : Type 0} → State F → ℕ → List (ℕ × ℕ) → State F
with_pairs s v pairs = record s { pairs = update nat_eq s.pairs v (Some pairs) }

-- the reduction with a pair more, and what that leaves
abbrev pub with_removal : Reduction → ℕ → ℕ → BlockComplex → Reduction
with_removal r x y rest = record r { pairs = r.pairs ++ (x, y) ∷ []; rest = rest }

-- the first pair that may be removed is removed
pub pair-more : {F : Type 0} (K : Ops) (scripts : List (List Command)) (events : List Event) (s m : State F)
    (v x y : ℕ) (r : Reduction) (a : List (List ℕ)) (rest : BlockComplex)
    → Leads (SoloStep {F = F} K scripts) events s m → IsReductionOf K m v r → IsFirstInvertible K r.rest x y
    → IsRemoval K r.rest x y a rest
    → Leads (SoloStep {F = F} K scripts) (events ++ Pair v x y ∷ []) s (with_pairs m v (r.pairs ++ (x, y) ∷ []))
    × IsReductionOf K (with_pairs m v (r.pairs ++ (x, y) ∷ [])) v (with_removal r x y rest)
pair-more {F} K scripts events s m v x y r a rest leads h first removal = (
  leads-more (SoloStep {F = F} K scripts) events (Pair v x y) s m (with_pairs m v (r.pairs ++ (x, y) ∷ [])) leads
      (step, first),
  record {
    sheaf = h.sheaf;
    version = h.version;
    whole = h.whole;
    degrees = h.degrees;
    start = h.start;
    removed = update_here m.pairs v (Some (r.pairs ++ (x, y) ∷ []));
    rest = after-more K r.start r.rest rest r.pairs x y a h.rest removal;
  },
)
  where
    step : PairStep K v x y m (with_pairs m v (r.pairs ++ (x, y) ∷ []))
    step = record {
      reduction = r;
      asked = h;
      invertible = (a, record { pair = removal.pair; square = removal.square; inverse = removal.inverse });
      versions = refl;
      lanes = refl;
      pairs = refl;
    }
