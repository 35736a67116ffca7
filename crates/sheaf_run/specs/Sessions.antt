-- Clients that are served one after the other, on one sheaf that their edits change.
use Rattle.std.specs.Prelude.{◌≡◌, ◌⊎◌, ℕ, ◌+◌, ◌≤◌, ◌<◌, ◌==◌, true, List, [], ◌++◌, Option, Some, None, IfSome, map}
use Rattle.std.specs.Prelude.{length, nat_lt, slice_get, slice_index_or, is_some, unwrap_or, if◌then◌else◌}
use Rattle.field_table.specs.declared.field.Field.{Field}
use Rattle.field_table.specs.Table.{ops_of}
use Rattle.block_complexes.specs.BlockComplexes.{HaveSameMatrices}
use Rattle.block_sparse.specs.StoredBlocks.{complex_in}
use Rattle.coboundary.specs.Start.{start_complex}
use Rattle.reduce_step.specs.Logs.{pairs_of}
use Rattle.pair_commit.specs.Slots.{SlotValue}
use Rattle.first_reduction.specs.FirstPairs.{IsFirstReduction}
use Rattle.sheaf_data.specs.Sheaves.{SheafData}
use Rattle.sheaf_data.specs.Betti.{cochain_complex_of, degree_count}
use Rattle.sheaf_words.specs.declared.query.Query.{Query}
use Rattle.sheaf_words.specs.declared.query.Command.{Command}
use Rattle.sheaf_words.specs.declared.query.Command.TheVariants.{Change, Ask}
use Rattle.sheaf_words.specs.declared.edit.Edit.{Edit}
use Rattle.sheaf_words.specs.declared.edit.Verdict.{Verdict}
use Rattle.sheaf_words.specs.declared.edit.Verdict.TheVariants.{Accepted, Refused}
use Rattle.sheaf_words.specs.declared.reply.Reply.{Reply}
use Rattle.sheaf_words.specs.declared.event.Event.{Event}
use Rattle.sheaf_words.specs.declared.event.Event.TheVariants.{Pair}
use Rattle.edit_versions.specs.Verdicts.{IsVerdict, IsEdited}
use Rattle.core_machine.specs.Replies.{Reduction, IsRightReply}
use Rattle.core_machine.specs.Machine.{State, Lane, free_lane, waiting_lane, with_lane, Leads}
use Rattle.core_machine.specs.Legal.{first_state}
use Rattle.core_machine.specs.Solo.{SoloStep, HasSoloChoices}

-- the current sheaf and the number of its version; its reduction, if it was asked; and what has happened
pub record Progress : Type 0 where
  pub sheaf : SheafData Field
  pub version : ℕ
  pub slot : Option (SlotValue Field)
  pub events : List Event

-- the slot has reduced the start complex of the sheaf by the first pair each time, until no pair can be removed
pub record IsSheafReduction (sheaf : SheafData Field) (slot : SlotValue Field) : Type 0 where
  pub field : slot.f ≡ sheaf.field
  pub start : HaveSameMatrices (start_complex (ops_of sheaf.field) sheaf.complex sheaf.stalks sheaf.blocks)
      (complex_in slot.base)
  pub reduction : IsFirstReduction (ops_of sheaf.field) (complex_in slot.base) (pairs_of slot.log)
      (complex_in slot.present)

-- the pairs that were removed from the current version, if it was asked
abbrev pub removed_pairs : Option (SlotValue Field) → Option (List (ℕ × ℕ))
removed_pairs None = None
removed_pairs (Some slot) = Some (pairs_of slot.log)

-- an event for each pair that was removed from a version
abbrev pub pair_events : ℕ → List (ℕ × ℕ) → List Event
pair_events version pairs = map (λ p. Pair version p.0 p.1) pairs

-- after an edit that was accepted: the edited sheaf is one version more, which was not asked
pub record IsNextVersion (old : Progress) (edit : Edit) (new : Progress) : Type 0 where
  pub sheaf : IsEdited (ops_of old.sheaf.field) old.sheaf edit new.sheaf
  pub version : new.version ≡ old.version + 1
  pub slot : new.slot ≡ None
  pub events : new.events ≡ old.events

-- after a verdict: the next version, or the same
abbrev pub IsProgressAfter : Progress → Edit → Verdict → Progress → Type 0
IsProgressAfter old edit Accepted new = IsNextVersion old edit new
IsProgressAfter old edit (Refused cause) new = new ≡ old

-- the edit was judged: the verdict is that on it, and the progress is what it makes
pub record IsJudged (old : Progress) (edit : Edit) (verdict : Verdict) (new : Progress) : Type 0 where
  pub judged : IsVerdict (ops_of old.sheaf.field) old.sheaf edit verdict
  pub after : IsProgressAfter old edit verdict new

-- what there is to a question on the version of a sheaf that a slot has reduced
abbrev pub version_reduction : SheafData Field → SlotValue Field → Reduction
version_reduction sheaf slot = record {
  whole = cochain_complex_of (ops_of sheaf.field) sheaf.complex sheaf.stalks sheaf.blocks;
  degrees = degree_count sheaf.complex.dims;
  start = complex_in slot.base;
  pairs = pairs_of slot.log;
  rest = complex_in slot.present;
}

-- how many commands client d has behind it when the clients before c have all of theirs, and c has i
abbrev pub position_of : List (List Command) → ℕ → ℕ → ℕ → ℕ
position_of scripts c i d = if nat_lt d c then length (slice_index_or scripts d []) else if c == d then i else 0

-- from the start sheaf the events of a solo order lead to the sheaf; the lanes are these, and these pairs were removed
-- from the current version
pub record IsReachedBy (scripts : List (List Command)) (start : SheafData Field) (lanes : ℕ → Lane)
    (pairs : Option (List (ℕ × ℕ))) (p : Progress) : Type 0 where
  pub state : State Field
  pub legal : Leads (SoloStep (ops_of start.field) scripts) p.events (first_state start) state
  pub current : length state.sheaves ≡ p.version + 1
  pub current_sheaf : slice_get state.sheaves p.version ≡ Some p.sheaf
  pub field : p.sheaf.field ≡ start.field
  pub lanes_are : (d : ℕ) → state.lanes d ≡ lanes d
  pub pairs_are : state.pairs p.version ≡ pairs
  pub later : (v : ℕ) → p.version < v → state.pairs v ≡ None

-- the clients before c are served, i commands of c, and none of the others
abbrev pub IsProgress : List (List Command) → SheafData Field → ℕ → ℕ → Progress → Type 0
IsProgress scripts start c i p =
    IsReachedBy scripts start (λ d. free_lane (position_of scripts c i d)) (removed_pairs p.slot) p

-- and client c waits for the answer to its next command, a question on the current version
abbrev pub IsWaiting : List (List Command) → SheafData Field → ℕ → ℕ → Progress → Type 0
IsWaiting scripts start c i p =
    IsReachedBy scripts start (with_lane (λ d. free_lane (position_of scripts c i d)) c (waiting_lane i p.version))
    (Some (unwrap_or (removed_pairs p.slot) [])) p

-- the reply is right for the question on the version, with each choice that of a solo order
pub record IsSoloReply (sheaf : SheafData Field) (slot : SlotValue Field) (query : Query) (reply : Reply) : Type 0 where
  pub right : IsRightReply (ops_of sheaf.field) (version_reduction sheaf slot) query reply
  pub choices : HasSoloChoices (ops_of sheaf.field) (version_reduction sheaf slot) query reply

-- the version has been reduced
pub record HasReduction (p : Progress) : Type 0 where
  pub slot : SlotValue Field
  pub there : p.slot ≡ Some slot
  pub reduction : IsSheafReduction p.sheaf slot

-- the reply is one to the question on the version that stands, however it has been reduced
abbrev pub IsSoloAnswer : Progress → Query → Reply → Type 0
IsSoloAnswer p query reply = (slot : SlotValue Field) → p.slot ≡ Some slot → slot.f ≡ p.sheaf.field
    → IsSoloReply p.sheaf slot query reply

-- the reduction, if there is one, is that of the sheaf
abbrev pub IsKnownReduction : SheafData Field → Option (SlotValue Field) → Type 0
IsKnownReduction sheaf slot = IfSome slot (IsSheafReduction sheaf)

-- the version was not asked before, and has been reduced
pub record IsFirstAsked (old new : Progress) : Type 0 where
  pub none : old.slot ≡ None
  pub slot : SlotValue Field
  pub reduction : IsSheafReduction old.sheaf slot
  pub new_is : new ≡ record old {
    slot = Some slot;
    events = old.events ++ pair_events old.version (pairs_of slot.log);
  }

-- the version has been reduced, now or before
abbrev pub IsReducedFrom : Progress → Progress → Type 0
IsReducedFrom old new = ((is_some old.slot ≡ true) × (new ≡ old)) ⊎ IsFirstAsked old new
