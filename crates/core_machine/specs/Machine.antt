-- The machine of versions, lanes and events.
use Rattle.std.specs.Prelude.{◌≡◌, ℕ, ◌+◌, ◌==◌, List, [], ◌∷◌, ◌++◌, Option, Some, None, length, slice_get}
use Rattle.std.specs.Prelude.{option_and_then, unwrap_or, nat_eq, if◌then◌else◌}
use Rattle.std.specs.Map.{update}
use Rattle.dense_blocks.specs.Field.{Ops}
use Rattle.sheaf_data.specs.Sheaves.{SheafData}
use Rattle.sheaf_data.specs.Betti.{cochain_complex_of, degree_count}
use Rattle.sheaf_words.specs.declared.query.Query.{Query}
use Rattle.sheaf_words.specs.declared.query.Command.{Command}
use Rattle.sheaf_words.specs.declared.query.Command.TheVariants as commands
use Rattle.sheaf_words.specs.declared.edit.Edit.{Edit as Change}
use Rattle.sheaf_words.specs.declared.edit.Verdict.{Verdict}
use Rattle.sheaf_words.specs.declared.edit.Verdict.TheVariants.{Accepted, Refused}
use Rattle.sheaf_words.specs.declared.reply.Reply.{Reply as Answer}
use Rattle.sheaf_words.specs.declared.event.Event.{Event}
use Rattle.sheaf_words.specs.declared.event.Event.TheVariants.{Edit, Ask, Pair, Reply}
use Rattle.edit_versions.specs.Verdicts.{IsVerdict, IsEdited}
use Rattle.block_complexes.specs.BlockComplexes.{HaveSameMatrices}
use Rattle.removals.specs.Reductions.{IsAfter, IsInvertibleAt, IsIrreducible}
use Rattle.coboundary.specs.Start.{start_complex}
use Rattle.core_machine.specs.Replies.{Reduction, IsRightReply}

-- ---- states

-- where a client is: so many of its commands are done; and the next one, a question on this version, may be waiting
pub data Lane : Type 0 where
  free_lane : ℕ → Lane
  waiting_lane : ℕ → ℕ → Lane

-- the sheaf of each version, from 0 on; the lane of each client; the pairs removed from each version that was asked
pub record State (F : Type 0) : Type 0 where
  pub sheaves : List (SheafData F)
  pub lanes : ℕ → Lane
  pub pairs : ℕ → Option (List (ℕ × ℕ))

-- the command at this place of the script of client c
abbrev pub command_at : List (List Command) → ℕ → ℕ → Option Command
command_at scripts c position = option_and_then (λ script. slice_get script position) (slice_get scripts c)

-- the lanes, with this one for client c
abbrev pub with_lane : (ℕ → Lane) → ℕ → Lane → ℕ → Lane
with_lane lanes c lane d = if c == d then lane else lanes d

-- ---- events: each has a guard, and an effect; what is not named stays

-- the versions after a verdict on an edit: the edited sheaf is one more, or all stays
abbrev pub AreVersionsAfter : {F : Type 0} → Ops → SheafData F → Change → Verdict → List (SheafData F)
    → List (SheafData F) → Type 0
AreVersionsAfter {F} K sheaf edit Accepted old new = (edited : SheafData F) × IsEdited K sheaf edit edited
    × (new ≡ old ++ edited ∷ [])
AreVersionsAfter K sheaf edit (Refused cause) old new = new ≡ old

-- client c, with nothing pending, comes to an edit; the verdict is that on it and the current version, the last
pub record EditStep {F : Type 0} (K : Ops) (scripts : List (List Command)) (c : ℕ) (verdict : Verdict) (s t : State F) :
    Type 0 where
  pub position : ℕ
  pub edit : Change
  pub version : ℕ
  pub sheaf : SheafData F
  pub is_free : s.lanes c ≡ free_lane position
  pub command : command_at scripts c position ≡ Some (commands.Change edit)
  pub current : length s.sheaves ≡ version + 1
  pub current_sheaf : slice_get s.sheaves version ≡ Some sheaf
  pub judged : IsVerdict K sheaf edit verdict
  pub versions : AreVersionsAfter K sheaf edit verdict s.sheaves t.sheaves
  pub lanes : t.lanes ≡ with_lane s.lanes c (free_lane (position + 1))
  pub pairs : t.pairs ≡ s.pairs

-- client c, with nothing pending, comes to a question: it is put on the current version, which counts as asked
pub record AskStep {F : Type 0} (scripts : List (List Command)) (c : ℕ) (s t : State F) : Type 0 where
  pub position : ℕ
  pub query : Query
  pub version : ℕ
  pub is_free : s.lanes c ≡ free_lane position
  pub command : command_at scripts c position ≡ Some (commands.Ask query)
  pub current : length s.sheaves ≡ version + 1
  pub versions : t.sheaves ≡ s.sheaves
  pub lanes : t.lanes ≡ with_lane s.lanes c (waiting_lane position version)
  pub pairs : t.pairs ≡ update nat_eq s.pairs version (Some (unwrap_or (s.pairs version) []))

-- r is the reduction of version v: of its sheaf, by the pairs that have been removed from its start complex
pub record IsReductionOf {F : Type 0} (K : Ops) (s : State F) (v : ℕ) (r : Reduction) : Type 0 where
  pub sheaf : SheafData F
  pub version : slice_get s.sheaves v ≡ Some sheaf
  pub whole : r.whole ≡ cochain_complex_of K sheaf.complex sheaf.stalks sheaf.blocks
  pub degrees : r.degrees ≡ degree_count sheaf.complex.dims
  pub start : HaveSameMatrices (start_complex K sheaf.complex sheaf.stalks sheaf.blocks) r.start
  pub removed : s.pairs v ≡ Some r.pairs
  pub rest : IsAfter K r.start r.pairs r.rest

-- version v was asked, and in what is left of its start complex the matrix from x to y is invertible: the pair is
-- removed
pub record PairStep {F : Type 0} (K : Ops) (v x y : ℕ) (s t : State F) : Type 0 where
  pub reduction : Reduction
  pub asked : IsReductionOf K s v reduction
  pub invertible : IsInvertibleAt K reduction.rest x y
  pub versions : t.sheaves ≡ s.sheaves
  pub lanes : t.lanes ≡ s.lanes
  pub pairs : t.pairs ≡ update nat_eq s.pairs v (Some (reduction.pairs ++ (x, y) ∷ []))

-- client c waits for an answer on a version; from what is left of its start complex no pair can be removed, and the
-- reply is right
pub record ReplyStep {F : Type 0} (K : Ops) (scripts : List (List Command)) (c : ℕ) (reply : Answer) (s t : State F) :
    Type 0 where
  pub position : ℕ
  pub query : Query
  pub version : ℕ
  pub reduction : Reduction
  pub is_waiting : s.lanes c ≡ waiting_lane position version
  pub command : command_at scripts c position ≡ Some (commands.Ask query)
  pub asked : IsReductionOf K s version reduction
  pub irreducible : IsIrreducible K reduction.rest
  pub right : IsRightReply K reduction query reply
  pub versions : t.sheaves ≡ s.sheaves
  pub lanes : t.lanes ≡ with_lane s.lanes c (free_lane (position + 1))
  pub pairs : t.pairs ≡ s.pairs

-- the event leads from state s to state t
abbrev pub Step : {F : Type 0} → Ops → List (List Command) → Event → State F → State F → Type 0
Step K scripts (Edit c verdict) s t = EditStep K scripts c verdict s t
Step K scripts (Ask c) s t = AskStep scripts c s t
Step K scripts (Pair v x y) s t = PairStep K v x y s t
Step K scripts (Reply c reply) s t = ReplyStep K scripts c reply s t

-- ---- runs

-- the events lead by such steps, one after the other, from state s to state t
abbrev pub Leads : {F : Type 0} → (Event → State F → State F → Type 0) → List Event → State F → State F → Type 0
Leads IsStep [] s t = s ≡ t
Leads {F} IsStep (event ∷ events) s t = (m : State F) × IsStep event s m × Leads IsStep events m t

-- all commands of client c are done, and it waits for nothing
abbrev pub IsDone : List (List Command) → (ℕ → Lane) → ℕ → Type 0
IsDone scripts lanes c = (script : List Command) → slice_get scripts c ≡ Some script
    → lanes c ≡ free_lane (length script)

-- the events lead by such steps from the state that has this one version, with nothing done, pending or asked, to one
-- in which all commands of these scripts are done
pub record IsWholeOrder {F : Type 0} (IsStep : Event → State F → State F → Type 0) (scripts : List (List Command))
    (sheaf : SheafData F) (events : List Event) : Type 0 where
  pub last : State F
  pub legal : Leads IsStep events
      (record { sheaves = sheaf ∷ []; lanes = λ c. free_lane 0; pairs = λ v. None }) last
  pub whole : (c : ℕ) → IsDone scripts last.lanes c

-- the events are one legal order of all commands of these scripts on this sheaf, whole
abbrev pub IsLegalAndWhole : {F : Type 0} → Ops → List (List Command) → SheafData F → List Event → Type 0
IsLegalAndWhole {F} K scripts sheaf events = IsWholeOrder (Step {F = F} K scripts) scripts sheaf events
