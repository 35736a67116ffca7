-- What a transcript counts is what the machine keeps.
use Rattle.std.specs.Prelude.{◌≡◌, ℕ, ◌+◌, List, Option, Some, None, length}
use Rattle.dense_blocks.specs.Field.{Ops}
use Rattle.sheaf_data.specs.Sheaves.{SheafData}
use Rattle.sheaf_words.specs.declared.query.Command.{Command}
use Rattle.sheaf_words.specs.declared.event.Event.{Event}
use Rattle.reply_text.specs.Transcripts.{ended_count}
use Rattle.reply_text.specs.Parts.{current_version, asked_version}
use Rattle.reply_text.specs.ClientEvents.{AreOf}
use Rattle.core_machine.specs.Machine.{Lane, free_lane, waiting_lane, State}
use Rattle.core_machine.specs.Legal.{IsLegal}

-- how many commands of the client are done
abbrev pub lane_position : Lane → ℕ
lane_position (free_lane position) = position
lane_position (waiting_lane position version) = position

-- the version that its open question was put on, if one is open
abbrev pub lane_pending : Lane → Option ℕ
lane_pending (free_lane position) = None
lane_pending (waiting_lane position version) = Some version

-- after these events: the version that stands is the current one, each lane is at the number of its ended_count
-- commands, and a pending version is the one that stood at the client's last question
pub record IsCounted {F : Type 0} (events : List Event) (s : State F) : Type 0 where
  pub current : length s.sheaves ≡ current_version events + 1
  pub positions : (c : ℕ) → lane_position (s.lanes c) ≡ ended_count c events
  pub pendings : (c v : ℕ) → lane_pending (s.lanes c) ≡ Some v → v ≡ asked_version c events

-- the numbers and versions that a transcript prints are those of the machine, in each state that is reached
abbrev pub TranscriptsCountTheMachine : Type 0 → Type 0
TranscriptsCountTheMachine F = (K : Ops) (scripts : List (List Command)) (sheaf : SheafData F) (events : List Event)
    (s : State F)
    → IsLegal K scripts sheaf events s → IsCounted events s

-- legal events are those of these clients: each that ends a command ends the next one of its client, and answers it
abbrev pub LegalEventsAreAnswers : Type 0 → Type 0
LegalEventsAreAnswers F = (K : Ops) (scripts : List (List Command)) (sheaf : SheafData F) (events : List Event)
    (s : State F)
    → IsLegal K scripts sheaf events s → AreOf scripts events
