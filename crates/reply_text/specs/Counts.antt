-- What is counted of one client on the way through the events.
use Rattle.std.specs.Prelude.{◌≡◌, ℕ, ◌<◌, List, length, slice_index}
use Rattle.sheaf_words.specs.declared.event.Event.{Event}
use Rattle.reply_text.specs.declared.counts.Counts.{Counts}
use Rattle.reply_text.specs.Transcripts.{ended_count}
use Rattle.reply_text.specs.Parts.{current_version, asked_version}

-- what the counts say of client c after these events
pub record IsCountOf (c : ℕ) (events : List Event) (counts : Counts) : Type 0 where
  pub ended_is : counts.ended ≡ ended_count c events
  pub standing_is : counts.standing ≡ current_version events
  pub asked_is : counts.asked ≡ asked_version c events

-- for each client how many of its commands have ended after these events
abbrev pub AreCounted : List Event → List ℕ → Type 0
AreCounted events counts = (c : ℕ) → c < length counts → slice_index counts c ≡ ended_count c events
