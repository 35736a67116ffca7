-- The transcript of a list of events.
use Rattle.std.specs.Prelude.{ℕ, ◌+◌, Bool, true, false, List, [], ◌∷◌, ◌++◌, count_by, slice_get, if◌then◌else◌, ◌==◌}
use Rattle.std.specs.Prelude.{map, take, codes}
use Rattle.std.specs.List.{flat_map, enumerate_from}
use Rattle.std.specs.Option.{option_map_or}
use Rattle.std.specs.Fmt.{decimal}
use Rattle.sheaf_words.specs.declared.query.Command.{Command}
use Rattle.sheaf_words.specs.declared.edit.Verdict.TheVariants.{Accepted}
use Rattle.sheaf_words.specs.declared.event.Event.{Event}
use Rattle.sheaf_words.specs.declared.event.Event.TheVariants.{Edit, Ask, Pair, Reply}
use Rattle.reply_text.specs.Lines.{line_text}
use Rattle.reply_text.specs.Replies.{reply_lines}

-- whether the event ends a command of client c: an edit is judged, a query is answered
abbrev pub ends_for : ℕ → Event → Bool
ends_for c (Edit d verdict) = d == c
ends_for c (Ask d) = false
ends_for c (Pair v x y) = false
ends_for c (Reply d r) = d == c

-- how many commands of client c have ended: the next one has this place in its script
abbrev pub ended_count : ℕ → List Event → ℕ
ended_count c events = count_by (ends_for c) events

-- whether the event makes a new version
abbrev pub is_accepted : Event → Bool
is_accepted (Edit c Accepted) = true
is_accepted event = false

-- the version of the last question of client c among events that begin when version n stands; v where there is none
abbrev pub asked_from : ℕ → ℕ → ℕ → List Event → ℕ
asked_from c n v [] = v
asked_from c n v (Ask d ∷ events) = asked_from c n (if d == c then n else v) events
asked_from c n v (Edit d Accepted ∷ events) = asked_from c (n + 1) v events
asked_from c n v (event ∷ events) = asked_from c n v events

-- the version that a reply names: of a question the one that it was put on, of an edit the one that stands then
abbrev pub version_named : List Event → Event → ℕ
version_named earlier (Reply c r) = asked_from c 0 0 earlier
version_named earlier event = count_by is_accepted (earlier ++ event ∷ [])

-- the replies to client c with this script, in order: the lines of each event that ends a command of its script
abbrev pub client_lines : ℕ → List Command → List Event → List Event → List (List (List ℕ))
client_lines c script earlier [] = []
client_lines c script earlier (event ∷ events) =
    (if ends_for c event then option_map_or
    (λ command. reply_lines (ended_count c earlier + 1) (version_named earlier event) command event)
    (slice_get script (ended_count c earlier)) []
    else []) ++ client_lines c script (earlier ++ event ∷ []) events

-- the words of an event after the earlier ones; a command is named by its client, and by its number from 1 on
abbrev pub event_words : List Event → Event → List (List ℕ)
event_words earlier (Edit c verdict) = codes "edit" ∷ decimal c ∷ decimal (ended_count c earlier + 1) ∷ []
event_words earlier (Ask c) = codes "ask" ∷ decimal c ∷ decimal (ended_count c earlier + 1) ∷ []
event_words earlier (Pair v x y) = codes "pair" ∷ decimal v ∷ decimal x ∷ decimal y ∷ []
event_words earlier (Reply c r) = codes "reply" ∷ decimal c ∷ decimal (ended_count c earlier + 1) ∷ []

-- the transcript: for each client, from 0 on, a line and the replies to it; then a line for each event, in order
abbrev pub transcript : List (List Command) → List Event → List ℕ
transcript scripts events =
    flat_map line_text (flat_map (λ (p : ℕ × List Command). (codes "client" ∷ decimal p.0 ∷ [])
    ∷ client_lines p.0 p.1 [] events) (enumerate_from 0 scripts)
    ++ ((codes "order" ∷ []) ∷ (map (λ (p : ℕ × Event). event_words (take p.0 events) p.1) (enumerate_from 0 events)
    ++ (codes "end" ∷ []) ∷ [])))
