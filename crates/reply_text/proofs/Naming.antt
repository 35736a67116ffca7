-- The number and the version that a reply names.
use Rattle.std.proofs.Common.{◌≡◌, ℕ, ◌+◌, ◌<◌, ◌≤◌, true, List, [], ◌∷◌, ◌++◌, Some, None, Option}
use Rattle.std.proofs.Common.{slice_get, get_or, length, take, map, if◌then◌else◌, refl, sym, ap, ap₂, subst, ◌∙◌, arith}
use Rattle.std.proofs.Common.{append-nil, append_assoc, length-append}
use Rattle.std.specs.List.{enumerate_from}
use Rattle.std.proofs.Math.Seq.{take-append_seam}
use Rattle.std.specs.Prelude.{All, IfSome, option_and_then}
use Rattle.std.proofs.lemmas.Option.{slice_get_within, slice_get-get_or}
use Rattle.std.proofs.lemmas.List.Elements.{All-from_get_or}
use Rattle.std.proofs.lemmas.List.{length-take-le, take_all}
use Rattle.std.proofs.lemmas.List.Concat.{flat_map-append}
use Rattle.std.proofs.lemmas.Bool.{eqb-true}
use Rattle.sheaf_words.specs.declared.query.Command.{Command}
use Rattle.sheaf_words.specs.declared.event.Event.{Event}
use Rattle.sheaf_words.specs.declared.event.Event.TheVariants.{Edit, Ask, Pair, Reply}
use Rattle.reply_text.specs.Lines.{line_text}
use Rattle.reply_text.specs.Parts.{lines_text, answer_lines, event_lines, client_part, clients_lines, command_number}
use Rattle.reply_text.specs.Parts.{numbered_words, order_lines, placed_lines}
use Rattle.reply_text.specs.Transcripts.{ends_for, ended_count, version_named, client_lines, event_words}
use Rattle.reply_text.specs.ClientEvents.{client_of, IfPresent, IsAnswered, IsOf, AreOf, AreAnswered, IsAnswerTo}
use Rattle.reply_text.specs.Replies.{reply_lines}
use Rattle.reply_text.specs.Counts.{IsCountOf}
use Rattle.reply_text.specs.declared.counts.Counts.{Counts}

-- the lines of the client after one event more
pub client_lines-more : (c : ℕ) (script : List Command) (earlier events : List Event) (event : Event)
    → client_lines c script earlier (events ++ event ∷ []) ≡ client_lines c script earlier events
    ++ event_lines c script (earlier ++ events) event
client_lines-more c script earlier [] event =
    append-nil (event_lines c script earlier event) ∙ ap (λ es. event_lines c script es event)
    (sym (append-nil earlier))
client_lines-more c script earlier (x ∷ events) event =
    ap (λ rest. event_lines c script earlier x ++ rest) (client_lines-more c script (earlier ++ x ∷ []) events event
    ∙ ap (λ es. client_lines c script (earlier ++ x ∷ []) events ++ event_lines c script es event)
    (append_assoc earlier (x ∷ []) events))
    ∙ sym (append_assoc (event_lines c script earlier x) (client_lines c script (earlier ++ x ∷ []) events)
    (event_lines c script (earlier ++ x ∷ events) event))

-- what is written, after one event more
pub written-more : (c : ℕ) (script : List Command) (events : List Event) (i : ℕ) (event : Event)
    (start old new : List ℕ)
    → old ≡ start ++ lines_text (client_lines c script [] (take i events))
    → new ≡ old ++ lines_text (event_lines c script (take i events) event)
    → take (i + 1) events ≡ take i events ++ event ∷ []
    → new ≡ start ++ lines_text (client_lines c script [] (take (i + 1) events))
written-more c script events i event start old new h more next =
    let first = client_lines c script [] (take i events) in
    let last = event_lines c script (take i events) event in
    more ∙ ap (λ text. text ++ lines_text last) h ∙ append_assoc start (lines_text first) (lines_text last)
    ∙ ap (λ text. start ++ text) (sym (flat_map-append line_text first last)
    ∙ ap lines_text (sym (client_lines-more c script [] (take i events) event))
    ∙ ap (λ es. lines_text (client_lines c script [] es)) (sym next))

-- what is written of an event that ends a command
pub answer-is : (c : ℕ) (script : List Command) (events : List Event) (event : Event) (command : Command)
    (counts : Counts) (v : ℕ)
    → ends_for c event ≡ true → IsCountOf c events counts → slice_get script counts.ended ≡ Some command
    → v ≡ version_named events event
    → event_lines c script events event ≡ reply_lines (counts.ended + 1) v command event
answer-is c script events event command counts v ends h there named =
    ap (λ b. if b then answer_lines c events event (slice_get script (ended_count c events)) else []) ends
    ∙ ap (λ k. answer_lines c events event (slice_get script k)) (sym h.ended_is)
    ∙ ap (answer_lines c events event) there
    ∙ ap₂ (λ number version. reply_lines number version command event) (ap (λ k. k + 1) (sym h.ended_is)) (sym named)

-- the line of one event more
pub order_lines-more : (earlier events : List Event) (event : Event)
    → order_lines earlier (events ++ event ∷ []) ≡ order_lines earlier events
    ++ event_words (earlier ++ events) event ∷ []
order_lines-more earlier [] event = ap (λ es. event_words es event ∷ []) (sym (append-nil earlier))
order_lines-more earlier (x ∷ events) event =
    ap (λ rest. event_words earlier x ∷ rest) (order_lines-more (earlier ++ x ∷ []) events event
    ∙ ap (λ es. order_lines (earlier ++ x ∷ []) events ++ event_words es event ∷ [])
    (append_assoc earlier (x ∷ []) events))

-- the lines of the events after the earlier ones, by their places among all
pub placed-from : (earlier events all : List Event) → earlier ++ events ≡ all
    → map (λ (p : ℕ × Event). event_words (take p.0 all) p.1) (enumerate_from (length earlier) events)
    ≡ order_lines earlier events
placed-from earlier [] all e = refl
placed-from earlier (x ∷ events) all e =
    let next : length earlier + 1 ≡ length (earlier ++ x ∷ []) = sym (length-append earlier (x ∷ [])) in
    let before : take (length earlier) all ≡ earlier =
    ap (take (length earlier)) (sym e) ∙ take-append_seam earlier (x ∷ events) in
    ap₂ (λ words rest. words ∷ rest) (ap (λ es. event_words es x) before)
    (ap (λ n. map (λ (p : ℕ × Event). event_words (take p.0 all) p.1) (enumerate_from n events)) next
    ∙ placed-from (earlier ++ x ∷ []) events all (append_assoc earlier (x ∷ []) events ∙ e))

-- all of them
pub all-placed : (events : List Event) (n : ℕ) → length events ≤ n → order_lines [] (take n events)
    ≡ placed_lines events
all-placed events n whole = ap (order_lines []) (take_all n events whole) ∙ sym (placed-from [] events events refl)

-- the words of an event, with the number of its command
words-numbered : (earlier : List Event) (event : Event)
    → numbered_words (command_number earlier event) event ≡ event_words earlier event
words-numbered earlier (Edit c verdict) = refl
words-numbered earlier (Ask c) = refl
words-numbered earlier (Pair v x y) = refl
words-numbered earlier (Reply c r) = refl

pub ordered-more : (events : List Event) (i : ℕ) (event : Event) (number : ℕ) (start old new : List ℕ)
    → old ≡ start ++ lines_text (order_lines [] (take i events))
    → new ≡ old ++ line_text (numbered_words number event)
    → number ≡ command_number (take i events) event
    → take (i + 1) events ≡ take i events ++ event ∷ []
    → new ≡ start ++ lines_text (order_lines [] (take (i + 1) events))
ordered-more events i event number start old new h more is next =
    let first = order_lines [] (take i events) in
    let last = event_words (take i events) event in
    more ∙ ap₂ (λ text words. text ++ line_text words) h
    (ap (λ k. numbered_words k event) is ∙ words-numbered (take i events) event)
    ∙ append_assoc start (lines_text first) (line_text last)
    ∙ ap (λ text. start ++ (lines_text first ++ text)) (sym (append-nil (line_text last)))
    ∙ ap (λ text. start ++ text) (sym (flat_map-append line_text first (last ∷ []))
    ∙ ap lines_text (sym (order_lines-more [] (take i events) event))
    ∙ ap (λ es. lines_text (order_lines [] es)) (sym next))

-- the part of one client more
pub clients_lines-more : (c : ℕ) (scripts : List (List Command)) (script : List Command) (events : List Event)
    → clients_lines c (scripts ++ script ∷ []) events ≡ clients_lines c scripts events
    ++ client_part (c + length scripts) script events
clients_lines-more c [] script events = append-nil (client_part c script events)
    ∙ ap (λ k. client_part k script events) (omega arith)
clients_lines-more c (first ∷ scripts) script events =
    ap (λ rest. client_part c first events ++ rest) (clients_lines-more (c + 1) scripts script events
    ∙ ap (λ k. clients_lines (c + 1) scripts events ++ client_part k script events) (omega arith))
    ∙ sym (append_assoc (client_part c first events) (clients_lines (c + 1) scripts events)
    (client_part (c + length (first ∷ scripts)) script events))

pub parts-more : (scripts : List (List Command)) (i : ℕ) (script : List Command) (events : List Event) (c : ℕ)
    (start old new : List ℕ)
    → c ≡ i → i ≤ length scripts
    → old ≡ start ++ lines_text (clients_lines 0 (take i scripts) events)
    → new ≡ old ++ lines_text (client_part c script events)
    → take (i + 1) scripts ≡ take i scripts ++ script ∷ []
    → new ≡ start ++ lines_text (clients_lines 0 (take (i + 1) scripts) events)
parts-more scripts i script events c start old new at inside h more next =
    let first = clients_lines 0 (take i scripts) events in
    let place : c ≡ 0 + length (take i scripts) = at ∙ sym (length-take-le i scripts inside) ∙ omega arith in
    let last = client_part (0 + length (take i scripts)) script events in
    more ∙ ap₂ (λ text k. text ++ lines_text (client_part k script events)) h place
    ∙ append_assoc start (lines_text first) (lines_text last)
    ∙ ap (λ text. start ++ text) (sym (flat_map-append line_text first last)
    ∙ ap lines_text (sym (clients_lines-more 0 (take i scripts) script events))
    ∙ ap (λ ss. lines_text (clients_lines 0 ss events)) (sym next))

-- the events of all clients answer the commands of each
pub answered-of : (scripts : List (List Command)) (events : List Event) (c : ℕ) (script : List Command)
    → slice_get scripts c ≡ Some script → AreOf scripts events → AreAnswered c script events
answered-of scripts events c script there h i event at ends = one event ends (h i event at)
  where
    found : (event : Event) (d : ℕ) → d ≡ c → IsAnswered scripts (take i events) d event
        → IfPresent (slice_get script (ended_count c (take i events))) (λ command. IsAnswerTo command event)
    found event d e is = subst (λ o. IfPresent (option_and_then (λ s. slice_get s (ended_count c (take i events))) o)
        (λ command. IsAnswerTo command event)) there
        (subst (λ k. IsAnswered scripts (take i events) k event) e is)

    one : (event : Event) → ends_for c event ≡ true → IsOf scripts (take i events) event
        → IfPresent (slice_get script (ended_count c (take i events))) (λ command. IsAnswerTo command event)
    one (Edit d verdict) ends is = found (Edit d verdict) d (eqb-true d c ends) is
    one (Ask d) ends is = absurd (cc)
    one (Pair v x y) ends is = absurd (cc)
    one (Reply d r) ends is = found (Reply d r) d (eqb-true d c ends) is

-- and so are of clients that are there
pub clients-of : (scripts : List (List Command)) (events : List Event) → AreOf scripts events
    → All (λ event. IfSome (client_of event) (λ c. c < length scripts)) events
clients-of scripts events h = All-from_get_or (λ event. IfSome (client_of event) (λ c. c < length scripts)) events
    (Ask 0)
    (λ i l. one i (get_or events i (Ask 0)) (h i (get_or events i (Ask 0)) (slice_get-get_or events i (Ask 0) l)))
  where
    inside : (i c : ℕ) (event : Event) → IsAnswered scripts (take i events) c event → c < length scripts
    inside i c event is = slice_get_within-of (slice_get scripts c) refl is
      where
        slice_get_within-of : (o : Option (List Command)) → slice_get scripts c ≡ o
            → IfPresent (option_and_then (λ script. slice_get script (ended_count c (take i events))) o)
            (λ command. IsAnswerTo command event) → c < length scripts
        slice_get_within-of None e is = absurd (is)
        slice_get_within-of (Some s) e is = slice_get_within scripts c s e

    one : (i : ℕ) (event : Event) → IsOf scripts (take i events) event
        → IfSome (client_of event) (λ c. c < length scripts)
    one i (Edit c verdict) is = inside i c (Edit c verdict) is
    one i (Ask c) is = is
    one i (Pair v x y) is = tt
    one i (Reply c r) is = inside i c (Reply c r) is
