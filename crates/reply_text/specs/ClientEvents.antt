-- Events of clients: what ends a command answers it.
use Rattle.std.specs.Prelude.{◌≡◌, ℕ, ◌<◌, true, List, Option, Some, None, length, take, slice_get, option_and_then}
use Rattle.sheaf_words.specs.declared.query.Command.{Command}
use Rattle.sheaf_words.specs.declared.query.Command.TheVariants.{Change, Ask as Question}
use Rattle.sheaf_words.specs.declared.query.Query.TheVariants as queries
use Rattle.sheaf_words.specs.declared.event.Event.{Event}
use Rattle.sheaf_words.specs.declared.event.Event.TheVariants.{Edit, Ask, Pair, Reply}
use Rattle.sheaf_words.specs.declared.reply.Reply.TheVariants as replies
use Rattle.reply_text.specs.Transcripts.{ends_for, ended_count}

-- the client whose command an event is about, if it is about one
abbrev pub client_of : Event → Option ℕ
client_of (Edit c verdict) = Some c
client_of (Ask c) = Some c
client_of (Pair v x y) = None
client_of (Reply c r) = Some c

-- the client whose command an event ends, if it ends one
abbrev pub ender_of : Event → Option ℕ
ender_of (Edit c verdict) = Some c
ender_of (Ask c) = None
ender_of (Pair v x y) = None
ender_of (Reply c r) = Some c

-- the event answers the command: an edit with its verdict, a query with a reply of its kind
abbrev pub IsAnswerTo : Command → Event → Type 0
IsAnswerTo (Change edit) (Edit c verdict) = Unit {0}
IsAnswerTo (Question queries.Betti) (Reply c (replies.Betti numbers)) = Unit {0}
IsAnswerTo (Question queries.Reduce) (Reply c (replies.Reduce r)) = Unit {0}
IsAnswerTo (Question queries.Equiv) (Reply c (replies.Equiv r m)) = Unit {0}
IsAnswerTo (Question (queries.Basis k)) (Reply c (replies.Basis l vectors)) = Unit {0}
IsAnswerTo (Question (queries.Class k z)) (Reply c (replies.NotCocycle l t)) = Unit {0}
IsAnswerTo (Question (queries.Class k z)) (Reply c (replies.Class l coords vectors primitive)) = Unit {0}
IsAnswerTo (Question (queries.Class k z)) (Reply c replies.BadLength) = Unit {0}
IsAnswerTo (Question (queries.Class k z)) (Reply c replies.BadEntry) = Unit {0}
IsAnswerTo (Question queries.Sections) (Reply c (replies.Sections vectors)) = Unit {0}
IsAnswerTo (Question (queries.Extend s v)) (Reply c (replies.Section t z)) = Unit {0}
IsAnswerTo (Question (queries.Extend s v)) (Reply c (replies.NoSection t functional)) = Unit {0}
IsAnswerTo (Question (queries.Extend s v)) (Reply c replies.BadLength) = Unit {0}
IsAnswerTo (Question (queries.Extend s v)) (Reply c replies.BadEntry) = Unit {0}
IsAnswerTo command event = ⊥

-- there is a value, and it meets P
abbrev pub IfPresent : {X : Type 0} → Option X → (X → Type 0) → Type 0
IfPresent None P = ⊥
IfPresent (Some x) P = P x

-- client c has a command that no earlier event ended, and the event answers it
abbrev pub IsAnswered : List (List Command) → List Event → ℕ → Event → Type 0
IsAnswered scripts earlier c event =
    IfPresent (option_and_then (λ script. slice_get script (ended_count c earlier)) (slice_get scripts c))
    (λ command. IsAnswerTo command event)

-- the event after the earlier ones is one of these clients, and what ends a command answers it
abbrev pub IsOf : List (List Command) → List Event → Event → Type 0
IsOf scripts earlier (Edit c verdict) = IsAnswered scripts earlier c (Edit c verdict)
IsOf scripts earlier (Ask c) = c < length scripts
IsOf scripts earlier (Pair v x y) = Unit {0}
IsOf scripts earlier (Reply c r) = IsAnswered scripts earlier c (Reply c r)

-- each event is one of these clients, and what ends a command answers it
abbrev pub AreOf : List (List Command) → List Event → Type 0
AreOf scripts events = (i : ℕ) (event : Event) → slice_get events i ≡ Some event → IsOf scripts (take i events) event

-- each event that ends a command of the client ends one of its script, in order, and answers it
abbrev pub AreAnswered : ℕ → List Command → List Event → Type 0
AreAnswered c script events = (i : ℕ) (event : Event) → slice_get events i ≡ Some event → ends_for c event ≡ true
    → IfPresent (slice_get script (ended_count c (take i events))) (λ command. IsAnswerTo command event)
