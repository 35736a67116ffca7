-- Parts of a transcript.
use Rattle.std.specs.Prelude.{ℕ, ◌+◌, ◌-◌, Bool, false, ◌==◌, slice_set, List, [], ◌∷◌, ◌++◌, Option, slice_get, count_by}
use Rattle.std.specs.Prelude.{if◌then◌else◌, map, take, drop, min, slice_index_or, codes}
use Rattle.std.specs.Fmt.{decimal}
use Rattle.std.specs.List.{flat_map, enumerate_from, list_all}
use Rattle.std.specs.Option.{option_map_or}
use Rattle.sheaf_words.specs.declared.query.Command.{Command}
use Rattle.sheaf_words.specs.declared.event.Event.{Event}
use Rattle.sheaf_words.specs.declared.event.Event.TheVariants.{Edit, Ask, Pair, Reply}
use Rattle.dense_blocks.specs.Blocks.{matrix_of}
use Rattle.dense_blocks.specs.declared.block.Block.{Block}
use Rattle.reply_text.specs.declared.coordinates.Coordinates.{Coordinates}
use Rattle.reply_text.specs.declared.joined.Joined.{Joined}
use Rattle.reply_text.specs.declared.joined.Direction.{Direction}
use Rattle.reply_text.specs.declared.joined.Direction.TheVariants.{Up, Level, Down}
use Rattle.reply_text.specs.JoinedMatrices.{JoinedMatrices}
use Rattle.reply_text.specs.Lines.{line_text}
use Rattle.reply_text.specs.Replies.{reply_lines}
use Rattle.reply_text.specs.Transcripts.{ends_for, ended_count, is_accepted, asked_from, version_named, client_lines}
use Rattle.reply_text.specs.Transcripts.{event_words}

abbrev pub lines_text : List (List (List ℕ)) → List ℕ
lines_text lines = flat_map line_text lines

-- a space before each word
abbrev pub spaced_words : List (List ℕ) → List ℕ
spaced_words words = flat_map (λ word. 32 ∷ word) words

-- the lines of an event that ends the command of client c
abbrev pub answer_lines : ℕ → List Event → Event → Option Command → List (List (List ℕ))
answer_lines c earlier event found = option_map_or
    (λ command. reply_lines (ended_count c earlier + 1) (version_named earlier event) command event) found []

-- the lines that an event after the earlier ones gives client c with this script
abbrev pub event_lines : ℕ → List Command → List Event → Event → List (List (List ℕ))
event_lines c script earlier event = if ends_for c event then
    answer_lines c earlier event (slice_get script (ended_count c earlier)) else []

-- the line `client C`, and then the replies to client c
abbrev pub client_part : ℕ → List Command → List Event → List (List (List ℕ))
client_part c script events = (codes "client" ∷ decimal c ∷ []) ∷ client_lines c script [] events

-- this for each client from c on
abbrev pub clients_lines : ℕ → List (List Command) → List Event → List (List (List ℕ))
clients_lines c scripts events =
    flat_map (λ (p : ℕ × List Command). client_part p.0 p.1 events) (enumerate_from c scripts)

-- a line for each event
abbrev pub order_lines : List Event → List Event → List (List (List ℕ))
order_lines earlier [] = []
order_lines earlier (event ∷ events) = event_words earlier event ∷ order_lines (earlier ++ event ∷ []) events

-- these, each by its place among all events
abbrev pub placed_lines : List Event → List (List (List ℕ))
placed_lines events = map (λ (p : ℕ × Event). event_words (take p.0 events) p.1) (enumerate_from 0 events)

-- ---- counts

-- whether client c asks by this event
abbrev pub asks_for : ℕ → Event → Bool
asks_for c (Ask d) = d == c
asks_for c event = false

-- the version that stands after these events: the number of accepted edits
abbrev pub current_version : List Event → ℕ
current_version events = count_by is_accepted events

-- the version that stood at the last question of client c
abbrev pub asked_version : ℕ → List Event → ℕ
asked_version c events = asked_from c 0 0 events

-- the number, from 1, of the command that an event after the earlier ones is about
abbrev pub command_number : List Event → Event → ℕ
command_number earlier (Edit c verdict) = ended_count c earlier + 1
command_number earlier (Ask c) = ended_count c earlier + 1
command_number earlier (Pair v x y) = 0
command_number earlier (Reply c r) = ended_count c earlier + 1

-- the words of an event about the command of this number
abbrev pub numbered_words : ℕ → Event → List (List ℕ)
numbered_words number (Edit c verdict) = codes "edit" ∷ decimal c ∷ decimal number ∷ []
numbered_words number (Ask c) = codes "ask" ∷ decimal c ∷ decimal number ∷ []
numbered_words number (Pair v x y) = codes "pair" ∷ decimal v ∷ decimal x ∷ decimal y ∷ []
numbered_words number (Reply c r) = codes "reply" ∷ decimal c ∷ decimal number ∷ []

-- ---- blocks

-- these joined matrices as a plain value
abbrev pub joined_value : Joined → JoinedMatrices
joined_value j = record { matrices = j.matrices.now; from = j.from.now; to = j.to.now; direction = j.direction }

-- the same coordinates; those from place 4,096 on, which no block has, begin there
abbrev pub capped : Coordinates → Coordinates
capped c = record { cell = c.cell; degree = c.degree; first = min c.first 4096; size = c.size }

-- how many coordinates are of each degree, 4,096 at most, after a cell more
abbrev pub with_cell : List ℕ → ℕ × ℕ × ℕ → List ℕ
with_cell sizes c = slice_set sizes c.1 (min (slice_index_or sizes c.1 0 + c.2) 4096)

-- all entries are zero
abbrev pub is_zero : Block → Bool
is_zero b = list_all (λ e. e == 0) b.entries

-- the place of the matrix that goes from degree k in this direction
abbrev pub matrix_place : Direction → ℕ → ℕ
matrix_place Up k = k
matrix_place Level k = k
matrix_place Down k = k - 1

-- row i of the block from s to t, without entries where the matrix has no such row
abbrev pub row_between : Block → Coordinates → Coordinates → ℕ → List ℕ
row_between b s t i = take s.size (drop s.first (slice_index_or (matrix_of b) (t.first + i) []))

-- a space before each entry
abbrev pub entries_words : List ℕ → List ℕ
entries_words entries = spaced_words (map decimal entries)
