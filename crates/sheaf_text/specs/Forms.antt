-- Parts of the grammar and of the reading, as the reader's functions and the proofs name them.
use Rattle.std.specs.Prelude.{◌≡◌, ◌<◌, ◌≤◌, ◌*◌, ◌+◌, ℕ, Bool, true, false, List, [], ◌∷◌, ◌++◌, drop, length, map, not}
use Rattle.std.specs.Prelude.{Option, Some, None, is_some, ◌==◌, ◌||◌, nat_le, nat_lt}
use Rattle.std.specs.Prelude.{slice_index, if◌then◌else◌, codes}
use Rattle.std.specs.List.{list_all, list_any}
use Rattle.std.specs.Option.{option_map_or}
use Rattle.std.specs.Str.{bytes_eq}
use Rattle.std.specs.Str.Lines.{lines}
use Rattle.cell_complex.specs.declared.face.Face.{Face}
use Rattle.cell_complex.specs.declared.face.Sign.{Sign}
use Rattle.cell_complex.specs.declared.face.Sign.TheVariants.{Plus, Minus}
use Rattle.cell_complex.specs.declared.fault.FaceFault.{FaceFault}
use Rattle.dense_blocks.specs.Blocks.{WrittenMatrix}
use Rattle.field_table.specs.Table.{orders}
use Rattle.sheaf_words.specs.declared.query.Command.{Command}
use Rattle.sheaf_words.specs.declared.query.Query.{Query}
use Rattle.sheaf_words.specs.declared.query.Query.TheVariants as queries
use Rattle.sheaf_words.specs.declared.edit.Set.{Set}
use Rattle.sheaf_words.specs.declared.edit.Set.TheVariants as sets
use Rattle.sheaf_text.specs.Cut.{words, word_number, value_of}
use Rattle.sheaf_text.specs.Rooms.{room}
use Rattle.sheaf_text.specs.Lines.{word, value, kind_of, numerals}
use Rattle.sheaf_text.specs.Grammar.{Known, cause_of, entries_refusal, placed_refusal, is_ended}
use Rattle.sheaf_text.specs.Readings.{Reading, Good, RefusedLine, with_last, command_with_set, advance}
use Rattle.sheaf_text.specs.declared.line.Kind.{Kind}
use Rattle.sheaf_text.specs.declared.line.Kind.TheVariants as kinds
use Rattle.sheaf_text.specs.declared.fault.LineCause.TheVariants as causes
use Rattle.sheaf_text.specs.declared.fault.Which.TheVariants as limits
use Rattle.sheaf_text.specs.declared.fault.Refusal.{Refusal}
use Rattle.sheaf_text.specs.declared.fault.Refusal.TheVariants.{Bad, Over}

-- ---- words

-- a space or a tab
abbrev pub is_blank : ℕ → Bool
is_blank b = (b == 32) || (b == 9)

-- some byte
abbrev pub has_bytes : List ℕ → Bool
has_bytes w = not (length w == 0)

-- the words of the text are this one and those of the rest, which is shorter
pub record IsFirstWord (text word rest : List ℕ) : Type 0 where
  pub words_are : words text ≡ word ∷ words rest
  pub shorter : length rest < length text

abbrev pub is_number : List ℕ → Bool
is_number w = is_some (word_number w)

-- whether the words that have to be numbers are numbers
abbrev pub are_numerals : Kind → List (List ℕ) → Bool
are_numerals kind ws = list_all is_number (numerals kind ws)

-- whether the number that each word is is below the order
abbrev pub are_below : ℕ → List (List ℕ) → Bool
are_below order ws = list_all (λ w. nat_lt (value_of w) order) ws

abbrev pub is_sign : List ℕ → Bool
is_sign w = bytes_eq w (codes "+") || bytes_eq w (codes "-")

abbrev pub sign_of : List ℕ → Sign
sign_of w = if bytes_eq w (codes "+") then Plus else Minus

-- ---- refusals

abbrev pub field_refusal : List (List ℕ) → Option Refusal
field_refusal ws = if list_any (λ q. value ws 1 == q) orders then None else Some (Bad causes.Field)

-- whether there are as many entries as the restriction from stalk to stalk has
abbrev pub is_full : List ℕ → Face → ℕ → Bool
is_full stalks f n = n == slice_index stalks f.t * slice_index stalks f.s

-- what is refused of a face, by its incidence
abbrev pub incidence_refusal : Known → List (List ℕ) → Option FaceFault → Option Refusal
incidence_refusal k ws fault = option_map_or (λ f. Some (Bad (cause_of f))) fault (entries_refusal k ws)

abbrev pub client_refusal : Known → Option Refusal
client_refusal k = if nat_le 8 (length k.input.scripts) then Some (Over limits.Clients) else None

abbrev pub command_refusal : Known → Option Refusal
command_refusal k = if nat_le 4096 k.commands then Some (Over limits.Commands) else None

abbrev pub room_refusal : Known → Option Refusal
room_refusal k =
    if nat_lt 1073741824 (room k.input.stalks k.input.scripts) then Some (Over limits.Room) else None

-- what is refused of a line that is not skipped
abbrev pub content_refusal : Known → Option Kind → List (List ℕ) → Option Refusal
content_refusal k kind ws =
    if is_ended k.stage then Some (Bad causes.After)
    else option_map_or (λ found. placed_refusal k found ws) kind (Some (Bad causes.Word))

-- ---- readings

-- the words of each line
abbrev pub contents : List ℕ → List (List (List ℕ))
contents bytes = map words (lines bytes)

-- what is known after a line
unfoldable pub known_after : Known → List (List ℕ) → Known
known_after k ws = advance k (kind_of (word ws 0)) ws

-- the lines of questions, and the question of one
abbrev pub is_query_kind : Kind → Bool
is_query_kind kinds.Betti = true
is_query_kind kinds.Reduce = true
is_query_kind kinds.Equiv = true
is_query_kind kinds.Basis = true
is_query_kind kinds.Class = true
is_query_kind kinds.Sections = true
is_query_kind kinds.Extend = true
is_query_kind kind = false

abbrev pub query_of : Kind → List (List ℕ) → Query
query_of kinds.Reduce ws = queries.Reduce
query_of kinds.Equiv ws = queries.Equiv
query_of kinds.Basis ws = queries.Basis (value ws 1)
query_of kinds.Class ws = queries.Class (value ws 1) (map value_of (drop 2 ws))
query_of kinds.Sections ws = queries.Sections
query_of kinds.Extend ws = queries.Extend (value ws 1) (map value_of (drop 2 ws))
query_of kind ws = queries.Betti

-- the degree that a line asks about, if it asks about one, is one of a cell
abbrev pub HasDegree : Kind → List (List ℕ) → Type 0
HasDegree kinds.Basis ws = value ws 1 ≤ 15
HasDegree kinds.Class ws = value ws 1 ≤ 15
HasDegree kind ws = Unit {0}

-- the lines of changes, and the change of one
abbrev pub is_set_kind : Kind → Bool
is_set_kind kinds.Stalk = true
is_set_kind kinds.Restrict = true
is_set_kind kind = false

abbrev pub set_of : Kind → List (List ℕ) → Set
set_of kinds.Restrict ws = sets.Restrict (value ws 1) (value ws 2) (map value_of (drop 3 ws))
set_of kind ws = sets.Stalk (value ws 1) (value ws 2)

-- a command more in the last script
abbrev pub onto_last : List (List Command) → Command → List (List Command)
onto_last scripts c = with_last (λ script. script ++ c ∷ []) scripts

-- a change more in the last command of a script, and of the last script
abbrev pub into_script : List Command → Set → List Command
into_script script s = with_last (command_with_set s) script

abbrev pub into_last : List (List Command) → Set → List (List Command)
into_last scripts s = with_last (with_last (command_with_set s)) scripts

-- the restriction of a face, from stalk to stalk
abbrev pub matrix_in : List ℕ → List (List ℕ) → WrittenMatrix
matrix_in stalks ws = record {
  rows = slice_index stalks (value ws 2);
  cols = slice_index stalks (value ws 1);
  entries = map value_of (drop 4 ws);
}

-- the reading at the end of the lines
abbrev pub reading_at_end : Known → ℕ → Reading
reading_at_end k line = if is_ended k.stage then Good k.input else RefusedLine (line + 1) (Bad causes.End)

-- a refused line decides; else the lines after it do
abbrev pub go_on : Option Refusal → ℕ → Reading → Reading
go_on refusal line later = option_map_or (RefusedLine line) refusal later
