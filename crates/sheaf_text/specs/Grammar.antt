-- Which lines are refused, by what the earlier lines say.
use Rattle.std.specs.Prelude.{ℕ, ◌+◌, ◌*◌, Bool, true, false, List, drop, length, sum, not, Option, Some, None, is_some}
use Rattle.std.specs.Prelude.{◌==◌, ◌||◌, nat_le, nat_lt, slice_index, if◌then◌else◌, codes}
use Rattle.std.specs.List.{list_all, list_any}
use Rattle.std.specs.Option.{option_map_or}
use Rattle.std.specs.Str.{bytes_eq}
use Rattle.cell_complex.specs.declared.face.Face.{Face}
use Rattle.cell_complex.specs.declared.fault.FaceFault.{FaceFault}
use Rattle.cell_complex.specs.declared.fault.FaceFault.TheVariants.{UnknownCell, WrongDims, TwiceFace}
use Rattle.cell_complex.specs.Verdicts.{face_fault}
use Rattle.dense_blocks.specs.Blocks.{WrittenMatrix}
use Rattle.field_table.specs.Table.{orders}
use Rattle.sheaf_words.specs.declared.query.Command.{Command}
use Rattle.sheaf_text.specs.Cut.{word_number, value_of}
use Rattle.sheaf_text.specs.Rooms.{room}
use Rattle.sheaf_text.specs.Lines.{word, value, is_skipped, kind_of, may_stand, count_fits, numerals, face_in}
use Rattle.sheaf_text.specs.declared.line.Kind.{Kind}
use Rattle.sheaf_text.specs.declared.line.Kind.TheVariants as kinds
use Rattle.sheaf_text.specs.declared.line.Stage.{Stage}
use Rattle.sheaf_text.specs.declared.line.Stage.TheVariants as stages
use Rattle.sheaf_text.specs.declared.fault.LineCause.{LineCause}
use Rattle.sheaf_text.specs.declared.fault.LineCause.TheVariants as causes
use Rattle.sheaf_text.specs.declared.fault.Which.TheVariants as limits
use Rattle.sheaf_text.specs.declared.fault.Refusal.{Refusal}
use Rattle.sheaf_text.specs.declared.fault.Refusal.TheVariants.{Bad, Over}

-- an input as a plain value
pub record InputValue : Type 0 where
  pub order : ℕ
  pub dims : List ℕ
  pub faces : List Face
  pub stalks : List ℕ
  pub blocks : List WrittenMatrix
  pub scripts : List (List Command)

-- what the earlier lines say: where they end, how many commands there are, and the input so far
pub record Known : Type 0 where
  pub stage : Stage
  pub commands : ℕ
  pub input : InputValue

-- ---- one kind of line, whose words have the right form

abbrev pub cause_of : FaceFault → LineCause
cause_of (UnknownCell id) = causes.Cell
cause_of (WrongDims s t) = causes.Dims
cause_of (TwiceFace s t) = causes.Twice

-- the entries of a face are as many as its restriction, from stalk to stalk, has
abbrev pub entries_refusal : Known → List (List ℕ) → Option Refusal
entries_refusal k ws =
    if not (length (drop 4 ws) == slice_index k.input.stalks (value ws 2) * slice_index k.input.stalks (value ws 1))
    then Some (Bad causes.Shape)
    else if not (list_all (λ w. nat_lt (value_of w) k.input.order) (drop 4 ws)) then Some (Bad causes.Entry)
    else if nat_le 32768 (length k.input.faces) then Some (Over limits.Faces)
    else None

abbrev pub face_refusal : Known → List (List ℕ) → Option Refusal
face_refusal k ws =
    if not (bytes_eq (word ws 3) (codes "+") || bytes_eq (word ws 3) (codes "-")) then Some (Bad causes.Sign)
    else option_map_or (λ fault. Some (Bad (cause_of fault)))
    (face_fault (record { dims = k.input.dims; faces = k.input.faces }) (face_in ws)) (entries_refusal k ws)

-- a question on the cohomology of one degree
abbrev pub degree_refusal : Known → List (List ℕ) → Option Refusal
degree_refusal k ws =
    if nat_lt 15 (value ws 1) then Some (Over limits.Dimension)
    else if nat_le 4096 k.commands then Some (Over limits.Commands)
    else None

-- a question on the value at a vertex
abbrev pub vertex_refusal : Known → List (List ℕ) → Option Refusal
vertex_refusal k ws =
    if nat_le (length k.input.dims) (value ws 1) then Some (Bad causes.Cell)
    else if not (slice_index k.input.dims (value ws 1) == 0) then Some (Bad causes.Vertex)
    else if nat_le 4096 k.commands then Some (Over limits.Commands)
    else None

abbrev pub kind_refusal : Known → Kind → List (List ℕ) → Option Refusal
kind_refusal k kinds.Field ws = if list_any (λ q. value ws 1 == q) orders then None else Some (Bad causes.Field)
kind_refusal k kinds.Cell ws =
    if nat_lt 15 (value ws 1) then Some (Over limits.Dimension)
    else if nat_lt 16 (value ws 2) then Some (Over limits.Stalk)
    else if nat_le 4096 (length k.input.dims) then Some (Over limits.Cells)
    else if nat_lt 4096 (sum k.input.stalks + value ws 2) then Some (Over limits.Total)
    else None
kind_refusal k kinds.Face ws = face_refusal k ws
kind_refusal k kinds.Client ws = if nat_le 8 (length k.input.scripts) then Some (Over limits.Clients) else None
kind_refusal k kinds.Betti ws = if nat_le 4096 k.commands then Some (Over limits.Commands) else None
kind_refusal k kinds.Reduce ws = if nat_le 4096 k.commands then Some (Over limits.Commands) else None
kind_refusal k kinds.Equiv ws = if nat_le 4096 k.commands then Some (Over limits.Commands) else None
kind_refusal k kinds.Basis ws = degree_refusal k ws
kind_refusal k kinds.Class ws = degree_refusal k ws
kind_refusal k kinds.Sections ws = if nat_le 4096 k.commands then Some (Over limits.Commands) else None
kind_refusal k kinds.Extend ws = vertex_refusal k ws
kind_refusal k kinds.Edit ws = if nat_le 4096 k.commands then Some (Over limits.Commands) else None
kind_refusal k kinds.Done ws = if nat_lt 1073741824 (room k.input.stalks k.input.scripts) then Some (Over limits.Room)
    else None
kind_refusal k kind ws = None

-- ---- any line

abbrev pub placed_refusal : Known → Kind → List (List ℕ) → Option Refusal
placed_refusal k kind ws =
    if not (may_stand k.stage kind) then Some (Bad causes.Word)
    else if not (count_fits kind (length ws)) then Some (Bad causes.Count)
    else if not (list_all (λ w. is_some (word_number w)) (numerals kind ws)) then Some (Bad causes.Number)
    else kind_refusal k kind ws

abbrev pub is_ended : Stage → Bool
is_ended stages.Ended = true
is_ended stage = false

-- why the line of these words is refused; none where it is not
unfoldable pub refusal : Known → List (List ℕ) → Option Refusal
refusal k ws =
    if is_skipped ws then None
    else if is_ended k.stage then Some (Bad causes.After)
    else option_map_or (λ kind. placed_refusal k kind ws) (kind_of (word ws 0)) (Some (Bad causes.Word))
