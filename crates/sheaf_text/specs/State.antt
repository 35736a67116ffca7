-- What the reader keeps from line to line.
use Rattle.std.specs.Prelude.{◌≡◌, ℕ, List, [], ◌∷◌, ◌++◌, Option, Some, None}
use Rattle.field_table.specs.Table.{order_of}
use Rattle.sheaf_words.specs.declared.query.Command.{Command}
use Rattle.sheaf_words.specs.declared.query.Command.TheVariants.{Change}
use Rattle.sheaf_text.specs.Grammar.{Known, refusal, placed_refusal}
use Rattle.sheaf_text.specs.Readings.{Reading, advance, nothing_known}
use Rattle.sheaf_text.specs.Forms.{go_on, content_refusal, known_after}
use Rattle.sheaf_text.specs.Answers.{GivesFault}
use Rattle.sheaf_text.specs.Parts.{AreDraftParts, IsOpen, IsClosed, matrices_of}
use Rattle.sheaf_text.specs.declared.fault.TextFault.{TextFault}
use Rattle.sheaf_text.specs.declared.line.Kind.{Kind}
use Rattle.sheaf_text.specs.declared.line.Kind.TheVariants as kinds
use Rattle.sheaf_text.specs.declared.line.Stage.{Stage}
use Rattle.sheaf_text.specs.declared.line.Stage.TheVariants as stages
use Rattle.sheaf_text.specs.declared.parts.Parts.{Parts}
use Rattle.sheaf_text.specs.declared.scripts.Scripts.{Scripts}
use Rattle.sheaf_text.specs.declared.state.State.{State}

-- the scripts so far, with that of the last client, and in it the open edit
abbrev pub scripts_at : Stage → Scripts → List (List Command)
scripts_at stages.InClient s = s.ended.items ++ s.commands.items ∷ []
scripts_at stages.InEdit s = s.ended.items ++ (s.commands.items ++ Change (record { sets = s.sets.items }) ∷ []) ∷ []
scripts_at stage s = s.ended.items

-- what is known
abbrev pub known_by : State → Known
known_by s = record {
  stage = s.stage;
  commands = s.scripts.count;
  input = record {
    order = order_of s.parts.field;
    dims = s.parts.dims.items;
    faces = s.parts.complex.faces;
    stalks = s.parts.stalks.items;
    blocks = matrices_of s.parts;
    scripts = scripts_at s.stage s.scripts;
  };
}

-- before the first face there are no faces, and after the last cell the complex has all cells
abbrev pub AreAtStage : Stage → Parts → Type 0
AreAtStage stages.Start p = IsOpen p × IsClosed p
AreAtStage stages.Cells p = IsOpen p
AreAtStage stage p = IsClosed p

pub record IsSoundState (s : State) : Type 0 where
  pub parts : AreDraftParts s.parts
  pub stands : AreAtStage s.stage s.parts

-- where a line of this kind is judged, the complex has all cells, unless it is one of a cell
abbrev pub IsReadyFor : Option Kind → Parts → Type 0
IsReadyFor (Some kinds.Cell) p = Unit {0}
IsReadyFor kind p = IsClosed p

-- nothing is known yet
pub record IsUntouched (s : State) : Type 0 where
  pub sound : IsSoundState s
  pub known : known_by s ≡ nothing_known

-- the same is known, and a line of this kind can be judged
pub record IsReady (old new : State) (kind : Option Kind) : Type 0 where
  pub sound : IsSoundState new
  pub ready : IsReadyFor kind new.parts
  pub known : known_by new ≡ known_by old

-- a line of this kind, with these words, is not refused
pub record IsAccepted (s : State) (kind : Kind) (ws : List (List ℕ)) : Type 0 where
  pub sound : IsSoundState s
  pub ready : IsReadyFor (Some kind) s.parts
  pub accepted : placed_refusal (known_by s) kind ws ≡ None

-- the line is of this kind, and is not refused
pub record IsFound (k : Known) (kind : Option Kind) (ws : List (List ℕ)) (found : Kind) : Type 0 where
  pub kind_is : kind ≡ Some found
  pub accepted : placed_refusal k found ws ≡ None
  pub not_refused : content_refusal k kind ws ≡ None

-- the line of this kind is taken
pub record TakesKind (old new : State) (kind : Kind) (ws : List (List ℕ)) : Type 0 where
  pub sound : IsSoundState new
  pub known : known_by new ≡ advance (known_by old) (Some kind) ws

-- a line that is not refused is taken; else, whatever comes later, this is the answer
pub record TakesLine (old new : State) (ws : List (List ℕ)) : Type 0 where
  pub accepted : refusal (known_by old) ws ≡ None
  pub sound : IsSoundState new
  pub known : known_by new ≡ known_after (known_by old) ws

abbrev pub RefusesLine : State → ℕ → List (List ℕ) → TextFault → Type 0
RefusesLine old line ws fault = (later : Reading) → GivesFault fault (go_on (refusal (known_by old) ws) line later)
