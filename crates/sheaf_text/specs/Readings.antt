-- The reading of bytes: each line is judged by what the lines before it say, and the first that is refused decides.
use Rattle.std.specs.Prelude.{ℕ, ◌+◌, List, [], ◌∷◌, ◌++◌, drop, length, map, Option, Some, None, nat_lt}
use Rattle.std.specs.Prelude.{slice_index, if◌then◌else◌}
use Rattle.std.specs.Option.{option_map_or}
use Rattle.std.specs.Str.Lines.{lines}
use Rattle.dense_blocks.specs.Blocks.{written_matrix}
use Rattle.field_table.specs.Table.{order_of}
use Rattle.sheaf_words.specs.declared.query.Command.{Command}
use Rattle.sheaf_words.specs.declared.query.Command.TheVariants.{Change, Ask}
use Rattle.sheaf_words.specs.declared.query.Query.{Query}
use Rattle.sheaf_words.specs.declared.query.Query.TheVariants.{Betti, Reduce, Equiv, Basis, Class, Sections, Extend}
use Rattle.sheaf_words.specs.declared.edit.Set.{Set}
use Rattle.sheaf_words.specs.declared.edit.Set.TheVariants.{Stalk, Restrict}
use Rattle.sheaf_text.specs.Cut.{words, value_of}
use Rattle.sheaf_text.specs.Lines.{word, value, kind_of, face_in}
use Rattle.sheaf_text.specs.Grammar.{InputValue, Known, refusal, is_ended}
use Rattle.sheaf_text.specs.declared.input.Input.{Input}
use Rattle.sheaf_text.specs.declared.line.Kind.{Kind}
use Rattle.sheaf_text.specs.declared.line.Kind.TheVariants as kinds
use Rattle.sheaf_text.specs.declared.line.Stage.TheVariants as stages
use Rattle.sheaf_text.specs.declared.fault.LineCause.TheVariants as causes
use Rattle.sheaf_text.specs.declared.fault.Which.TheVariants as limits
use Rattle.sheaf_text.specs.declared.fault.Refusal.{Refusal}
use Rattle.sheaf_text.specs.declared.fault.Refusal.TheVariants.{Bad, Over}

-- the plain value of an input
abbrev pub input_value : Input → InputValue
input_value i = record {
  order = order_of i.draft.field;
  dims = i.draft.complex.dims;
  faces = i.draft.complex.faces;
  stalks = i.draft.stalks;
  blocks = map written_matrix i.draft.blocks;
  scripts = i.scripts;
}

-- the input of all lines, or the number of the first line that is refused, and why; too many bytes count as line 0
pub data Reading : Type 0 where
  Good : InputValue → Reading
  RefusedLine : ℕ → Refusal → Reading

-- ---- what a line adds that is not refused

-- the list with its last element changed
abbrev pub with_last : {A : Type 0} → (A → A) → List A → List A
with_last f [] = []
with_last f (x ∷ []) = f x ∷ []
with_last f (x ∷ y ∷ more) = x ∷ with_last f (y ∷ more)

-- a change more in the command, if it is an edit
abbrev pub command_with_set : Set → Command → Command
command_with_set s (Change e) = Change (record { sets = e.sets ++ s ∷ [] })
command_with_set s (Ask q) = Ask q

-- what is known after a question more
abbrev pub with_query : Known → Query → Known
with_query k q = record k {
  stage = stages.InClient;
  commands = k.commands + 1;
  input = record k.input { scripts = with_last (λ script. script ++ Ask q ∷ []) k.input.scripts };
}

-- what is known after a line of this kind: a client begins a script, a command ends the last, a change the last edit
abbrev pub advance : Known → Option Kind → List (List ℕ) → Known
advance k None ws = k
advance k (Some kinds.Field) ws = record k { stage = stages.Cells; input = record k.input { order = value ws 1 } }
advance k (Some kinds.Cell) ws = record k {
  stage = stages.Cells;
  input = record k.input { dims = k.input.dims ++ value ws 1 ∷ []; stalks = k.input.stalks ++ value ws 2 ∷ [] };
}
advance k (Some kinds.Face) ws = record k {
  stage = stages.Faces;
  input = record k.input {
    faces = k.input.faces ++ face_in ws ∷ [];
    blocks = k.input.blocks ++ record {
      rows = slice_index k.input.stalks (value ws 2);
      cols = slice_index k.input.stalks (value ws 1);
      entries = map value_of (drop 4 ws);
    } ∷ [];
  };
}
advance k (Some kinds.Client) ws =
    record k { stage = stages.InClient; input = record k.input { scripts = k.input.scripts ++ [] ∷ [] } }
advance k (Some kinds.Betti) ws = with_query k Betti
advance k (Some kinds.Reduce) ws = with_query k Reduce
advance k (Some kinds.Equiv) ws = with_query k Equiv
advance k (Some kinds.Basis) ws = with_query k (Basis (value ws 1))
advance k (Some kinds.Class) ws = with_query k (Class (value ws 1) (map value_of (drop 2 ws)))
advance k (Some kinds.Sections) ws = with_query k Sections
advance k (Some kinds.Extend) ws = with_query k (Extend (value ws 1) (map value_of (drop 2 ws)))
advance k (Some kinds.Edit) ws = record k {
  stage = stages.InEdit;
  commands = k.commands + 1;
  input = record k.input {
    scripts = with_last (λ script. script ++ Change (record { sets = [] }) ∷ []) k.input.scripts;
  };
}
advance k (Some kinds.Stalk) ws = record k {
  stage = stages.InEdit;
  input = record k.input {
    scripts = with_last (with_last (command_with_set (Stalk (value ws 1) (value ws 2)))) k.input.scripts;
  };
}
advance k (Some kinds.Restrict) ws = record k {
  stage = stages.InEdit;
  input = record k.input {
    scripts = with_last (with_last (command_with_set
        (Restrict (value ws 1) (value ws 2) (map value_of (drop 3 ws))))) k.input.scripts;
  };
}
advance k (Some kinds.Commit) ws = record k { stage = stages.InClient }
advance k (Some kinds.Done) ws = record k { stage = stages.Ended }

abbrev pub nothing_known : Known
nothing_known = record {
  stage = stages.Start;
  commands = 0;
  input = record { order = 2; dims = []; faces = []; stalks = []; blocks = []; scripts = [] };
}

-- ---- the reading

-- the reading of more lines, after so many lines of which this is known: a refused line decides
unfoldable pub run : Known → ℕ → List (List (List ℕ)) → Reading
run k line [] = if is_ended k.stage then Good k.input else RefusedLine (line + 1) (Bad causes.End)
run k line (ws ∷ more) = option_map_or (RefusedLine (line + 1)) (refusal k ws)
    (run (advance k (kind_of (word ws 0)) ws) (line + 1) more)

unfoldable pub reading : List ℕ → Reading
reading bytes =
    if nat_lt 16777216 (length bytes) then RefusedLine 0 (Over limits.Bytes)
    else run nothing_known 0 (map words (lines bytes))
