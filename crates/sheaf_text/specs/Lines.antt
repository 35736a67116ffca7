-- What a line is, and whether its words have the right form.
use Rattle.std.specs.Prelude.{ℕ, Bool, true, false, List, [], ◌∷◌, drop, Option, Some, None, length, ◌==◌, ◌||◌}
use Rattle.std.specs.Prelude.{nat_le, slice_index, slice_index_or, if◌then◌else◌, codes}
use Rattle.std.specs.Str.{bytes_eq}
use Rattle.cell_complex.specs.declared.face.Face.{Face}
use Rattle.cell_complex.specs.declared.face.Sign.TheVariants.{Plus, Minus}
use Rattle.sheaf_text.specs.Cut.{value_of}
use Rattle.sheaf_text.specs.declared.line.Kind.{Kind}
use Rattle.sheaf_text.specs.declared.line.Kind.TheVariants as kinds
use Rattle.sheaf_text.specs.declared.line.Stage.{Stage}
use Rattle.sheaf_text.specs.declared.line.Stage.TheVariants as stages

-- the word at a place, from 0 on, and the number that it is
abbrev pub word : List (List ℕ) → ℕ → List ℕ
word ws i = slice_index_or ws i []

abbrev pub value : List (List ℕ) → ℕ → ℕ
value ws i = value_of (word ws i)

-- no words, or a comment, which begins with `#`
abbrev pub is_skipped : List (List ℕ) → Bool
is_skipped ws = (length (word ws 0) == 0) || (slice_index (word ws 0) 0 == 35)

-- the kind of a line, by its first word
abbrev pub kind_of : List ℕ → Option Kind
kind_of w =
    if bytes_eq w (codes "field") then Some kinds.Field
    else if bytes_eq w (codes "cell") then Some kinds.Cell
    else if bytes_eq w (codes "face") then Some kinds.Face
    else if bytes_eq w (codes "client") then Some kinds.Client
    else if bytes_eq w (codes "betti") then Some kinds.Betti
    else if bytes_eq w (codes "reduce") then Some kinds.Reduce
    else if bytes_eq w (codes "equiv") then Some kinds.Equiv
    else if bytes_eq w (codes "basis") then Some kinds.Basis
    else if bytes_eq w (codes "class") then Some kinds.Class
    else if bytes_eq w (codes "sections") then Some kinds.Sections
    else if bytes_eq w (codes "extend") then Some kinds.Extend
    else if bytes_eq w (codes "edit") then Some kinds.Edit
    else if bytes_eq w (codes "stalk") then Some kinds.Stalk
    else if bytes_eq w (codes "restrict") then Some kinds.Restrict
    else if bytes_eq w (codes "commit") then Some kinds.Commit
    else if bytes_eq w (codes "done") then Some kinds.Done
    else None

-- which lines may stand where
abbrev pub may_stand : Stage → Kind → Bool
may_stand stages.Start kinds.Field = true
may_stand stages.Cells kinds.Cell = true
may_stand stages.Cells kinds.Face = true
may_stand stages.Cells kinds.Client = true
may_stand stages.Cells kinds.Done = true
may_stand stages.Faces kinds.Face = true
may_stand stages.Faces kinds.Client = true
may_stand stages.Faces kinds.Done = true
may_stand stages.InClient kinds.Betti = true
may_stand stages.InClient kinds.Reduce = true
may_stand stages.InClient kinds.Equiv = true
may_stand stages.InClient kinds.Basis = true
may_stand stages.InClient kinds.Class = true
may_stand stages.InClient kinds.Sections = true
may_stand stages.InClient kinds.Extend = true
may_stand stages.InClient kinds.Edit = true
may_stand stages.InClient kinds.Client = true
may_stand stages.InClient kinds.Done = true
may_stand stages.InEdit kinds.Stalk = true
may_stand stages.InEdit kinds.Restrict = true
may_stand stages.InEdit kinds.Commit = true
may_stand stage kind = false

-- how many words a line may have
abbrev pub count_fits : Kind → ℕ → Bool
count_fits kinds.Field n = n == 2
count_fits kinds.Cell n = n == 3
count_fits kinds.Stalk n = n == 3
count_fits kinds.Face n = nat_le 4 n
count_fits kinds.Restrict n = nat_le 3 n
count_fits kinds.Basis n = n == 2
count_fits kinds.Class n = nat_le 2 n
count_fits kinds.Extend n = nat_le 2 n
count_fits kind n = n == 1

-- the words that have to be numbers: all after the first, but the sign of a face
abbrev pub numerals : Kind → List (List ℕ) → List (List ℕ)
numerals kinds.Face ws = word ws 1 ∷ word ws 2 ∷ drop 4 ws
numerals kind ws = drop 1 ws

-- the face of a line, without its entries
abbrev pub face_in : List (List ℕ) → Face
face_in ws = record {
  s = value ws 1;
  t = value ws 2;
  sign = if bytes_eq (word ws 3) (codes "+") then Plus else Minus;
}
