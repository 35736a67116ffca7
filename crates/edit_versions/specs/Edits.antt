-- Edits on plain lists: why a set is refused, and what it makes.
use Rattle.std.specs.Prelude.{ℕ, ◌+◌, ◌*◌, List, [], ◌∷◌, Option, None, Some, Result, Ok, Err, length, map}
use Rattle.std.specs.Prelude.{slice_index, slice_set, nat_lt, not, ◌==◌, ◌||◌, if◌then◌else◌}
use Rattle.std.specs.List.{list_all, zip}
use Rattle.std.specs.Option.{option_map_or}
use Rattle.cell_complex.specs.declared.face.Face.{Face}
use Rattle.cell_complex.specs.Complexes.{CellComplex, joins, is_face}
use Rattle.dense_blocks.specs.Field.{Ops}
use Rattle.dense_blocks.specs.Vectors.{zeros}
use Rattle.dense_blocks.specs.Blocks.{WrittenMatrix, written_matrix}
use Rattle.dense_blocks.specs.declared.block.Block.{Block}
use Rattle.sheaf_words.specs.declared.edit.Set.{Set}
use Rattle.sheaf_words.specs.declared.edit.Set.TheVariants.{Stalk, Restrict}
use Rattle.sheaf_words.specs.declared.edit.Cause.{Cause}
use Rattle.sheaf_words.specs.declared.edit.Cause.TheVariants.{NoCell, NoFace, StalkLimit, Shape, Entry}

-- the stalks and the restrictions of a sheaf, in the order of its cells and of its faces
pub record SheafLists : Type 0 where
  pub stalks : List ℕ
  pub matrices : List WrittenMatrix

abbrev pub sheaf_lists : List ℕ → List Block → SheafLists
sheaf_lists stalks blocks = record { stalks = stalks; matrices = map written_matrix blocks }

-- the first of these: no cell, a stalk above 16; no face, the wrong number of entries, an entry that is no scalar
abbrev pub set_fault : Ops → CellComplex → List ℕ → ℕ → Set → Option Cause
set_fault K c stalks i (Stalk s n) =
    if not (nat_lt s (length c.dims)) then Some (NoCell i)
    else if nat_lt 16 n then Some (StalkLimit i)
    else None
set_fault K c stalks i (Restrict s t entries) =
    if not (is_face c s t) then Some (NoFace i)
    else if not (length entries == slice_index stalks t * slice_index stalks s) then Some (Shape i)
    else if not (list_all (λ a. nat_lt a K.order) entries) then Some (Entry i)
    else None

-- the matrix with these entries from the stalk of s to that of t
abbrev pub matrix_between : List ℕ → ℕ → ℕ → List ℕ → WrittenMatrix
matrix_between stalks s t entries =
    record { rows = slice_index stalks t; cols = slice_index stalks s; entries = entries }

-- what a set makes: a stalk's size, and the zero matrix at each face there; or the matrix of a face; all else stays
abbrev pub with_set : CellComplex → SheafLists → Set → SheafLists
with_set c l (Stalk s n) =
    let stalks = slice_set l.stalks s n in
    record {
      stalks = stalks;
      matrices = map (λ (p : Face × WrittenMatrix). if (s == p.0.s) || (s == p.0.t) then
          matrix_between stalks p.0.s p.0.t (zeros (slice_index stalks p.0.t * slice_index stalks p.0.s)) else p.1)
          (zip c.faces l.matrices);
    }
with_set c l (Restrict s t entries) =
    record l {
      matrices = map (λ (p : Face × WrittenMatrix). if joins s t p.0 then
          matrix_between l.stalks s t entries else p.1) (zip c.faces l.matrices);
    }

-- what the sets make, taken in order, or the fault of the first that has one; their places are counted from i on
abbrev pub sets_made : Ops → CellComplex → SheafLists → ℕ → List Set → Result SheafLists Cause
sets_made K c l i [] = Ok l
sets_made K c l i (x ∷ xs) =
    option_map_or Err (set_fault K c l.stalks i x) (sets_made K c (with_set c l x) (i + 1) xs)
