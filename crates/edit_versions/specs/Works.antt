-- The stalks and blocks that an edit makes, set by set.
use Rattle.std.specs.Prelude.{◌≡◌, ℕ, ◌≤◌, ◌<◌, ◌*◌, ◌==◌, ◌||◌, List, Bool, length, map, slice_index}
use Rattle.std.specs.Prelude.{All, if◌then◌else◌}
use Rattle.std.specs.List.{list_any, zip}
use Rattle.cell_complex.specs.declared.face.Face.{Face}
use Rattle.cell_complex.specs.Complexes.{CellComplex, joins}
use Rattle.dense_blocks.specs.Field.{Ops}
use Rattle.dense_blocks.specs.Vectors.{zeros}
use Rattle.dense_blocks.specs.declared.block.Block.{Block}
use Rattle.sheaf_data.specs.Drafts.{AreBlocks}
use Rattle.sheaf_data.specs.Changes.{AreSameElsewhere}
use Rattle.sheaf_words.specs.declared.edit.Set.{Set}
use Rattle.edit_versions.specs.declared.work.Work.{Work}
use Rattle.edit_versions.specs.Edits.{SheafLists, sheaf_lists, matrix_between, with_set}
use Rattle.dense_blocks.specs.Blocks.{WrittenMatrix, written_matrix}

-- what the work stands for
abbrev pub work_lists : Work → SheafLists
work_lists w = sheaf_lists w.stalks.items w.blocks.items

-- a stalk of at most 16 for each cell, and a matrix of scalars for each face, from stalk to stalk; nothing is said of
-- the total
pub record IsWork (K : Ops) (c : CellComplex) (w : Work) : Type 0 where
  pub one_each : length w.stalks.items ≡ length c.dims
  pub low : All (λ size. size ≤ 16) w.stalks.items
  pub blocks_fit : AreBlocks K c.faces w.stalks.items w.blocks.items

-- each block that differs from the one at the start is that of a face at one of the touched places
pub record IsTouched (c : CellComplex) (start : List Block) (w : Work) : Type 0 where
  pub faces : All (λ p. p < length c.faces) w.touched.items
  pub others : AreSameElsewhere w.touched.items start w.blocks.items

-- at each face that passes the test the matrix made for it, at each other face the one that was there
abbrev pub with_replacements : (Face → Bool) → (Face → WrittenMatrix) → List Face → List WrittenMatrix
    → List WrittenMatrix
with_replacements p make fs ms =
    map (λ (q : Face × WrittenMatrix). if p q.0 then make q.0 else q.1) (zip fs ms)

-- the stalks stay, at each face that passes the test stands the matrix made for it, and what was said of touched faces
-- still holds
pub record Puts (c : CellComplex) (p : Face → Bool) (make : Face → WrittenMatrix) (old new : Work) : Type 0 where
  pub stalks : new.stalks.items ≡ old.stalks.items
  pub matrices : map written_matrix new.blocks.items ≡ with_replacements p make c.faces
      (map written_matrix old.blocks.items)
  pub touched : (start : List Block) → IsTouched c start old → IsTouched c start new

-- the work after one set more
pub record TakesSet (c : CellComplex) (x : Set) (old new : Work) : Type 0 where
  pub lists : work_lists new ≡ with_set c (work_lists old) x
  pub touched : (start : List Block) → IsTouched c start old → IsTouched c start new

-- whether the face is that of one of these cells in t
abbrev pub is_from : List ℕ → ℕ → Face → Bool
is_from below t f = list_any (λ s. joins s t f) below

-- whether the face is that of s in one of these cells
abbrev pub is_to : List ℕ → ℕ → Face → Bool
is_to above s f = list_any (λ t. joins s t f) above

-- the zero matrix from the stalk of s to that of t
abbrev pub zero_between : List ℕ → ℕ → ℕ → WrittenMatrix
zero_between stalks s t = matrix_between stalks s t (zeros (slice_index stalks t * slice_index stalks s))

-- the zero matrix of a face
abbrev pub zero_at : List ℕ → Face → WrittenMatrix
zero_at stalks f = zero_between stalks f.s f.t

-- whether the cell is an end of the face
abbrev pub is_end : ℕ → Face → Bool
is_end s f = (s == f.s) || (s == f.t)
