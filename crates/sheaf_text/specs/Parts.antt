-- What the lines so far say of a sheaf, as the reader keeps it.
use Rattle.std.specs.Prelude.{◌≡◌, ℕ, List, [], ◌∷◌, ◌++◌, true, None, map, drop, length, sum}
use Rattle.cell_complex.specs.Invariants.{AreCells}
use Rattle.cell_complex.specs.Verdicts.{face_fault}
use Rattle.field_table.specs.Table.{order_of, ops_of}
use Rattle.field_table.specs.declared.field.Field.{Field}
use Rattle.sheaf_data.specs.Sheaves.{SheafData}
use Rattle.sheaf_data.specs.Drafts.{AreStalks, AreBlocks}
use Rattle.sheaf_text.specs.Lines.{face_in}
use Rattle.dense_blocks.specs.Blocks.{WrittenMatrix, written_matrix}
use Rattle.sheaf_text.specs.Forms.{are_below, is_full, matrix_in}
use Rattle.sheaf_text.specs.declared.parts.Parts.{Parts}

-- cells with stalks, and a block of scalars for each face of the complex, from stalk to stalk
pub record AreDraftParts (p : Parts) : Type 0 where
  pub cells : AreCells p.dims.items
  pub stalks : AreStalks p.dims.items p.stalks.items
  pub total : p.total ≡ sum p.stalks.items
  pub blocks : AreBlocks (ops_of p.field) p.complex.faces p.stalks.items p.blocks.items

-- no face was added
abbrev pub IsOpen : Parts → Type 0
IsOpen p = p.complex.faces ≡ []

-- the complex has the cells
abbrev pub IsClosed : Parts → Type 0
IsClosed p = p.complex.dims ≡ p.dims.items

-- the blocks, as plain values
abbrev pub matrices_of : Parts → List WrittenMatrix
matrices_of p = map written_matrix p.blocks.items

-- two of parts that differ at most where it is said
pub record SameCells (old new : Parts) : Type 0 where
  pub dims_same : new.dims.items ≡ old.dims.items
  pub stalks_same : new.stalks.items ≡ old.stalks.items

pub record SameFaces (old new : Parts) : Type 0 where
  pub faces_same : new.complex.faces ≡ old.complex.faces
  pub blocks_same : new.blocks.items ≡ old.blocks.items

pub record AreNew (p : Parts) : Type 0 where
  pub parts : AreDraftParts p
  pub open_ : IsOpen p
  pub closed : IsClosed p
  pub order : order_of p.field ≡ 2
  pub no_dims : p.dims.items ≡ []
  pub no_stalks : p.stalks.items ≡ []
  pub no_blocks : p.blocks.items ≡ []

pub record IsOrdered (old new : Parts) (order : ℕ) : Type 0 where
  pub parts : AreDraftParts new
  pub order_is : order_of new.field ≡ order
  pub cells : SameCells old new
  pub faces : SameFaces old new

pub record AddsCell (old new : Parts) (dim stalk : ℕ) : Type 0 where
  pub parts : AreDraftParts new
  pub dims_more : new.dims.items ≡ old.dims.items ++ dim ∷ []
  pub stalks_more : new.stalks.items ≡ old.stalks.items ++ stalk ∷ []
  pub field_same : new.field ≡ old.field
  pub faces : SameFaces old new

pub record IsShut (old new : Parts) : Type 0 where
  pub parts : AreDraftParts new
  pub closed : IsClosed new
  pub field_same : new.field ≡ old.field
  pub cells : SameCells old new
  pub faces : SameFaces old new

-- the face of a line of these words fits, and so do its entries
pub record TakesFace (p : Parts) (ws : List (List ℕ)) : Type 0 where
  pub no_fault : face_fault p.complex (face_in ws) ≡ None
  pub full : is_full p.stalks.items (face_in ws) (length (drop 4 ws)) ≡ true
  pub below : are_below (order_of p.field) (drop 4 ws) ≡ true

pub record AddsFace (old new : Parts) (ws : List (List ℕ)) : Type 0 where
  pub parts : AreDraftParts new
  pub closed : IsClosed new
  pub faces_more : new.complex.faces ≡ old.complex.faces ++ face_in ws ∷ []
  pub matrices_more : matrices_of new ≡ matrices_of old ++ matrix_in old.stalks.items ws ∷ []
  pub field_same : new.field ≡ old.field
  pub cells : SameCells old new

pub record IsDraftOf (p : Parts) (d : SheafData Field) : Type 0 where
  pub complex_is : d.complex ≡ p.complex
  pub field_is : d.field ≡ p.field
  pub stalks_are : d.stalks ≡ p.stalks.items
  pub blocks_are : d.blocks ≡ p.blocks.items
