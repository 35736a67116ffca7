-- The next face of a sheaf and its block.
use Rattle.std.proofs.Common.{◌≡◌, ◌≢◌, ℕ, ◌*◌, ◌<◌, List, length, get_or, slice_get, None, Some, refl, sym, ap, ◌∙◌}
use Rattle.std.proofs.Common.{subst, arith}
use Rattle.std.proofs.Math.Nat.{zero-mul, mul-zero}
use Rattle.std.proofs.lemmas.Option.{slice_get_read}
use Rattle.cell_complex.specs.declared.face.Face.{Face}
use Rattle.cell_complex.specs.Invariants.{IsComplex}
use Rattle.dense_blocks.specs.Field.{Ops}
use Rattle.dense_blocks.specs.FieldLaws.{IsField}
use Rattle.dense_blocks.specs.Vectors.{AllScalars}
use Rattle.dense_blocks.specs.Blocks.{matrix_of}
use Rattle.dense_blocks.specs.BlockFacts.{IsBlock}
use Rattle.dense_blocks.specs.declared.block.Block.{Block}
use Rattle.dense_blocks.proofs.BlockLaws.{block-matrix}
use Rattle.square_check.proofs.Placed.{face-fits, all-at}
use Rattle.sheaf_data.specs.Sheaves.{SheafData}
use Rattle.sheaf_data.specs.Drafts.{IsDraft}
use Rattle.sheaf_data.specs.Betti.{signed_matrix}
use Rattle.sheaf_data.specs.Arrows.{numbered_cells}
use Rattle.block_sparse.specs.StoredBlocks.{FitsPair}
use Rattle.block_sparse.specs.Grids.{as_block}
use Rattle.coboundary.specs.Start.{with_stalks}
use Rattle.coboundary.proofs.LiveLaws.{fits-live}
use Rattle.coboundary.proofs.MiddleLaws.{signed_matrix-matrix}
use Rattle.coboundary.proofs.StartLaws.{as_block-empty}

-- f is the face at the place, and b its block
pub record IsNext {F : Type 0} (K : Ops) (d : SheafData F) (place : ℕ) (f : Face) (b : Block) : Type 0 where
  pub face_is : slice_get d.complex.faces place ≡ Some f
  pub block_is : slice_get d.blocks place ≡ Some b
  pub fit : IsDraft K d.complex d.stalks d.blocks

-- what is seen of a draft, and what stands in its fields
pub next_face : {F : Type 0} (ops : F → Ops) (inside d : SheafData F) (place : ℕ) (f : Face) (b : Block)
    (blocks : List Block) → inside ≡ d
    → IsDraft (ops inside.field) inside.complex inside.stalks inside.blocks → slice_get inside.complex.faces place
    ≡ Some f
    → blocks ≡ inside.blocks → b ≡ get_or blocks place b → place < length d.complex.faces
    → IsNext (ops d.field) d place f b
next_face {F} ops inside d place f b blocks e fit is_f is_blocks is_b l =
    let count : length inside.blocks ≡ length inside.complex.faces = fit.blocks_fit.shapes.count in
    let faces : length inside.complex.faces ≡ length d.complex.faces = ap (λ (x : SheafData F). length x.complex.faces)
    e in
    let here : IsNext (ops inside.field) inside place f b = record {
      face_is = is_f;
      block_is = ap (λ (xs : List Block). slice_get xs place) (sym is_blocks)
          ∙ slice_get_read blocks (length blocks) place b refl (omega (arith, ap length is_blocks)) is_b;
      fit = fit;
    } in
    subst (λ (x : SheafData F). IsNext (ops x.field) x place f b) e here

module _ {F : Type 0} (K : Ops) (field : IsField K) (d : SheafData F) (complex : IsComplex d.complex) (place : ℕ)
    (f : Face) (b : Block) (next : IsNext K d place f b) where
  scalars : AllScalars K b.entries
  scalars = all-at (λ (b : Block). AllScalars K b.entries) d.blocks place b next.fit.blocks_fit.scalars next.block_is

  -- a block without entries puts nothing
  pub next-as_block : length b.entries ≡ 0 → as_block (signed_matrix K f.sign (matrix_of b)) ≡ None
  next-as_block e =
      as_block-empty K b.rows b.cols (signed_matrix K f.sign (matrix_of b))
      (signed_matrix-matrix K field b.rows b.cols f.sign (matrix_of b) (block-matrix K b scalars))
      (omega (arith, b.full))

  -- and one with entries goes between live cells
  pub next-fits : (made : Block) → IsBlock made b.rows b.cols (signed_matrix K f.sign (matrix_of b)) → length b.entries
      ≢ 0
      → FitsPair (with_stalks (numbered_cells 0 d.complex.dims d.stalks)) f.s f.t made
  next-fits made is some =
      let shapes = next.fit.blocks_fit.shapes in
      fits-live d.complex.dims d.stalks next.fit.stalks_fit.one_each f made
      (face-fits d.complex complex place f next.face_is)
      (is.rows_are ∙ shapes.rows place f b next.face_is next.block_is)
      (is.columns_are ∙ shapes.cols place f b next.face_is next.block_is)
      (λ e. some (b.full ∙ none-first b.rows b.cols (sym is.rows_are ∙ e)))
      (λ e. some (b.full ∙ none-second b.rows b.cols (sym is.columns_are ∙ e)))
    where
      none-first : (m n : ℕ) → m ≡ 0 → m * n ≡ 0
      none-first m n e = ap (λ k. k * n) e ∙ zero-mul n

      none-second : (m n : ℕ) → n ≡ 0 → m * n ≡ 0
      none-second m n e = ap (λ k. m * k) e ∙ mul-zero m
