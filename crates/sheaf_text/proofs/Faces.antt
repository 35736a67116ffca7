-- A face more, and a block for it.
use Rattle.std.proofs.Common.{◌≡◌, ℕ, zero, suc, ◌<◌, ◌⊎◌, inl, inr, true, List, [], ◌∷◌, ◌++◌, length, map, drop, All}
use Rattle.std.proofs.Common.{refl, sym, ap, subst, ◌∙◌, arith, Some, nat_lt}
use Rattle.std.specs.Prelude.{slice_get, slice_index}
use Rattle.std.proofs.lemmas.Bool.{and_parts, ltb-true}
use Rattle.std.proofs.lemmas.List.{length-append, map-append}
use Rattle.std.proofs.lemmas.List.Elements.{All-push, All-nil, All-cons}
use Rattle.std.proofs.lemmas.Option.{slice_get_within}
use Rattle.cell_complex.specs.Invariants.{with_face}
use Rattle.cell_complex.specs.declared.face.Face.{Face}
use Rattle.dense_blocks.specs.declared.block.Block.{Block}
use Rattle.dense_blocks.specs.Vectors.{AllScalars}
use Rattle.field_table.specs.Table.{order_of, ops_of}
use Rattle.square_check.specs.Squares.{HaveShapes}
use Rattle.sheaf_data.specs.Drafts.{AreBlocks}
use Rattle.sheaf_text.specs.Cut.{value_of}
use Rattle.sheaf_text.specs.Lines.{face_in}
use Rattle.dense_blocks.specs.Blocks.{WrittenMatrix, written_matrix}
use Rattle.sheaf_text.specs.Forms.{are_below, matrix_in}
use Rattle.sheaf_text.specs.Parts.{AreDraftParts, IsClosed, TakesFace, AddsFace, matrices_of}
use Rattle.sheaf_text.specs.declared.parts.Parts.{Parts}

-- what stands at a place of a list with one more at its end
pushed : {X : Type 0} (xs : List X) (x y : X) (p : ℕ) → slice_get (xs ++ x ∷ []) p ≡ Some y → (slice_get xs p ≡ Some y)
    ⊎ ((p ≡ length xs) × (x ≡ y))
pushed [] x y zero e = inr (refl, cc)
pushed [] x y (suc p) e = absurd cc
pushed (z ∷ xs) x y zero e = inl e
pushed (z ∷ xs) x y (suc p) e = elim (pushed xs x y p e) [ inl l ↦ inl l | inr r ↦ inr (ap suc r.0, r.1) ]

-- a block more, of the shape that the face more asks for
shape_more : (faces : List Face) (blocks : List Block) (f : Face) (b : Block) → length blocks ≡ length faces
    → (side : Block → ℕ) (size : Face → ℕ)
    → ((p : ℕ) (g : Face) (c : Block) → slice_get faces p ≡ Some g → slice_get blocks p ≡ Some c → side c ≡ size g)
    → side b ≡ size f
    → (p : ℕ) (g : Face) (c : Block) → slice_get (faces ++ f ∷ []) p ≡ Some g → slice_get (blocks ++ b ∷ []) p ≡ Some c
    → side c ≡ size g
shape_more faces blocks f b count side size each last p g c at_face at_block =
    elim (pushed faces f g p at_face) [
      | inl l ↦ elim (pushed blocks b c p at_block) [
        | inl m ↦ each p g c l m
        | inr r ↦ absurd (omega (arith, r.0, count, slice_get_within faces p g l))
      ]
      | inr r ↦ elim (pushed blocks b c p at_block) [
        | inl m ↦ absurd (omega (arith, r.0, count, slice_get_within blocks p c m))
        | inr s ↦ ap side (sym s.1) ∙ last ∙ ap size r.1
      ]
    ]

shapes_more : (stalks : List ℕ) (faces : List Face) (blocks : List Block) (f : Face) (b : Block)
    → HaveShapes stalks faces blocks → b.cols ≡ slice_index stalks f.s → b.rows ≡ slice_index stalks f.t
    → HaveShapes stalks (faces ++ f ∷ []) (blocks ++ b ∷ [])
shapes_more stalks faces blocks f b h cols rows = record {
  count = omega (arith, h.count, length-append blocks (b ∷ []), length-append faces (f ∷ []));
  cols = shape_more faces blocks f b h.count (λ c. c.cols) (λ g. slice_index stalks g.s) h.cols cols;
  rows = shape_more faces blocks f b h.count (λ c. c.rows) (λ g. slice_index stalks g.t) h.rows rows;
}

below_all : (order : ℕ) (ws : List (List ℕ)) → are_below order ws ≡ true → All (λ a. a < order) (map value_of ws)
below_all order [] e = All-nil _
below_all order (w ∷ ws) e =
    let p = and_parts (nat_lt (value_of w) order) (are_below order ws) e in
    All-cons (λ a. a < order) (value_of w) (map value_of ws) (ltb-true _ _ p.0) (below_all order ws p.1)

-- the blocks of a block more
pub record IsBlockOf (p : Parts) (ws : List (List ℕ)) (b : Block) : Type 0 where
  pub rows_are : b.rows ≡ slice_index p.stalks.items (face_in ws).t
  pub cols_are : b.cols ≡ slice_index p.stalks.items (face_in ws).s
  pub entries_are : b.entries ≡ map value_of (drop 4 ws)

blocks_more : (p : Parts) (ws : List (List ℕ)) (b : Block) → AreDraftParts p → TakesFace p ws → IsBlockOf p ws b
    → AreBlocks (ops_of p.field) (p.complex.faces ++ face_in ws ∷ []) p.stalks.items (p.blocks.items ++ b ∷ [])
blocks_more p ws b parts takes is = record {
  shapes = shapes_more p.stalks.items p.complex.faces p.blocks.items (face_in ws) b parts.blocks.shapes is.cols_are
      is.rows_are;
  scalars = All-push (λ (c : Block). AllScalars (ops_of p.field) c.entries) p.blocks.items b parts.blocks.scalars
      (subst (λ (es : List ℕ). All (λ a. a < order_of p.field) es) (sym is.entries_are)
      (below_all (order_of p.field) (drop 4 ws) takes.below));
}

matrix_of : (p : Parts) (ws : List (List ℕ)) (b : Block) → IsBlockOf p ws b → written_matrix b
    ≡ matrix_in p.stalks.items ws
matrix_of p ws b is = λ x. record { rows = is.rows_are x; cols = is.cols_are x; entries = is.entries_are x }

-- the parts with a face more, and its block
pub adds_face : (old new : Parts) (ws : List (List ℕ)) (b : Block) → AreDraftParts old → IsClosed old → TakesFace old ws
    → IsBlockOf old ws b
    → new.complex ≡ with_face old.complex (face_in ws) → new.blocks.items ≡ old.blocks.items ++ b ∷ []
    → new.field ≡ old.field → new.dims ≡ old.dims → new.stalks ≡ old.stalks → new.total ≡ old.total
    → AddsFace old new ws
adds_face old new ws b parts closed takes is complex blocks field dims stalks total = record {
  parts = record {
    cells = rw dims parts.cells;
    stalks = rw (dims, stalks) parts.stalks;
    total = rw (total, stalks) parts.total;
    blocks = rw (complex, blocks, field, stalks) (blocks_more old ws b parts takes is);
  };
  closed = rw (complex, dims) closed;
  faces_more = rw complex refl;
  matrices_more = rw blocks (map-append written_matrix old.blocks.items (b ∷ [])
      ∙ ap (λ (m : WrittenMatrix). matrices_of old ++ m ∷ []) (matrix_of old ws b is));
  field_same = field;
  cells = record { dims_same = rw dims refl; stalks_same = rw stalks refl };
}
