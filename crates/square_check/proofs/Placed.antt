-- The blocks at the places of faces.
use Rattle.std.proofs.Common.{◌≡◌, ℕ, suc, ◌<◌, true, List, [], ◌∷◌, length, get_or, slice_get, slice_index, Option}
use Rattle.std.proofs.Common.{None, Some, All, refl, sym, ap, ◌∙◌, subst, arith}
use Rattle.std.specs.List.{filter_map, cons_option}
use Rattle.std.specs.Option.{option_and_then}
use Rattle.std.proofs.lemmas.Option.{get_or_from_slice_get, slice_get_within}
use Rattle.std.proofs.lemmas.List.Elements.{All-cons}
use Rattle.cell_complex.specs.declared.face.Face.{Face}
use Rattle.cell_complex.specs.Complexes.{CellComplex, is_face}
use Rattle.cell_complex.specs.Invariants.{IsComplex, JoinsCells}
use Rattle.cell_complex.proofs.Places.{placed}
use Rattle.dense_blocks.specs.Field.{Ops}
use Rattle.dense_blocks.specs.Vectors.{AllScalars}
use Rattle.dense_blocks.specs.declared.block.Block.{Block}
use Rattle.square_check.specs.Squares.{restriction}
use Rattle.square_check.specs.TouchedFaces.{AreRestrictions}

-- what holds of each element holds of the one at a place
pub all-at : {X : Type 0} (Q : X → Type 0) (xs : List X) (i : ℕ) (x : X) → All Q xs → slice_get xs i ≡ Some x → Q x
all-at Q xs i x h e = subst Q (get_or_from_slice_get xs i x x e) (h i x (slice_get_within xs i x e))

-- what holds of each answer holds of each kept one
pub all-kept : {X : Type 0} (Q : X → Type 0) (f : ℕ → Option X) (ps : List ℕ)
    → ((k : ℕ) (x : X) → k < length ps → f (get_or ps k 0) ≡ Some x → Q x) → All Q (filter_map f ps)
all-kept Q f [] h = λ k d l. absurd (omega arith)
all-kept {X} Q f (p ∷ ps) h = by (f p) refl (all-kept Q f ps (λ k x l e. h (suc k) x (omega arith) e))
  where
    by : (o : Option X) → f p ≡ o → All Q (filter_map f ps) → All Q (cons_option o (filter_map f ps))
    by None e later = later
    by (Some x) e later = All-cons Q x (filter_map f ps) (h 0 x (omega arith) e) later

pub some-same : {X : Type 0} (x y : X) → Some x ≡ Some y → x ≡ y
some-same x y e = cc

-- the block goes from the stalk of s to that of t
pub record FitsFace (K : Ops) (stalks : List ℕ) (s t : ℕ) (b : Block) : Type 0 where
  pub cols : b.cols ≡ slice_index stalks s
  pub rows : b.rows ≡ slice_index stalks t
  pub scalars : AllScalars K b.entries

pub restriction-fits : (K : Ops) (c : CellComplex) (blocks : List Block) (r : AreRestrictions K c blocks) (s t : ℕ)
    (b : Block) → is_face c s t ≡ true
    → restriction c blocks s t ≡ Some b → FitsFace K r.stalks s t b
restriction-fits K c blocks r s t b h e =
    let p = placed c s t h in
    let here : slice_get blocks p.at ≡ Some b = ap (option_and_then (slice_get blocks)) (sym p.is) ∙ e in
    record {
      cols = r.shapes.cols p.at p.face b p.found here ∙ ap (slice_index r.stalks) p.from;
      rows = r.shapes.rows p.at p.face b p.found here ∙ ap (slice_index r.stalks) p.to;
      scalars = all-at (λ b. AllScalars K b.entries) blocks p.at b r.scalars here;
    }

pub face-fits : (c : CellComplex) → IsComplex c → (p : ℕ) (f : Face) → slice_get c.faces p ≡ Some f
    → JoinsCells c.dims f
face-fits c h p f e = all-at (JoinsCells c.dims) c.faces p f h.fit e
