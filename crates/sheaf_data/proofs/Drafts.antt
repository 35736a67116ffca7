-- Blocks that a loop makes one by one, and what a sheaf keeps.
use Rattle.std.proofs.Common.{◌≡◌, ℕ, zero, suc, ◌+◌, ◌*◌, List, [], ◌∷◌, ◌++◌, length, take, get_or, slice_get, Some}
use Rattle.std.proofs.Common.{refl, sym, ap, ◌∙◌, subst, arith, length-append}
use Rattle.std.proofs.lemmas.List.{take_more}
use Rattle.std.proofs.lemmas.List.Elements.{All-append, All-nil, All-cons}
use Rattle.std.proofs.lemmas.Option.{get_or_from_slice_get, slice_get_within}
use Rattle.cell_complex.specs.declared.face.Face.{Face}
use Rattle.cell_complex.specs.Complexes.{CellComplex}
use Rattle.dense_blocks.specs.Field.{Ops}
use Rattle.dense_blocks.specs.FieldLaws.{IsField}
use Rattle.dense_blocks.specs.Vectors.{AllScalars, zeros}
use Rattle.dense_blocks.specs.declared.block.Block.{Block}
use Rattle.dense_blocks.proofs.Cutting.{flat, flat-zero_matrix}
use Rattle.dense_blocks.proofs.BlockLaws.{block-entries}
use Rattle.dense_blocks.proofs.Shapes.{vector-scalars}
use Rattle.dense_blocks.proofs.VectorLaws.{zeros-vector}
use Rattle.square_check.specs.Squares.{HaveShapes, Commutes}
use Rattle.sheaf_data.specs.declared.fault.SealFault.{SealFault}
use Rattle.sheaf_data.specs.declared.fault.SealFault.TheVariants.{Complex, Noncommuting}
use Rattle.sheaf_data.specs.Refusals.{IsFault}
use Rattle.sheaf_data.specs.Sheaves.{IsSheaf}
use Rattle.sheaf_data.specs.Drafts.{AreBlocks, HasShape, IsZero, AreZeroBlocks, IsDraft}

some-same : {X : Type 0} (x y : X) → Some x ≡ Some y → x ≡ y
some-same x y e = cc

-- what holds of the elements at each place holds with one more at the end of both lists
pairs-next : {X Y : Type 0} (R : X → Y → Type 0) (xs : List X) (ys : List Y) (x : X) (y : Y) → length ys ≡ length xs
    → ((p : ℕ) (a : X) (b : Y) → slice_get xs p ≡ Some a → slice_get ys p ≡ Some b → R a b) → R x y
    → (p : ℕ) (a : X) (b : Y) → slice_get (xs ++ x ∷ []) p ≡ Some a → slice_get (ys ++ y ∷ []) p ≡ Some b → R a b
pairs-next R [] [] x y size h new zero a b i j =
    subst (R a) (some-same y b j) (subst (λ t. R t y) (some-same x a i) new)
pairs-next R [] [] x y size h new (suc p) a b i j = cc
pairs-next R [] (v ∷ ys) x y size h new p a b i j = absurd (omega arith)
pairs-next R (u ∷ xs) [] x y size h new p a b i j = absurd (omega arith)
pairs-next R (u ∷ xs) (v ∷ ys) x y size h new zero a b i j = h 0 a b i j
pairs-next R (u ∷ xs) (v ∷ ys) x y size h new (suc p) a b i j =
    pairs-next R xs ys x y (omega arith) (λ q c d k l. h (suc q) c d k l) new p a b i j

pub shapes-next : (stalks : List ℕ) (faces : List Face) (blocks : List Block) (f : Face) (b : Block)
    → HaveShapes stalks faces blocks → HasShape stalks f b
    → HaveShapes stalks (faces ++ f ∷ []) (blocks ++ b ∷ [])
shapes-next stalks faces blocks f b h new =
    let both = pairs-next (HasShape stalks) faces blocks f b h.count
    (λ p g d i j. record { cols = h.cols p g d i j; rows = h.rows p g d i j }) new in
    record {
      count = omega (arith, h.count, length-append faces (f ∷ []), length-append blocks (b ∷ []));
      cols = λ p g d i j. (both p g d i j).cols;
      rows = λ p g d i j. (both p g d i j).rows;
    }

-- the zero blocks of one more face
pub zero_blocks-next : (faces : List Face) (stalks : List ℕ) (blocks : List Block) (i : ℕ) (f : Face) (b : Block)
    → AreZeroBlocks (take i faces) stalks blocks
    → slice_get faces i ≡ Some f → HasShape stalks f b → IsZero b → AreZeroBlocks (take (i + 1) faces) stalks
    (blocks ++ b ∷ [])
zero_blocks-next faces stalks blocks i f b h is shape empty =
    let more : take (i + 1) faces ≡ take i faces ++ f ∷ [] =
    take_more faces i f (slice_get_within faces i f is)
    ∙ ap (λ g. take i faces ++ g ∷ []) (get_or_from_slice_get faces i f f is) in
    subst (λ fs. AreZeroBlocks fs stalks (blocks ++ b ∷ [])) (sym more) (record {
      shapes = shapes-next stalks (take i faces) blocks f b h.shapes shape;
      zero = All-append IsZero blocks (b ∷ []) h.zero (All-cons IsZero b [] empty (All-nil IsZero));
    })

-- zeros are scalars
zero-scalars : (K : Ops) → IsField K → (b : Block) → IsZero b → AllScalars K b.entries
zero-scalars K F b h =
    let is : zeros (b.rows * b.cols) ≡ b.entries = sym (flat-zero_matrix b.rows b.cols) ∙ sym (ap flat h)
    ∙ block-entries b in
    subst (AllScalars K) is (vector-scalars K (b.rows * b.cols) (zeros (b.rows * b.cols))
    (zeros-vector K F (b.rows * b.cols)))

pub zero_blocks-fit : (K : Ops) → IsField K → (faces : List Face) (stalks : List ℕ) (blocks : List Block)
    → AreZeroBlocks faces stalks blocks
    → AreBlocks K faces stalks blocks
zero_blocks-fit K F faces stalks blocks h =
    record { shapes = h.shapes; scalars = λ k d l. zero-scalars K F (get_or blocks k d) (h.zero k d l) }

-- a sheaf with other stalks and blocks, whose squares commute
pub sheaf-replaced : (K : Ops) (c : CellComplex) (stalks stalks' : List ℕ) (blocks blocks' : List Block)
    → IsSheaf K c stalks blocks → IsDraft K c stalks' blocks'
    → ((s u : ℕ) → Commutes K c blocks' s u) → IsSheaf K c stalks' blocks'
sheaf-replaced K c stalks stalks' blocks blocks' h fits commutes = record {
  regular = h.regular;
  one_each = fits.stalks_fit.one_each;
  low = fits.stalks_fit.low;
  few = fits.stalks_fit.few;
  shapes = fits.blocks_fit.shapes;
  scalars = fits.blocks_fit.scalars;
  commutes = commutes;
}

-- what has a fault is no sheaf
pub fault-refutes : (K : Ops) (c : CellComplex) (stalks : List ℕ) (blocks : List Block) (fault : SealFault)
    → IsFault K c blocks fault → IsSheaf K c stalks blocks → ⊥
fault-refutes K c stalks blocks (Complex fault) h sheaf = h.0 sheaf.regular
fault-refutes K c stalks blocks (Noncommuting s u) h sheaf = h.1.fails (sheaf.commutes s u)
