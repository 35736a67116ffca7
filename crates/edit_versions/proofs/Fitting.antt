-- What a set keeps: stalks of at most 16, and matrices of scalars from stalk to stalk.
use Rattle.std.proofs.Common.{◌≡◌, ℕ, zero, suc, ◌+◌, ◌*◌, ◌<◌, ◌≤◌, Bool, true, false, not, cond, ◌||◌, nat_eq, nat_lt}
use Rattle.std.proofs.Common.{List, [], ◌∷◌, length, map, set, slice_get, slice_index, None, Some, All, refl, sym, ap}
use Rattle.std.proofs.Common.{◌∙◌, subst, arith, Option, Result, Ok, Err}
use Rattle.std.specs.Option.{option_map_or}
use Rattle.std.specs.List.{list_all, AllZip}
use Rattle.std.proofs.lemmas.Bool.{ltb-true, ltb-false, eqb-true, eqb-false, and_parts}
use Rattle.std.proofs.lemmas.List.{length-set, get_or-set_other}
use Rattle.std.proofs.lemmas.List.Elements.{All-nil, All-cons, All-head, All-tail, All-set}
use Rattle.cell_complex.specs.declared.face.Face.{Face}
use Rattle.cell_complex.specs.Complexes.{CellComplex, joins, is_face}
use Rattle.dense_blocks.specs.Field.{Ops}
use Rattle.dense_blocks.specs.Vectors.{AllScalars, zeros}
use Rattle.dense_blocks.specs.declared.block.Block.{Block}
use Rattle.square_check.specs.Squares.{HaveShapes}
use Rattle.square_check.proofs.Placed.{some-same}
use Rattle.sheaf_data.specs.Drafts.{AreBlocks}
use Rattle.sheaf_words.specs.declared.edit.Set.{Set}
use Rattle.sheaf_words.specs.declared.edit.Set.TheVariants.{Stalk, Restrict}
use Rattle.sheaf_words.specs.declared.edit.Cause.{Cause}
use Rattle.sheaf_words.specs.declared.edit.Cause.TheVariants.{NoCell, NoFace, StalkLimit, Shape, Entry}
use Rattle.edit_versions.specs.declared.work.Work.{Work}
use Rattle.edit_versions.specs.Edits.{SheafLists}
use Rattle.dense_blocks.specs.Blocks.{WrittenMatrix, written_matrix}
use Rattle.edit_versions.specs.Edits.{matrix_between, with_set, set_fault, sets_made}
use Rattle.edit_versions.specs.Works.{IsWork, TakesSet, work_lists, is_end, zero_at, with_replacements}

-- a matrix of scalars that goes from the stalk of the face's cell s to that of its cell t
pub record FitsFace (K : Ops) (stalks : List ℕ) (f : Face) (m : WrittenMatrix) : Type 0 where
  pub cols : m.cols ≡ slice_index stalks f.s
  pub rows : m.rows ≡ slice_index stalks f.t
  pub scalars : AllScalars K m.entries

pub to-zip : (K : Ops) (stalks : List ℕ) (fs : List Face) (bs : List Block) → HaveShapes stalks fs bs
    → All (λ b. AllScalars K b.entries) bs
    → AllZip (FitsFace K stalks) fs (map written_matrix bs)
to-zip K stalks [] [] shapes scalars = _
to-zip K stalks [] (b ∷ bs) shapes scalars = absurd (omega (arith, shapes.count))
to-zip K stalks (f ∷ fs) [] shapes scalars = absurd (omega (arith, shapes.count))
to-zip K stalks (f ∷ fs) (b ∷ bs) shapes scalars = (
  record {
    cols = shapes.cols 0 f b refl refl;
    rows = shapes.rows 0 f b refl refl;
    scalars = All-head (λ b. AllScalars K b.entries) b bs scalars;
  },
  to-zip K stalks fs bs
      (record {
        count = omega (arith, shapes.count);
        cols = λ p. shapes.cols (suc p);
        rows = λ p. shapes.rows (suc p);
      })
      (All-tail (λ b. AllScalars K b.entries) b bs scalars),
)

pub from-zip : (K : Ops) (stalks : List ℕ) (fs : List Face) (bs : List Block)
    → AllZip (FitsFace K stalks) fs (map written_matrix bs) → AreBlocks K fs stalks bs
from-zip K stalks [] [] h = record {
  shapes = record { count = refl; cols = λ p f b e g. cc; rows = λ p f b e g. cc };
  scalars = All-nil (λ b. AllScalars K b.entries);
}
from-zip K stalks [] (b ∷ bs) h = absurd h
from-zip K stalks (f ∷ fs) [] h = absurd h
from-zip K stalks (f ∷ fs) (b ∷ bs) h =
    let rest = from-zip K stalks fs bs h.1 in
    record {
      shapes = record { count = ap suc rest.shapes.count; cols = cols rest.shapes; rows = rows rest.shapes };
      scalars = All-cons (λ b. AllScalars K b.entries) b bs h.0.scalars rest.scalars;
    }
  where
    cols : HaveShapes stalks fs bs → (p : ℕ) (g : Face) (d : Block) → slice_get (f ∷ fs) p ≡ Some g
        → slice_get (b ∷ bs) p ≡ Some d → d.cols ≡ slice_index stalks g.s
    cols rest zero g d e i = ap (λ x. x.cols) (sym (some-same b d i)) ∙ h.0.cols
        ∙ ap (λ x. slice_index stalks x.s) (some-same f g e)
    cols rest (suc p) g d e i = rest.cols p g d e i

    rows : HaveShapes stalks fs bs → (p : ℕ) (g : Face) (d : Block) → slice_get (f ∷ fs) p ≡ Some g
        → slice_get (b ∷ bs) p ≡ Some d → d.rows ≡ slice_index stalks g.t
    rows rest zero g d e i = ap (λ x. x.rows) (sym (some-same b d i)) ∙ h.0.rows
        ∙ ap (λ x. slice_index stalks x.t) (some-same f g e)
    rows rest (suc p) g d e i = rest.rows p g d e i

zip-replaced : (R S : Face → WrittenMatrix → Type 0) (p : Face → Bool) (make : Face → WrittenMatrix) (fs : List Face)
    (ms : List WrittenMatrix)
    → ((f : Face) (m : WrittenMatrix) → R f m → S f (cond (p f) (make f) m)) → AllZip R fs ms
    → AllZip S fs (with_replacements p make fs ms)
zip-replaced R S p make [] [] step h = h
zip-replaced R S p make [] (m ∷ ms) step h = absurd h
zip-replaced R S p make (f ∷ fs) [] step h = absurd h
zip-replaced R S p make (f ∷ fs) (m ∷ ms) step h = (step f m h.0, zip-replaced R S p make fs ms step h.1)

zeros-scalars : (K : Ops) → 0 < K.order → (n : ℕ) → AllScalars K (zeros n)
zeros-scalars K l zero = All-nil (λ a. a < K.order)
zeros-scalars K l (suc n) = All-cons (λ a. a < K.order) 0 (zeros n) l (zeros-scalars K l n)

all-below : (K : Ops) (xs : List ℕ) → list_all (λ a. nat_lt a K.order) xs ≡ true → AllScalars K xs
all-below K [] e = All-nil (λ a. a < K.order)
all-below K (x ∷ xs) e =
    let p = and_parts (nat_lt x K.order) (list_all (λ a. nat_lt a K.order) xs) e in
    All-cons (λ a. a < K.order) x xs (ltb-true x K.order p.0) (all-below K xs p.1)

stalk-low : (K : Ops) (c : CellComplex) (stalks : List ℕ) (i s n : ℕ) → set_fault K c stalks i (Stalk s n) ≡ None → n
    ≤ 16
stalk-low K c stalks i s n e = ltb-false 16 n (by (nat_lt s (length c.dims)) (nat_lt 16 n) e)
  where
    by : (a b : Bool) → cond (not a) (Some (NoCell i)) (cond b (Some (StalkLimit i)) None) ≡ None → b ≡ false
    by true true h = cc
    by true false h = refl
    by false b h = cc

entries-scalars : (K : Ops) (c : CellComplex) (stalks : List ℕ) (i s t : ℕ) (entries : List ℕ)
    → set_fault K c stalks i (Restrict s t entries) ≡ None → AllScalars K entries
entries-scalars K c stalks i s t entries e =
    all-below K entries
    (by (is_face c s t) (nat_eq (length entries) (slice_index stalks t * slice_index stalks s))
    (list_all (λ a. nat_lt a K.order) entries) e)
  where
    by : (a b d : Bool) → cond (not a) (Some (NoFace i))
        (cond (not b) (Some (Shape i)) (cond (not d) (Some (Entry i)) None)) ≡ None → d ≡ true
    by true true true h = refl
    by true true false h = cc
    by true false d h = cc
    by false b d h = cc

fits-after-stalk : (K : Ops) → 0 < K.order → (stalks : List ℕ) (s n : ℕ) (f : Face) (m : WrittenMatrix)
    → FitsFace K stalks f m
    → FitsFace K (set stalks s n) f (cond (is_end s f) (zero_at (set stalks s n) f) m)
fits-after-stalk K l stalks s n f m h = by (nat_eq s f.s) (nat_eq s f.t) (eqb-false s f.s) (eqb-false s f.t)
  where
    by : (a b : Bool) → (a ≡ false → s ≡ f.s → ⊥) → (b ≡ false → s ≡ f.t → ⊥)
        → FitsFace K (set stalks s n) f (cond (a || b) (zero_at (set stalks s n) f) m)
    by true b x y = record { cols = refl; rows = refl; scalars = zeros-scalars K l _ }
    by false true x y = record { cols = refl; rows = refl; scalars = zeros-scalars K l _ }
    by false false x y = record {
      cols = h.cols ∙ sym (get_or-set_other stalks s f.s n 0 (λ e. x refl (sym e)));
      rows = h.rows ∙ sym (get_or-set_other stalks s f.t n 0 (λ e. y refl (sym e)));
      scalars = h.scalars;
    }

fits-after-restriction : (K : Ops) (stalks : List ℕ) (s t : ℕ) (entries : List ℕ) → AllScalars K entries
    → (f : Face) (m : WrittenMatrix) → FitsFace K stalks f m
    → FitsFace K stalks f (cond (joins s t f) (matrix_between stalks s t entries) m)
fits-after-restriction K stalks s t entries scalars f m h = by (joins s t f) refl
  where
    by : (b : Bool) → joins s t f ≡ b → FitsFace K stalks f (cond b (matrix_between stalks s t entries) m)
    by true e =
        let p = and_parts (nat_eq s f.s) (nat_eq t f.t) e in
        record {
          cols = ap (slice_index stalks) (eqb-true s f.s p.0);
          rows =
              ap (slice_index stalks) (eqb-true t f.t p.1);
          scalars = scalars;
        }
    by false e = h

-- lists that fit a complex: a stalk of at most 16 for each cell, and for each face a matrix of scalars from stalk to
-- stalk
pub record FitComplex (K : Ops) (c : CellComplex) (l : SheafLists) : Type 0 where
  pub one_each : length l.stalks ≡ length c.dims
  pub low : All (λ size. size ≤ 16) l.stalks
  pub matrices : AllZip (FitsFace K l.stalks) c.faces l.matrices

-- a set without a fault keeps the lists fitting
set-fits : (K : Ops) → 0 < K.order → (c : CellComplex) (i : ℕ) (x : Set) (l : SheafLists)
    → set_fault K c l.stalks i x ≡ None → FitComplex K c l → FitComplex K c (with_set c l x)
set-fits K o c i (Stalk s n) l e h =
    let stalks : List ℕ = set l.stalks s n in
    record {
      one_each = length-set l.stalks s n ∙ h.one_each;
      low = All-set (λ size. size ≤ 16) l.stalks s n (stalk-low K c l.stalks i s n e) h.low;
      matrices = zip-replaced (FitsFace K l.stalks) (FitsFace K stalks) (is_end s) (zero_at stalks) c.faces l.matrices
          (fits-after-stalk K o l.stalks s n) h.matrices;
    }
set-fits K o c i (Restrict s t entries) l e h = record {
  one_each = h.one_each;
  low = h.low;
  matrices = zip-replaced (FitsFace K l.stalks) (FitsFace K l.stalks) (joins s t)
      (λ f. matrix_between l.stalks s t entries) c.faces l.matrices
      (fits-after-restriction K l.stalks s t entries (entries-scalars K c l.stalks i s t entries e)) h.matrices;
}

-- and so do sets of which none has a fault
pub sets-fit : (K : Ops) → 0 < K.order → (c : CellComplex) (i : ℕ) (xs : List Set) (l m : SheafLists)
    → sets_made K c l i xs ≡ Ok m → FitComplex K c l → FitComplex K c m
sets-fit K o c i [] l m e h = let same : l ≡ m = cc in subst (FitComplex K c) same h
sets-fit K o c i (x ∷ xs) l m e h =
    let parts = made (set_fault K c l.stalks i x) (sets_made K c (with_set c l x) (i + 1) xs) e in
    sets-fit K o c (i + 1) xs (with_set c l x) m parts.1 (set-fits K o c i x l parts.0 h)
  where
    made : (f : Option Cause) (r : Result SheafLists Cause) → option_map_or Err f r ≡ Ok m → (f ≡ None) × (r ≡ Ok m)
    made None r is = (refl, is)
    made (Some cause) r is = absurd cc

-- a set without a fault keeps all that the work promises
pub takes-work : (K : Ops) → 0 < K.order → (c : CellComplex) (i : ℕ) (x : Set) (old new : Work)
    → set_fault K c old.stalks.items i x ≡ None
    → TakesSet c x old new → IsWork K c old → IsWork K c new
takes-work K o c i x old new e h w =
    let before : FitComplex K c (work_lists old) = record {
      one_each = w.one_each;
      low = w.low;
      matrices = to-zip K old.stalks.items c.faces old.blocks.items w.blocks_fit.shapes w.blocks_fit.scalars;
    } in
    let fits : FitComplex K c (work_lists new) =
    subst (FitComplex K c) (sym h.lists) (set-fits K o c i x (work_lists old) e before) in
    record {
      one_each = fits.one_each;
      low = fits.low;
      blocks_fit = from-zip K new.stalks.items c.faces new.blocks.items fits.matrices;
    }

-- one set without a fault, and the rest
pub sets_made-next : (K : Ops) (c : CellComplex) (l next : SheafLists) (i : ℕ) (x : Set) (xs : List Set)
    → set_fault K c l.stalks i x ≡ None
    → next ≡ with_set c l x → sets_made K c next (i + 1) xs ≡ sets_made K c l i (x ∷ xs)
sets_made-next K c l next i x xs e h =
    ap (λ lists. sets_made K c lists (i + 1) xs) h
    ∙ ap (λ o. option_map_or Err o (sets_made K c (with_set c l x) (i + 1) xs)) (sym e)
