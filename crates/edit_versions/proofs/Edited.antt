-- The edited sheaf is a sheaf.
use Rattle.std.proofs.Common.{◌≡◌, ℕ, ◌≤◌, Bool, true, false, nat_lt, List, length, map, sum, Option, None, Some}
use Rattle.std.proofs.Common.{MatchResult, MatchBool, refl, sym, subst, arith}
use Rattle.std.proofs.lemmas.Bool.{ltb-false}
use Rattle.dense_blocks.specs.Field.{Ops}
use Rattle.dense_blocks.specs.FieldLaws.{IsField}
use Rattle.dense_blocks.specs.declared.block.Block.{Block}
use Rattle.cell_complex.specs.Complexes.{CellComplex}
use Rattle.square_check.specs.Searches.{IsFirstFailure}
use Rattle.square_check.specs.Squares.{Commutes}
use Rattle.sheaf_data.specs.Sheaves.{SheafData, IsSheaf}
use Rattle.sheaf_words.specs.declared.edit.Edit.{Edit}
use Rattle.sheaf_words.specs.declared.edit.Cause.TheVariants.{TotalLimit}
use Rattle.sheaf_words.specs.declared.edit.Verdict.TheVariants.{Accepted, Refused}
use Rattle.edit_versions.specs.Edits.{SheafLists, sheaf_lists}
use Rattle.dense_blocks.specs.Blocks.{written_matrix}
use Rattle.edit_versions.specs.Verdicts.{IsSquareVerdict, IsVerdict, IsEdited}
use Rattle.edit_versions.specs.ListVerdicts.{verdict_on_square, IsListVerdict}
use Rattle.edit_versions.proofs.Fitting.{FitComplex, to-zip, from-zip, sets-fit}
use Rattle.edit_versions.proofs.Unique.{all-written-injective}

-- accepted restrictions: all squares commute
accepted-squares : (K : Ops) (c : CellComplex) (blocks : List Block)
    → IsSquareVerdict K c (map written_matrix blocks) Accepted → (s u : ℕ) → Commutes K c blocks s u
accepted-squares K c blocks h =
    subst (λ bs. (s u : ℕ) → Commutes K c bs s u) (all-written-injective h.blocks blocks h.same)
    (by h.bad h.verdict h.first)
  where
    by : (bad : Option (ℕ × ℕ)) → Accepted ≡ verdict_on_square bad
        → IsFirstFailure (Commutes K c h.blocks) (length c.dims) bad → (s u : ℕ) → Commutes K c h.blocks s u
    by None e first = first
    by (Some p) e first = absurd cc

-- accepted lists: the total is not too large, and the restrictions are accepted
accepted-lists : (K : Ops) (c : CellComplex) (l : SheafLists) → IsListVerdict K c Accepted l
    → (sum l.stalks ≤ 4096) × IsSquareVerdict K c l.matrices Accepted
accepted-lists K c l = by (nat_lt 4096 (sum l.stalks)) (ltb-false 4096 (sum l.stalks))
  where
    by : (b : Bool) → (b ≡ false → sum l.stalks ≤ 4096)
        → MatchBool b (Accepted ≡ Refused TotalLimit) (IsSquareVerdict K c l.matrices Accepted)
        → (sum l.stalks ≤ 4096) × IsSquareVerdict K c l.matrices Accepted
    by true low h = absurd cc
    by false low h = (low refl, h)

-- where the verdict on an edit of a sheaf is Accepted, the edited sheaf is one
pub edited_sheaf : {F : Type 0} (K : Ops) (old new : SheafData F) (edit : Edit) → IsField K
    → IsSheaf K old.complex old.stalks old.blocks → IsVerdict K old edit Accepted → IsEdited K old edit new
    → IsSheaf K new.complex new.stalks new.blocks
edited_sheaf K old new edit field sheaf verdict is =
    let c : CellComplex = old.complex in
    let lists : SheafLists = sheaf_lists new.stalks new.blocks in
    let before : FitComplex K c (sheaf_lists old.stalks old.blocks) = record {
      one_each = sheaf.one_each;
      low = sheaf.low;
      matrices = to-zip K old.stalks c.faces old.blocks sheaf.shapes sheaf.scalars;
    } in
    let fits : FitComplex K c lists =
    sets-fit K (omega (arith, field.order_low)) c 0 edit.sets (sheaf_lists old.stalks old.blocks) lists is.lists before
    in
    let accepted = accepted-lists K c lists
    (subst (λ r. MatchResult r (IsListVerdict K c Accepted) (λ cause. Accepted ≡ Refused cause)) is.lists verdict) in
    let matrices = from-zip K new.stalks c.faces new.blocks fits.matrices in
    subst (λ k. IsSheaf K k new.stalks new.blocks) (sym is.complex) (record {
      regular = sheaf.regular;
      one_each = fits.one_each;
      low = fits.low;
      few = accepted.0;
      shapes = matrices.shapes;
      scalars = matrices.scalars;
      commutes = accepted-squares K c new.blocks accepted.1;
    })
