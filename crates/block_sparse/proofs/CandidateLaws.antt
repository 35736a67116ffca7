-- A block is a candidate where its mark is open.
use Rattle.std.proofs.Common.{◌≡◌, ℕ, Bool, true, false, not, ◌&&◌, refl, sym, ap, ap₂, ◌∙◌, inl, inr, Option, Some}
use Rattle.std.proofs.Common.{None, eqb}
use Rattle.std.specs.Option.{option_map, unwrap_or}
use Rattle.std.proofs.lemmas.Bool.{eq-eqb, ne_eqb, cases_eq}
use Rattle.dense_blocks.specs.declared.block.Block.{Block}
use Rattle.rising_lists.specs.Rising.{entry_of}
use Rattle.open_columns.specs.declared.mark.Mark.{Mark}
use Rattle.open_columns.specs.Open.{is_open}
use Rattle.block_complexes.specs.BlockComplexes.{size_of}
use Rattle.block_sparse.specs.StoredBlocks.{StoredBlocks, FitsPair, stored_block}
use Rattle.block_sparse.specs.Invariants.{IsSound, is_square}
use Rattle.block_sparse.specs.Candidates.{is_candidate, is_unflagged}

-- a mark is open where the block is a candidate
pub open-candidate : (v : StoredBlocks) (s t : ℕ) → IsSound v.live v.rows v.columns → is_open (entry_of v.columns s t)
    ≡ is_candidate v s t
open-candidate v s t sound = go (entry_of v.rows t s) (entry_of v.columns s t) (sound.marks s t)
    (λ b h. sound.blocks_fit s t b h)
  where
    same-size : (m n : ℕ) → eqb m n ≡ eqb n m
    same-size m n = elim (cases_eq m n) [
      | inl e ↦ eq-eqb m n e ∙ sym (eq-eqb n m (sym e))
      | inr d ↦ ne_eqb m n d ∙ sym (ne_eqb n m (λ f. d (sym f)))
    ]

    exchanged : (a b c : Bool) → a ≡ c → (a && b) ≡ (b && c)
    exchanged true true c e = e
    exchanged true false c e = refl
    exchanged false true c e = e
    exchanged false false c e = refl

    go : (o : Option Block) (m : Option Mark) → option_map (λ (m : Mark). m.square) m ≡ option_map is_square o
        → ((b : Block) → o ≡ Some b → FitsPair v.live s t b)
        → is_open m ≡ (is_unflagged (stored_block o m) && eqb (size_of v.live s) (size_of v.live t))
    go None None e fit = refl
    go None (Some m) e fit = cc
    go (Some b) None e fit = cc
    go (Some b) (Some m) e fit =
        let f = fit b refl in
        let same-test : m.square ≡ is_square b = ap (λ o. unwrap_or o true) e in
        exchanged m.square (not m.flagged) (eqb (size_of v.live s) (size_of v.live t))
        (same-test ∙ ap₂ eqb f.rows f.cols ∙ same-size (size_of v.live t) (size_of v.live s))
