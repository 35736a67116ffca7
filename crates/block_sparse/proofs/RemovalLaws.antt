-- What is left when a cell has gone, and blocks put one after another.
use Rattle.std.proofs.lemmas.List.Elements.{All-filter}
use Rattle.std.proofs.Common.{◌≡◌, ◌≢◌, ℕ, zero, suc, ◌≤◌, ◌+◌, Bool, true, false, cond, not, ◌&&◌, ◌||◌, refl, sym, ap}
use Rattle.std.proofs.Common.{ap₂, ◌∙◌, arith, List, [], ◌∷◌, length, drop, Option, Some, None, eqb}
use Rattle.std.specs.Option.{is_some, option_map}
use Rattle.std.proofs.lemmas.Bool.{eq-eqb}
use Rattle.dense_blocks.specs.declared.block.Block.{Block}
use Rattle.dense_blocks.specs.Blocks.{matrix_of}
use Rattle.rising_lists.specs.Rising.{ByCell, has, entry_of}
use Rattle.open_columns.specs.declared.mark.Mark.{Mark}
use Rattle.block_sparse.specs.StoredBlocks.{StoredBlock, stored_block, AreLive}
use Rattle.block_sparse.specs.Grids.{as_block}
use Rattle.block_sparse.specs.Lists.{with_block, with_blocks}
use Rattle.block_complexes.proofs.WithoutLaws.{without, has-without, still-live, of_cell-without, rising-without}
use Rattle.block_complexes.proofs.WithoutLaws.{total-without}
use Rattle.block_sparse.specs.Invariants.{IsSound, is_square}

live-without : (c : ℕ) (live : List (ℕ × ℕ × ℕ)) → AreLive live → AreLive (without c live)
live-without c live h = record {
  rising = rising-without c live h.rising;
  degrees = All-filter (λ l. not (eqb l.0 c)) (λ l. l.1 ≤ 15) live h.degrees;
  sizes = All-filter (λ l. not (eqb l.0 c)) (λ l. 1 ≤ l.2) live h.sizes;
  total = omega (arith, total-without c live, h.total);
}

apart : {A : Type 0} (a b : Bool) (x : Option A) (y : A) → cond (a || b) None x ≡ Some y → (a ≡ false) × (b ≡ false)
    × (x ≡ Some y)
apart true b x y e = cc
apart false true x y e = cc
apart false false x y e = (refl, refl, e)

not_eq : (x c : ℕ) → eqb x c ≡ false → x ≢ c
not_eq x c h e = let f : eqb x c ≡ true = eq-eqb x c e in cc

-- a block complex without one of its cells
pub sound-without : (c : ℕ) (live : List (ℕ × ℕ × ℕ)) (rows rows' : ByCell (ByCell Block))
    (columns columns' : ByCell (ByCell Mark)) → IsSound live rows columns
    → rows'.cells ≡ rows.cells → columns'.cells ≡ columns.cells
    → ((s t : ℕ) → entry_of rows' t s ≡ cond (eqb s c || eqb t c) None (entry_of rows t s))
    → ((s t : ℕ) → entry_of columns' s t ≡ cond (eqb s c || eqb t c) None (entry_of columns s t))
    → IsSound (without c live) rows' columns'
sound-without c live rows rows' columns columns' sound same_rows same_columns in_rows in_columns = record {
  live_cells = live-without c live sound.live_cells;
  has_row = λ q h. ap (has q) same_rows ∙ sound.has_row q (still-live c live q h);
  has_column = λ q h. ap (has q) same_columns ∙ sound.has_column q (still-live c live q h);
  marks = λ s t.
      ap (option_map (λ (m : Mark). m.square)) (in_columns s t) ∙ both_gone (eqb s c || eqb t c) (entry_of columns s t)
      (entry_of rows t s) (sound.marks s t)
      ∙ ap (option_map is_square) (sym (in_rows s t));
  blocks_fit = λ s t b h.
      let a = apart (eqb s c) (eqb t c) (entry_of rows t s) b (sym (in_rows s t) ∙ h) in
      let fits = sound.blocks_fit s t b a.2 in
      let ns = not_eq s c a.0 in
      let nt = not_eq t c a.1 in
      record {
        between = record {
          from = has-without c live s ns ∙ fits.between.from;
          to = has-without c live t nt ∙ fits.between.to;
          degrees = of_cell-without (λ l. l.1) c live t nt ∙ fits.between.degrees
              ∙ ap (λ n. n + 1) (sym (of_cell-without (λ l. l.1) c live s ns));
        };
        rows = fits.rows ∙ sym (of_cell-without (λ l. l.2) c live t nt);
        cols = fits.cols ∙ sym (of_cell-without (λ l. l.2) c live s ns);
      };
  nonzero = λ s t b h. sound.nonzero s t b (apart (eqb s c) (eqb t c) (entry_of rows t s) b (sym (in_rows s t) ∙ h)).2;
}
  where
    both_gone : (b : Bool) (x : Option Mark) (y : Option Block) → option_map (λ (m : Mark). m.square) x
        ≡ option_map is_square y
        → option_map (λ (m : Mark). m.square) (cond b None x) ≡ option_map is_square (cond b None y)
    both_gone true x y e = refl
    both_gone false x y e = e

pub block_at-without : (b : Bool) (x x' : Option Block) (y y' : Option Mark) → x' ≡ cond b None x → y' ≡ cond b None y
    → stored_block x' y' ≡ cond b None (stored_block x y)
block_at-without true x x' y y' e f = ap₂ stored_block e f
block_at-without false x x' y y' e f = ap₂ stored_block e f

-- a column notes what a row holds
pub some-mark : (x : Option Mark) (y : Option Block) → option_map (λ (m : Mark). m.square) x ≡ option_map is_square y
    → is_some x ≡ is_some y
some-mark None None e = refl
some-mark None (Some y) e = cc
some-mark (Some x) None e = cc
some-mark (Some x) (Some y) e = refl

-- blocks put into what is the same give the same
pub with_blocks-same : (ms : List (ℕ × ℕ × Block)) (blocks blocks' : ℕ → ℕ → Option StoredBlock)
    → ((p q : ℕ) → blocks p q ≡ blocks' p q)
    → (p q : ℕ) → with_blocks blocks ms p q ≡ with_blocks blocks' ms p q
with_blocks-same [] blocks blocks' h p q = h p q
with_blocks-same (m ∷ ms) blocks blocks' h p q =
    with_blocks-same ms (with_block blocks m.0 m.1 (matrix_of m.2)) (with_block blocks' m.0 m.1 (matrix_of m.2))
    (λ x y. ap (cond (eqb x m.0 && eqb y m.1) (as_block (matrix_of m.2))) (h x y)) p q

pub drop-done : {T : Type 0} (n : ℕ) (xs : List T) → length xs ≤ n → drop n xs ≡ []
drop-done zero [] h = refl
drop-done zero (x ∷ xs) h = absurd (omega arith)
drop-done (suc n) [] h = refl
drop-done (suc n) (x ∷ xs) h = drop-done n xs (omega arith)
