use Rattle.std.proofs.Common.{◌≡◌, ◌<◌, ℕ, List, [], ◌∷◌, length, get_or, ap, ◌∙◌, sym, subst, cond, eqb, ◌&&◌, true}
use Rattle.std.proofs.Common.{false, refl}
use Rattle.dense_blocks.specs.Blocks.{matrix_of}
use Rattle.rising_lists.specs.Rising.{has, line_of}
use Rattle.block_complexes.specs.BlockComplexes.{cells}
use Rattle.open_columns.specs.declared.mark.Mark.{Mark}
use Rattle.block_sparse.specs.StoredBlocks.{StoredBlocks, FitsPair, block_at}
use Rattle.block_sparse.specs.Grids.{part, as_block}
use Rattle.block_sparse.proofs.GridLaws.{IsDone, at_pair, block_at-done, sound-done, part-whole}
use Rattle.block_sparse.proofs.EntryLaws.{column-put, entry-done, sized-one, degrees-one}
use Rattle.block_sparse.proofs.blocks.Blocks.push_entry.Goals as goal

pub line-requires : goal.line-requires
line-requires c = c.self.invariant.has_column c.args.s
    (ap (λ v. has c.args.s (cells v.live)) c.self.view_is ∙ c.requires.fits.between.from)

pub push_entry-requires-clause-row : goal.push_entry-requires-clause-row
push_entry-requires-clause-row c = c.self.invariant.has_row c.args.t
    (ap (λ v. has c.args.t (cells v.live)) c.self.view_is ∙ c.requires.fits.between.to)

pub push_entry-requires-clause-behind : goal.push_entry-requires-clause-behind
push_entry-requires-clause-behind c =
    subst (λ (v : StoredBlocks). (i : ℕ) → i < length (line_of v.rows c.args.t).cells
    → get_or (line_of v.rows c.args.t).cells i 0 < c.args.s) (sym c.self.view_is) c.requires.last.behind

pub invariant_of-self-2 : goal.invariant_of-self-2
invariant_of-self-2 c =
    let s : ℕ = c.args.s in
    let t : ℕ = c.args.t in
    let e : ℕ = c.args.entry in
    let b = c.args.b.now in
    let A : List (List ℕ) = (e ∷ []) ∷ [] in
    let left : List (ℕ × ℕ) = (s, 1) ∷ [] in
    let below : List (ℕ × ℕ) = (t, 1) ∷ [] in
    let mark : Mark = record { flagged = false; square = true } in
    let live = c.self.inside.live in
    let rows = c.self.inside.rows in
    let rows' = c.push_entry.new.self in
    let columns = c.self.inside.columns in
    let columns' = c.put_line.new.self in
    let has_column : has s columns.cells ≡ true = c.self.invariant.has_column s
    (ap (λ v. has s (cells v.live)) c.self.view_is ∙ c.requires.fits.between.from) in
    let done : IsDone A left below rows rows' columns columns' =
    entry-done s t e rows rows' columns columns' c.requires.last.nonzero c.in_ok-push_entry.ensures.entries
    (column-put s t columns columns' c.line.result.now c.in_ok-column.column mark has_column c.put_line.ensures.lines
    c.line.ensures c.in_ok-column.ensures) in
    let fits : FitsPair live s t b =
    subst (λ (v : StoredBlocks). FitsPair v.live s t b) (sym c.self.view_is) c.requires.fits in
    sound-done A left below live rows rows' columns columns' done c.self.invariant
    (sized-one live s 1 fits.between.from (sym fits.cols ∙ c.requires.last.one_column))
    (sized-one live t 1 fits.between.to (sym fits.rows ∙ c.requires.last.one_row))
    (degrees-one live s t fits.between.degrees) c.in_ok-push_entry.ensures.cells c.put_line.ensures.cells

pub returns-clause-blocks : goal.returns-clause-blocks
returns-clause-blocks c = λ p q.
    let s : ℕ = c.args.s in
    let t : ℕ = c.args.t in
    let e : ℕ = c.args.entry in
    let b = c.args.b.now in
    let A : List (List ℕ) = (e ∷ []) ∷ [] in
    let left : List (ℕ × ℕ) = (s, 1) ∷ [] in
    let below : List (ℕ × ℕ) = (t, 1) ∷ [] in
    let mark : Mark = record { flagged = false; square = true } in
    let live = c.self.inside.live in
    let rows = c.self.inside.rows in
    let rows' = c.push_entry.new.self in
    let columns = c.self.inside.columns in
    let columns' = c.put_line.new.self in
    let has_column : has s columns.cells ≡ true = c.self.invariant.has_column s
    (ap (λ v. has s (cells v.live)) c.self.view_is ∙ c.requires.fits.between.from) in
    let done : IsDone A left below rows rows' columns columns' =
    entry-done s t e rows rows' columns columns' c.requires.last.nonzero c.in_ok-push_entry.ensures.entries
    (column-put s t columns columns' c.line.result.now c.in_ok-column.column mark has_column c.put_line.ensures.lines
    c.line.ensures c.in_ok-column.ensures) in
    let before : StoredBlocks = record { live = live; rows = rows; columns = columns } in
    block_at-done A left below live rows rows' columns columns' done p q
    ∙ at_pair s t p q (as_block (part left below A p q)) (as_block (matrix_of b)) (block_at before p q)
    (λ i j. ap (λ x. as_block (part left below A x q)) i ∙ ap (λ y. as_block (part left below A s y)) j
    ∙ ap as_block (part-whole s t 1 1 A (refl, tt) ∙ sym c.requires.last.matrix))
    ∙ ap (λ v. cond (eqb p s && eqb q t) (as_block (matrix_of b)) (block_at v p q)) c.self.view_is
