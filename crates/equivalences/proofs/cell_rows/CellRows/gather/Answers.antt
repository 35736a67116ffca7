use Rattle.std.specs.List.{flat_map}
use Rattle.std.proofs.Common.{◌≡◌, ◌≤◌, ◌<◌, ◌*◌, ◌++◌, ◌∷◌, [], ℕ, List, ap, sym, ◌∙◌, arith, refl, length, take, get_or}
use Rattle.std.proofs.lemmas.List.{take_all}
use Rattle.dense_blocks.specs.Matrices.{cut}
use Rattle.cochain_vec.specs.declared.cell.Cell.{Cell}
use Rattle.cochain_vec.specs.Complexes.{total_size}
use Rattle.block_complexes.specs.Cochains.{of_degree}
use Rattle.block_complexes.proofs.DegreeLaws.{parts-next, start-within}
use Rattle.equivalences.specs.Rows.{cell_rows_of, entries_of}
use Rattle.equivalences.proofs.CellRowLaws.{gathered-size, gathered-matrix}
use Rattle.equivalences.proofs.cell_rows.CellRows.gather.Goals as goal

pub loop-cell-preserved : goal.loop-cell-preserved
loop-cell-preserved c =
    let live = c.args.live.now in
    let k : ℕ = c.args.k in
    let i : ℕ = c.loop-cell.cell-index in
    let inside : i < length live = c.loop-cell-test.true in
    let piece : Cell → List ℕ = λ t. entries_of (cell_rows_of c.args.self.now t.cell) in
    c.in_ok-push_rows.ensures
    ∙ ap (λ t. t ++ flat_map piece (of_degree k (get_or live i (0, 0, 0) ∷ []))) c.loop-cell.invariant
    ∙ sym (parts-next piece k live i (0, 0, 0) inside)

pub invariant_of-result-clause-rows_fit : goal.invariant_of-result-clause-rows_fit
invariant_of-result-clause-rows_fit c =
    let live = c.args.live.now in
    let whole : total_size (of_degree c.args.k (take (length live) live)) ≡ total_size (of_degree c.args.k live) =
    ap (λ l. total_size (of_degree c.args.k l)) (take_all (length live) live (omega arith)) in
    omega (arith, c.total_of-rows.ensures, whole, start-within c.args.k live (length live), c.requires.live.total)

pub invariant_of-result-clause-full : goal.invariant_of-result-clause-full
invariant_of-result-clause-full c =
    let live = c.args.live.now in
    let k : ℕ = c.args.k in
    let end : length live ≤ c.loop-cell.cell-index = c.loop-cell-test.false in
    let rows : Cell → List (List ℕ) = λ t. cell_rows_of c.args.self.now t.cell in
    gathered-size c.args.width rows (of_degree k live) c.loop-cell.entries c.requires.shapes
    (c.loop-cell.invariant ∙ ap (λ l. flat_map (λ (t : Cell). entries_of (cell_rows_of c.args.self.now t.cell))
    (of_degree k l)) (take_all c.loop-cell.cell-index live end))
    ∙ ap (λ m. m * c.args.width) (sym c.total_of-rows.ensures)

pub returns : goal.returns
returns c =
    let live = c.args.live.now in
    let k : ℕ = c.args.k in
    let end : length live ≤ c.loop-cell.cell-index = c.loop-cell-test.false in
    let rows : Cell → List (List ℕ) = λ t. cell_rows_of c.args.self.now t.cell in
    record {
      rows_are = c.total_of-rows.ensures;
      columns_are = refl;
      matrix_is = ap (λ m. cut m c.args.width c.loop-cell.entries) c.total_of-rows.ensures
          ∙ gathered-matrix c.args.width rows (of_degree k live) c.loop-cell.entries c.requires.shapes
          (c.loop-cell.invariant ∙ ap (λ l. flat_map (λ (t : Cell). entries_of (cell_rows_of c.args.self.now t.cell))
          (of_degree k l)) (take_all c.loop-cell.cell-index live end));
    }
