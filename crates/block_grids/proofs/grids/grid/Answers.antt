use Rattle.std.proofs.Common.{◌<◌, ◌≤◌, ◌++◌, ℕ, List, ap, ap₂, ◌*◌, ◌∙◌, sym, subst, length, get_or, arith}
use Rattle.std.proofs.lemmas.List.{take_all}
use Rattle.rising_lists.specs.Rising.{line_of}
use Rattle.block_grids.specs.Joined.{AreShaped, joined_entries, joined_rows}
use Rattle.block_grids.proofs.WalkLaws.{pieces-next}
use Rattle.block_grids.proofs.JoinLaws.{entries-full, joined-parts, rows-shaped, width-live}
use Rattle.block_grids.proofs.grids.grid.Goals as goal

pub total-cols-requires : goal.total-cols-requires
total-cols-requires c =
    let v = c.args.b.now in
    let sound = c.live-cells.ensures.sound in
    omega (
      arith,
      width-live v.live c.args.left.now sound.live_cells.rising c.requires.left_rises c.requires.left_sized,
      sound.live_cells.total,
    )

pub total-rows-requires : goal.total-rows-requires
total-rows-requires c =
    let v = c.args.b.now in
    let sound = c.live-cells.ensures.sound in
    omega (
      arith,
      width-live v.live c.args.below.now sound.live_cells.rising c.requires.below_rises
          c.requires.below_sized,
      sound.live_cells.total,
    )

pub line-requires : goal.line-requires
line-requires c = (c.requires.below_sized c.loop-cell.cell-index (0, 0) (omega arith)).0

pub push_rows-requires-clause-shaped : goal.push_rows-requires-clause-shaped
push_rows-requires-clause-shaped c =
    let below = c.args.below.now in
    let left = c.args.left.now in
    let i : ℕ = c.loop-cell.cell-index in
    let inside : i < length below = omega arith in
    subst (λ l. AreShaped l (get_or below i (0, 0)).1 left) (sym c.line.ensures)
    (rows-shaped c.args.b.now left below c.live-cells.ensures.sound c.requires.left_sized c.requires.below_sized i
    (0, 0) inside)

pub loop-cell-preserved : goal.loop-cell-preserved
loop-cell-preserved c =
    let v = c.args.b.now in
    let below = c.args.below.now in
    let left = c.args.left.now in
    let i : ℕ = c.loop-cell.cell-index in
    let inside : i < length below = omega arith in
    let piece : ℕ × ℕ → List ℕ = λ t. joined_rows (line_of v.rows t.0) left t.1 in
    let x = get_or below i (0, 0) in
    c.in_ok-push_rows.ensures
    ∙ ap (λ l. c.loop-cell.entries ++ joined_rows l left x.1) c.line.ensures
    ∙ ap (λ e. e ++ piece x) c.loop-cell.invariant
    ∙ sym (pieces-next piece below i (0, 0) inside)

pub invariant_of-result : goal.invariant_of-result
invariant_of-result c =
    let v = c.args.b.now in
    let below = c.args.below.now in
    let left = c.args.left.now in
    let sound = c.live-cells.ensures.sound in
    let end : length below ≤ c.loop-cell.cell-index = omega arith in
    record {
      rows_fit = omega (
        arith,
        c.total-rows.ensures,
        width-live v.live below sound.live_cells.rising
            c.requires.below_rises c.requires.below_sized,
        sound.live_cells.total,
      );
      cols_fit = omega (
        arith,
        c.total-cols.ensures,
        width-live v.live left sound.live_cells.rising
            c.requires.left_rises c.requires.left_sized,
        sound.live_cells.total,
      );
      full = entries-full v left below sound c.requires.left_sized c.requires.below_sized c.loop-cell.entries
          (c.loop-cell.invariant ∙ ap (joined_entries v.rows left) (take_all c.loop-cell.cell-index below end))
          ∙ sym (ap₂ (λ m n. m * n) c.total-rows.ensures c.total-cols.ensures);
    }

pub returns-clause-parts : goal.returns-clause-parts
returns-clause-parts c =
    let v = c.args.b.now in
    let below = c.args.below.now in
    let left = c.args.left.now in
    let sound = c.live-cells.ensures.sound in
    let end : length below ≤ c.loop-cell.cell-index = omega arith in
    joined-parts v left below sound c.requires.left_sized c.requires.below_sized c.total-rows.result c.total-cols.result
    c.loop-cell.entries c.total-rows.ensures c.total-cols.ensures
    (c.loop-cell.invariant ∙ ap (joined_entries v.rows left) (take_all c.loop-cell.cell-index below end))
