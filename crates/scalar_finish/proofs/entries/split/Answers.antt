use Rattle.std.proofs.Common.{◌≤◌, ap, ◌∙◌, sym, subst}
use Rattle.block_complexes.specs.BlockComplexes.{live_size}
use Rattle.block_sparse.specs.StoredBlocks.{AreLive, flag_of}
use Rattle.scalar_finish.specs.Splits.{coordinate_cells}
use Rattle.scalar_finish.proofs.NumberLaws.{coordinates-live}
use Rattle.scalar_finish.proofs.PutLaws.{put-split}
use Rattle.scalar_finish.proofs.entries.split.Goals as goal

pub coordinate_cells-requires : goal.coordinate_cells-requires
coordinate_cells-requires c =
    subst (λ ls. live_size ls ≤ 4096) (sym c.live.ensures.live) c.live.ensures.live_cells.total

pub numbers_of-requires : goal.numbers_of-requires
numbers_of-requires c = c.as_slice-listed.ensures.value ∙ c.in_ok-cells.ensures ∙ ap (coordinate_cells 0) c.live.ensures.live

pub of_cells-requires : goal.of_cells-requires
of_cells-requires c =
    subst AreLive (sym (c.as_slice-listed.ensures.value ∙ c.in_ok-cells.ensures ∙ ap (coordinate_cells 0) c.live.ensures.live))
    (coordinates-live c.args.b.now.live c.live.ensures.live_cells)

pub put_columns-requires-clause-cells : goal.put_columns-requires-clause-cells
put_columns-requires-clause-cells c =
    c.in_ok-w.ensures.live ∙ c.as_slice-listed.ensures.value ∙ c.in_ok-cells.ensures
    ∙ ap (coordinate_cells 0) c.live.ensures.live

pub returns-clause-split : goal.returns-clause-split
returns-clause-split c =
    put-split c.args.b.now c.in_ok-w.w c.put_columns.new.w
    (c.in_ok-put_columns.ensures.live ∙ c.in_ok-w.ensures.live ∙ c.as_slice-listed.ensures.value ∙ c.in_ok-cells.ensures
    ∙ ap (coordinate_cells 0) c.live.ensures.live)
    c.in_ok-w.ensures.zero c.in_ok-put_columns.ensures.put

pub returns-clause-flags : goal.returns-clause-flags
returns-clause-flags c = c.in_ok-put_columns.ensures.flags (λ s t. ap flag_of (c.in_ok-w.ensures.zero s t))
