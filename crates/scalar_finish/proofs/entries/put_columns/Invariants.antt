use Rattle.std.proofs.Common.{◌≡◌, ◌&&◌, take}
use Rattle.std.specs.Option.{is_some}
use Rattle.rising_lists.specs.Rising.{has}
use Rattle.block_complexes.specs.BlockComplexes.{cells}
use Rattle.block_sparse.specs.StoredBlocks.{block_at}
use Rattle.block_sparse.specs.Flags.{HasNoFlags}
use Rattle.scalar_finish.specs.Entries.{HavePut}
use Rattle.scalar_finish.proofs.entries.put_columns.Given as goal

abbrev pub invariant-loop-cell : goal.invariant-loop-cell
invariant-loop-cell l =
    (l.w.live ≡ l.fn.w.live)
    × HavePut l.b (λ s t. has s (take l.cell-index (cells l.b.live)) && is_some (block_at l.b s t)) l.fn.w l.w
    × (HasNoFlags l.fn.w → HasNoFlags l.w)
