use Rattle.std.proofs.Common.{◌≡◌, ◌&&◌, take, eqb}
use Rattle.rising_lists.specs.Rising.{has}
use Rattle.block_sparse.specs.Flags.{HasNoFlags}
use Rattle.scalar_finish.specs.Entries.{HavePut}
use Rattle.scalar_finish.proofs.entries.put_column.Given as goal

abbrev pub invariant-loop-y : goal.invariant-loop-y
invariant-loop-y l =
    (l.w.live ≡ l.fn.w.live)
    × HavePut l.b (λ s t. eqb l.x s && has t (take l.y-index l.column)) l.fn.w l.w
    × (HasNoFlags l.fn.w → HasNoFlags l.w)
