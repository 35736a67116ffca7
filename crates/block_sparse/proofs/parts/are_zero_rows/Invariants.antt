use Rattle.std.proofs.Common.{◌≡◌, ◌<◌, ℕ, [], get_or, eqb, true}
use Rattle.std.specs.List.{list_all}
use Rattle.dense_blocks.specs.Blocks.{matrix_of}
use Rattle.block_sparse.specs.Grids.{window}
use Rattle.block_sparse.proofs.parts.are_zero_rows.Given as goal

abbrev pub invariant-loop-i : goal.invariant-loop-i
invariant-loop-i l = (k : ℕ) → k < l.i
    → list_all (λ a. eqb a 0) (get_or (window l.row l.height l.col l.width (matrix_of l.joined)) k []) ≡ true
