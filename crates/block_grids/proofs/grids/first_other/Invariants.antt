use Rattle.std.proofs.Common.{◌≡◌, length, take}
use Rattle.dense_blocks.specs.Blocks.{matrix_of}
use Rattle.block_sparse.specs.Grids.{width}
use Rattle.block_grids.proofs.OtherLaws.{IsEarliest, SameAt}
use Rattle.block_grids.proofs.grids.first_other.Given as goal

abbrev pub invariant-loop-j : goal.invariant-loop-j
invariant-loop-j l = record {
  row : l.row ≡ width (take l.j l.below);
  first : IsEarliest (SameAt l.b.rows l.left l.below (matrix_of l.joined)) (length l.left) l.j l.end l.at;
}
