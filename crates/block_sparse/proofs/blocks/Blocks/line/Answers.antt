use Rattle.std.proofs.Common.{ap, ◌∙◌}
use Rattle.rising_lists.specs.Rising.{has}
use Rattle.block_complexes.specs.BlockComplexes.{cells}
use Rattle.block_sparse.proofs.blocks.Blocks.line.Goals as goal

pub row-requires : goal.row-requires
row-requires c = c.self.invariant.has_row c.args.y (ap (λ v. has c.args.y (cells v.live)) c.self.view_is ∙ c.requires)
