use Rattle.std.proofs.Common.{◌≡◌, map, take}
use Rattle.dense_blocks.specs.MatrixFacts.{identity}
use Rattle.dense_blocks.specs.Solutions.{lists}
use Rattle.plain_bases.specs.Parts.{image}
use Rattle.plain_bases.proofs.columns.columns.Given as goal

abbrev pub invariant-loop-j : goal.invariant-loop-j
invariant-loop-j g l = lists l.all.items ≡ map (image (g.F.Scalars.ops l.f) l.arrows l.source l.target)
    (take l.j (identity l.n))
