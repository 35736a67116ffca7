use Rattle.std.proofs.Common.{subst}
use Rattle.block_sparse.specs.Invariants.{IsSound}
use Rattle.block_sparse.proofs.blocks.Blocks.live.Goals as goal

pub returns-clause-sound : goal.returns-clause-sound
returns-clause-sound c = subst (λ v. IsSound v.live v.rows v.columns) c.self.view_is c.self.invariant
