use Rattle.std.proofs.Common.{subst}
use Rattle.block_sparse.specs.StoredBlocks.{StandsAt}
use Rattle.pair_commit.proofs.KeptLaws.{stands-same}
use Rattle.pair_commit.proofs.blocks.stands.Goals as goal

pub returns-in-Some : goal.returns-in-Some
returns-in-Some c =
    let v = c.args.b.now in
    let s = c.args.s in
    let t = c.args.t in
    let there = c.in-Some.there.now in
    let block = c.args.block.now in (
      λ same. subst (StandsAt v s t) (c.is_same.ensures.0 same) c.in-Some.ensures,
      λ stands. c.is_same.ensures.1 (stands-same v s t there block c.in-Some.ensures stands),
    )
