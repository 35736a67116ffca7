use Rattle.std.proofs.Common.{◌++◌, ◌+◌, ◌*◌, ◌%◌, ap, ◌∙◌, arith}
use Rattle.dense_blocks.proofs.VectorLaws.{zeros-more, take-zeros}
use Rattle.dense_blocks.proofs.entries.Entries.push_zeros.Goals as goal

pub loop-added-preserved : goal.loop-added-preserved
loop-added-preserved c =
    zeros-more c.args.self.now c.loop-added.self c.push_all.new.self (c.loop-added._added * 16) 16
    ((c.loop-added._added + 1) * 16) c.loop-added.invariant c.in_ok-push_all.ensures.ok (omega arith)

pub returns : goal.returns
returns c =
    zeros-more c.args.self.now c.loop-added.self c.push_all-2.new.self (c.loop-added._added * 16) (c.args.count % 16)
    c.args.count c.loop-added.invariant
    (c.in_ok-push_all-2.ensures.ok
    ∙ ap (λ t. c.loop-added.self ++ t) (take-zeros (c.args.count % 16) 16 (omega arith)))
    (omega arith)
