use Rattle.std.proofs.Common.{◌≡◌, [], get_or, sym, ◌∙◌, arith}
use borrow.Author.Count.{below_more}
use Rattle.std.proofs.lemmas.List.Elements.{All-from_get_or}
use Rattle.dense_blocks.specs.Matrices.{cut}
use Rattle.dense_blocks.proofs.Cutting.{cut-size}
use Rattle.dense_blocks.proofs.ClearingLaws.{cut-at}
use Rattle.dense_blocks.proofs.row_operations.row_with_entry.Goals as goal

pub returns-then-rows-i-ne0-clause-not_zero : goal.returns-then-rows-i-ne0-clause-not_zero
returns-then-rows-i-ne0-clause-not_zero c e =
    c.if-rows-i-ne0.true (sym (cut-at c.args.count c.args.width c.loop-i.i c.args.column c.args.rows.now (omega arith)
    (omega arith)) ∙ e)

pub loop-i-preserved : goal.loop-i-preserved
loop-i-preserved c =
    below_more _ _ c.loop-i.invariant
    (cut-at c.args.count c.args.width c.loop-i.i c.args.column c.args.rows.now (omega arith) (omega arith)
    ∙ c.if-rows-i-ne0.false)

pub returns-clause-none : goal.returns-clause-none
returns-clause-none c =
    All-from_get_or (λ r. get_or r c.args.column 0 ≡ 0) (cut c.args.count c.args.width c.args.rows.now) []
    (λ i l. c.loop-i.invariant i (omega (arith, cut-size c.args.count c.args.width c.args.rows.now)))
