use Rattle.std.proofs.Common.{ℕ, ◌+◌, ◌-◌, ◌++◌, ◌∷◌, [], ap, sym, arith, ◌∙◌}
use Rattle.dense_blocks.specs.Vectors.{zeros}
use Rattle.dense_blocks.proofs.Cutting.{first_rows-none, first_rows-size, cut-first_rows}
use Rattle.equivalences.specs.Rows.{unit_rows}
use Rattle.equivalences.proofs.RowLaws.{sized-units, units-next}
use Rattle.equivalences.proofs.rows.unit_block.Goals as goal

pub loop-i-init : goal.loop-i-init
loop-i-init c = c.in_ok-entries.ensures ∙ sym (first_rows-none (unit_rows c.args.count c.args.start c.args.width))

pub loop-i-preserved : goal.loop-i-preserved
loop-i-preserved c =
    let at : ℕ = c.args.start + c.loop-i.i in
    c.in_ok-push_zeros-2.ensures
    ∙ ap (λ t. t ++ zeros (c.args.width - 1 - at))
    (c.in_ok-push.ensures.ok
    ∙ ap (λ t. t ++ 1 ∷ []) (c.in_ok-push_zeros.ensures ∙ ap (λ t. t ++ zeros at) c.loop-i.invariant))
    ∙ sym (units-next c.args.count c.args.start c.args.width c.loop-i.i c.requires.fit c.loop-i-test.true)

pub invariant_of-result-clause-full : goal.invariant_of-result-clause-full
invariant_of-result-clause-full c =
    first_rows-size c.args.count c.args.width c.loop-i.i (unit_rows c.args.count c.args.start c.args.width)
    c.loop-i.entries (sized-units c.args.count c.args.start c.args.width c.requires.fit) (omega arith)
    c.loop-i.invariant

pub returns-clause-matrix : goal.returns-clause-matrix
returns-clause-matrix c =
    cut-first_rows c.args.count c.args.width c.loop-i.i (unit_rows c.args.count c.args.start c.args.width)
    c.loop-i.entries (sized-units c.args.count c.args.start c.args.width c.requires.fit) (omega arith)
    c.loop-i.invariant
