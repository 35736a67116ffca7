use Rattle.std.proofs.Common.{◌∙◌, sym, arith}
use Rattle.std.proofs.lemmas.Bool.{le-ltb}
use Rattle.block_sparse.proofs.CompareLaws.{listed-at, listed-absent}
use Rattle.block_sparse.proofs.comparison.is_listed.Goals as goal

pub returns-then-at-listed : goal.returns-then-at-listed
returns-then-at-listed c =
    let at = c.count_listed_below-at in
    listed-at c.args.listed.now c.args.c at.result c.requires at.ensures.below at.ensures.from c.if-at-listed.true

pub returns-else-at-listed : goal.returns-else-at-listed
returns-else-at-listed c =
    let at = c.count_listed_below-at in
    le-ltb _ _ c.if-at-listed.false
    ∙ sym (listed-absent c.args.listed.now c.args.c at.result c.requires at.ensures.below at.ensures.from
    (λ l. absurd (omega (arith, l, c.if-at-listed.false))))
