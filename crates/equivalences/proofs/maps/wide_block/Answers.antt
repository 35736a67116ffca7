use Rattle.std.proofs.Common.{refl, subst, ◌≤◌}
use Rattle.equivalences.proofs.BlockLaws.{wide-block}
use Rattle.equivalences.proofs.maps.wide_block.Goals as goal

pub invariant_of-result-clause-rows_fit : goal.invariant_of-result-clause-rows_fit
invariant_of-result-clause-rows_fit c =
    subst (λ n. n ≤ 4096) (wide-block c.args.count c.args.width c.args.rows.now c.in_ok-block.block c.requires.shape
    c.in_ok-block.ensures).0 c.in_ok-block.block.rows_fit

pub invariant_of-result-clause-full : goal.invariant_of-result-clause-full
invariant_of-result-clause-full c = (wide-block c.args.count c.args.width c.args.rows.now c.in_ok-block.block
    c.requires.shape c.in_ok-block.ensures).1

pub returns : goal.returns
returns c = record {
  rows_are = refl;
  columns_are = refl;
  matrix_is = (wide-block c.args.count c.args.width c.args.rows.now c.in_ok-block.block c.requires.shape
      c.in_ok-block.ensures).2;
}
