use Rattle.std.proofs.Common.{◌≡◌, ap, ◌∙◌, subst, arith, inl, inr}
use Rattle.std.proofs.lemmas.Bool.{cases_lt}
use Rattle.std.specs.Option.{unwrap_or}
use Rattle.block_grids.specs.Joined.{IsSameEntry}
use Rattle.block_grids.proofs.WalkLaws.{next-beyond}
use Rattle.block_grids.proofs.entries.count_same_scalars.Goals as goal

pub loop-i-preserved : goal.loop-i-preserved
loop-i-preserved c = record {
  within = c.entry_from-entry.ensures.within;
  passed = next-beyond c.args.left.now c.args.line.now.cells c.entry_from-entry.result.1 c.loop-i.i c.requires.rising
      c.entry_from-entry.ensures.passed;
  same = λ k l. elim (cases_lt k c.loop-i.i) [
    | inl u ↦ c.loop-i.invariant.same k u
    | inr u ↦
        let e : c.loop-i.i ≡ k = omega arith in
        subst (IsSameEntry c.args.line.now c.args.left.now c.args.there.now) e
        (c.if-there-i.false ∙ c.unwrap_or.ensures ∙ ap (λ o. unwrap_or o 0) c.entry_from-entry.ensures.entry)
  ];
}
