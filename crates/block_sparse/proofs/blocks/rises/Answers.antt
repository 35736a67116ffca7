use Rattle.std.proofs.Common.{true, false, ◌≡◌, ◌<◌, ◌-◌, ℕ, length, get_or, arith, inl, inr, subst}
use Rattle.std.proofs.lemmas.Bool.{cases_lt}
use Rattle.block_complexes.specs.BlockComplexes.{cells}
use Rattle.block_complexes.proofs.LiveLaws.{cell-at, length-cells}
use Rattle.block_sparse.proofs.blocks.rises.Goals as goal

pub loop-i-preserved : goal.loop-i-preserved
loop-i-preserved c = λ j k l m.
    let live = c.args.live.now in
    let i : ℕ = c.loop-i.i in
    let inside : i < length live = omega arith in
    elim (cases_lt k i) [
      | inl u ↦ c.loop-i.invariant j k l u
      | inr u ↦
          let e : i ≡ k = omega arith in
          let step : get_or (cells live) (i - 1) 0 < get_or (cells live) i 0 =
          omega (arith, cell-at live (i - 1) (omega arith), cell-at live i inside, c.if-live-i.false) in
          subst (λ n. get_or (cells live) j 0 < get_or (cells live) n 0) e (elim (cases_lt j (i - 1)) [
            | inl v ↦ omega (arith, c.loop-i.invariant j (i - 1) v (omega arith), step)
            | inr v ↦ let f : i - 1 ≡ j = omega arith in subst (λ n. get_or (cells live) n 0 < get_or (cells live) i 0)
                f step
          ])
    ]

pub returns-then-live-i : goal.returns-then-live-i
returns-then-live-i c =
    let live = c.args.live.now in
    let i : ℕ = c.loop-i.i in
    let inside : i < length live = omega arith in (
      λ h. let e : false ≡ true = h in cc,
      λ r.
          absurd (omega (
            arith,
            r (i - 1) i (omega arith) (omega (arith, inside, length-cells live)),
            cell-at live (i - 1) (omega arith),
            cell-at live i inside,
            c.if-live-i.true,
          )),
    )
