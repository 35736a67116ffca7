use Rattle.std.proofs.Common.{◌<◌, ◌≤◌, ℕ, ◌&&◌, eqb, length, take, ◌∙◌, sym, refl, arith}
use Rattle.rising_lists.specs.Rising.{has}
use Rattle.rising_lists.proofs.Keyed.{has-at}
use Rattle.reduce_step.proofs.DifferenceLaws.{and_false}
use Rattle.scalar_finish.proofs.PutLaws.{put-none, column-next, column-all}
use Rattle.scalar_finish.proofs.entries.put_column.Goals as goal

pub put_block-requires-clause-cells : goal.put_block-requires-clause-cells
put_block-requires-clause-cells c = c.loop-y.invariant.0 ∙ c.requires.cells

pub put_block-requires-clause-stands : goal.put_block-requires-clause-stands
put_block-requires-clause-stands c =
    let column = c.column-column.result.now in
    let i : ℕ = c.loop-y.y-index in
    let inside : i < length column = omega arith in
    sym (c.column-column.ensures.cells _) ∙ has-at column i inside

pub loop-y-init : goal.loop-y-init
loop-y-init c = (
  refl,
  put-none c.args.b.now (λ s t. eqb c.args.x s && has t (take 0 c.column-column.result.now)) c.args.w.now
      (λ s t. and_false (eqb c.args.x s)),
  λ h. h,
)

pub loop-y-preserved : goal.loop-y-preserved
loop-y-preserved c =
    let column = c.column-column.result.now in
    let i : ℕ = c.loop-y.y-index in
    let inside : i < length column = omega arith in
    let h = c.loop-y.invariant in
    let put = c.in_ok-put_block.ensures in (
      put.live ∙ h.0,
      column-next c.args.b.now c.args.x column i c.args.w.now c.loop-y.w c.put_block.new.w inside h.1 put.put,
      λ none. put.flags (h.2 none),
    )

pub returns-clause-live : goal.returns-clause-live
returns-clause-live c = c.loop-y.invariant.0

pub returns-clause-put : goal.returns-clause-put
returns-clause-put c =
    let column = c.column-column.result.now in
    let i : ℕ = c.loop-y.y-index in
    let end : length column ≤ i = omega arith in
    column-all c.args.b.now c.args.x column i c.args.w.now c.loop-y.w c.column-column.ensures.cells end
    c.loop-y.invariant.1

pub returns-clause-flags : goal.returns-clause-flags
returns-clause-flags c = c.loop-y.invariant.2
