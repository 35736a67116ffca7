use Rattle.std.proofs.Common.{◌<◌, ◌≤◌, ◌⊎◌, ℕ, get_or, length, arith, inl, inr}
use Rattle.std.proofs.lemmas.Bool.Decides.{nat_tests}
use Rattle.reduce_step.specs.Differences.{IsSized}
use Rattle.reduce_step.proofs.DifferenceLaws.{not-both, first-later, first-none, first-one}
use Rattle.reduce_step.proofs.differences.resized_cell.Goals as goal
use Rattle.reduce_step.proofs.differences.resized_cell.Goals.{else-at-listed-via-then-at-listed+else-listed-at}
use Rattle.reduce_step.proofs.differences.resized_cell.Goals.{then-is_live, else-is_live}
use Rattle.reduce_step.proofs.differences.resized_cell.Goals.{else-at-listed-via-else-at-listed}

pub returns-then-listed-at : goal.returns-then-listed-at
returns-then-listed-at c =
    let live = c.args.b.now.live in
    let x : ℕ = c.args.c in
    let n : ℕ = c.args.size in
    let ls = c.args.listed.now in
    let at = c.count_live-at in
    let one : IsSized live x n ⊎ ((get_or ls at.result (0, 0)).0 < x) = elim c.if-is_live.branch [
      | then-is_live w ↦ inl (c.is_live_as-is_live.ensures.0 w.if-is_live.true)
      | else-is_live w ↦ inr (grind (arith, nat_tests))
    ] in
    first-later live x n ls c.requires.rising c.requires.apart at.result at.ensures.within at.ensures.live
    at.ensures.other c.if-at-listed.true one

pub returns-then-is_live-2 : goal.returns-then-is_live-2
returns-then-is_live-2 c =
    let live = c.args.b.now.live in
    let x : ℕ = c.args.c in
    let n : ℕ = c.args.size in
    let ls = c.args.listed.now in
    let at = c.count_live-at in
    let yes = c.if-is_live-2.true in
    let none : at.result < length ls → ⊥ = λ l. elim c.else-at-listed.branch [
      | else-at-listed-via-then-at-listed+else-listed-at w ↦ elim w.if-is_live.branch [
        | then-is_live w' ↦ grind (arith, nat_tests)
        | else-is_live w' ↦ not-both c.is_live_as-is_live.result yes w'.if-is_live.false
      ]
      | else-at-listed-via-else-at-listed w ↦ absurd (omega arith)
    ] in
    first-none live x n ls c.requires.rising c.requires.apart at.result at.ensures.within at.ensures.live
    at.ensures.other (c.is_live_as-is_live.ensures.0 yes) none

pub returns-else-is_live-2 : goal.returns-else-is_live-2
returns-else-is_live-2 c =
    let live = c.args.b.now.live in
    let x : ℕ = c.args.c in
    let n : ℕ = c.args.size in
    let ls = c.args.listed.now in
    let at = c.count_live-at in
    let not = c.if-is_live-2.false in
    let up : at.result < length ls → x ≤ (get_or ls at.result (0, 0)).0 = λ l. elim c.else-at-listed.branch [
      | else-at-listed-via-then-at-listed+else-listed-at w ↦ elim w.if-is_live.branch [
        | then-is_live w' ↦ not-both c.is_live_as-is_live.result w'.if-is_live.true not
        | else-is_live w' ↦ grind (arith, nat_tests)
      ]
      | else-at-listed-via-else-at-listed w ↦ absurd (omega arith)
    ] in
    first-one live x n ls c.requires.rising c.requires.apart at.result at.ensures.within at.ensures.live
    at.ensures.other
    (λ s. not-both c.is_live_as-is_live.result (c.is_live_as-is_live.ensures.1 s) not) up
