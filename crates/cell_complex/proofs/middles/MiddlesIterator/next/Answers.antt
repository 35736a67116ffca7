use Rattle.std.proofs.Common.{◌≡◌, ◌<◌, [], sym, ap, ◌∙◌, length, arith}
use Rattle.cell_complex.specs.Common.{common}
use Rattle.cell_complex.proofs.Numbers.{common-none, common-less, common-greater, common-equal, rising-rest}
use Rattle.cell_complex.proofs.middles.MiddlesIterator.next.Goals as goal

pub returns-in_err-v-clause-steps : goal.returns-in_err-v-clause-steps
returns-in_err-v-clause-steps c =
    let xs = c.merge.self-inside.cofaces.now in
    let none : common xs c.merge.self-inside.faces.now ≡ [] = common-none xs c.merge.self-inside.faces.now
    c.in_err-v.ensures.cases in
    rw c.from_residual-in_err-v.ensures (sym c.merge.invariant.same ∙ none, none)

pub merge-preserved-then-t-v : goal.merge-preserved-then-t-v
merge-preserved-then-t-v c =
    let l : c.in_ok-t.field-0-0.now < c.in_ok-v.field-0-0.now = omega arith in
    record {
      same = sym (common-less _ _ _ _ _ _ c.in_ok-t.ensures.cases.0 c.in_ok-v.ensures.cases.0
          c.merge.invariant.faces_rise l) ∙ c.merge.invariant.same;
      cofaces_rise = rising-rest _ _ _ c.in_ok-t.ensures.cases.0 c.merge.invariant.cofaces_rise;
      faces_rise = c.merge.invariant.faces_rise;
    }

pub merge-preserved : goal.merge-preserved
merge-preserved c =
    let l : c.in_ok-v.field-0-0.now < c.in_ok-t.field-0-0.now = omega arith in
    record {
      same = sym (common-greater _ _ _ _ _ _ c.in_ok-t.ensures.cases.0 c.in_ok-v.ensures.cases.0
          c.merge.invariant.cofaces_rise l) ∙ c.merge.invariant.same;
      cofaces_rise = c.merge.invariant.cofaces_rise;
      faces_rise = rising-rest _ _ _ c.in_ok-v.ensures.cases.0 c.merge.invariant.faces_rise;
    }

pub invariant_of-self-else-v-t : goal.invariant_of-self-else-v-t
invariant_of-self-else-v-t c = (
  rising-rest _ _ _ c.in_ok-t.ensures.cases.0 c.merge.invariant.cofaces_rise,
  rising-rest _ _ _ c.in_ok-v.ensures.cases.0 c.merge.invariant.faces_rise,
)

pub returns-else-v-t-clause-steps : goal.returns-else-v-t-clause-steps
returns-else-v-t-clause-steps c =
    let e : c.in_ok-t.field-0-0.now ≡ c.in_ok-v.field-0-0.now = omega arith in
    sym c.merge.invariant.same
    ∙ common-equal _ _ _ _ _ _ c.in_ok-t.ensures.cases.0 c.in_ok-v.ensures.cases.0 c.merge.invariant.cofaces_rise e

pub returns-else-v-t-clause-goes : goal.returns-else-v-t-clause-goes
returns-else-v-t-clause-goes c =
    let shorter = ap length (returns-else-v-t-clause-steps c) in
    record { on = λ _. (tt, tt, omega (arith, shorter)); keeps = tt; rests = λ _. tt }
