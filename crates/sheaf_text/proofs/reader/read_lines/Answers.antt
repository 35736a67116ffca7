use Rattle.std.proofs.Common.{◌∙◌, ◌+◌, sym, ap, subst, arith}
use Rattle.std.proofs.lemmas.Bool.{eqb-true}
use Rattle.sheaf_text.specs.Cut.{words}
use Rattle.sheaf_text.specs.Grammar.{Known}
use Rattle.sheaf_text.specs.Readings.{Reading, run}
use Rattle.sheaf_text.specs.Forms.{contents, known_after}
use Rattle.sheaf_text.specs.Answers.{Gives, GivesFault}
use Rattle.sheaf_text.specs.State.{known_by}
use Rattle.sheaf_text.proofs.Kept.{run-line, run-taken, run-ends}
use Rattle.sheaf_text.proofs.reader.read_lines.Goals as goal

pub returns-in-Err : goal.returns-in-Err
returns-in-Err c =
    let k = known_by c.loop-rest.state in
    let text = c.next_line.result.0.now in
    let line = run-line k c.loop-rest.line c.loop-rest.rest.now text c.next_line.result.1.now c.next_line.ensures.line
    in
    subst (λ (r : Reading). GivesFault c.in-Err.fault r) (sym line ∙ c.loop-rest.invariant.same)
    (c.in-Err.ensures.err (run (known_after k (words text)) (c.loop-rest.line + 1)
    (contents c.next_line.result.1.now)))

pub loop-rest-preserved : goal.loop-rest-preserved
loop-rest-preserved c =
    let k = known_by c.loop-rest.state in
    let takes = c.in-Ok.ensures.ok in
    record {
      sound = takes.sound;
      same = ap (λ (j : Known). run j (c.loop-rest.line + 1) (contents c.next_line.result.1.now)) takes.known
          ∙ run-taken k c.loop-rest.line c.loop-rest.rest.now c.next_line.result.0.now c.next_line.result.1.now
          c.next_line.ensures.line takes.accepted ∙ c.loop-rest.invariant.same;
      within = omega arith;
    }

pub returns : goal.returns
returns c =
    let ends = run-ends (known_by c.loop-rest.state) c.loop-rest.line c.loop-rest.rest.now
    (eqb-true _ _ (sym c.loop-rest-test.ensures)) in
    subst (λ (r : Reading). Gives c.finish.result r) (sym ends ∙ c.loop-rest.invariant.same) c.finish.ensures
