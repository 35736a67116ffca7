use Rattle.std.proofs.Common.{◌≡◌, ◌∙◌, Some, sym, subst, ap}
use Rattle.io_edge.specs.Input.{Gave}
use Rattle.sheaf_text.specs.declared.fault.Which.TheVariants as limits
use Rattle.sheaf_text.specs.declared.fault.Refusal.TheVariants.{Over}
use Rattle.sheaf_run.specs.Answers.{Outcome, AnswersJob, bad_line}
use Rattle.sheaf_run.specs.Views.{source_view}
use Rattle.sheaf_run.proofs.RunLaws.{run_from_replies, run_unread, over_bytes}
use Rattle.sheaf_run.proofs.top.answer_source.Goals as goal

pub returns-in-Ok-clause-run : goal.returns-in-Ok-clause-run
returns-in-Ok-clause-run g c =
    let left = g.S.Source.left in
    let faults = g.S.Source.fault_count in
    let read = c.in-Ok.ensures in
    let bytes = c.deref.result.now in
    let same = sym read.gave.2.ok.0 ∙ sym c.deref.ensures.value in
    run_from_replies (AnswersJob (Some c.args.job)) bytes
    (source_view left faults c.args.source.now) (source_view left faults c.read_all.new.source)
    (subst (Gave (left c.args.source.now) (left c.read_all.new.source)) same read.gave.1)
    read.end c.answer_bytes.ensures

pub returns-in-Err-TooLong-clause-run : goal.returns-in-Err-TooLong-clause-run
returns-in-Err-TooLong-clause-run g c =
    let left = g.S.Source.left in
    let faults = g.S.Source.fault_count in
    run_unread (AnswersJob (Some c.args.job)) (λ (a : Outcome). a ≡ bad_line 0 (Over limits.Bytes))
    (source_view left faults c.args.source.now) (source_view left faults c.read_all.new.source)
    (over_bytes c.args.job (left c.args.source.now)
    (c.in-Err-TooLong.ensures.long (cc c.in-Err-TooLong.field-0-is)))
    (λ a e done. let limit = ap (λ (o : Outcome). o.status) e in absurd cc) c.refuse_limit.ensures
