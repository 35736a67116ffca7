use Rattle.std.proofs.Common.{◌≡◌, ◌∙◌, ℕ, List, [], ◌∷◌, ap, subst}
use Rattle.std.specs.Prelude.{codes}
use Rattle.sheaf_run.specs.Answers.{Outcome}
use Rattle.sheaf_run.specs.Parts.{text_of_parts}
use Rattle.sheaf_run.specs.Replies.{Replies}
use Rattle.sheaf_run.specs.Views.{sink_view}
use Rattle.sheaf_run.specs.declared.status.Status.TheVariants.{BadLine}
use Rattle.sheaf_run.proofs.Lines.{line_of_cause}
use Rattle.sheaf_run.proofs.refusals.refuse_line.Goals as goal

pub returns : goal.returns
returns g c =
    let seen = sink_view g.K.Sink.taken g.K.Sink.flushed g.K.Sink.fault_count in
    subst (λ (text : List ℕ). Replies (λ (a : Outcome). a ≡ record { status = BadLine; text = text })
    (seen c.args.sink.now) (seen c.send_text.new.sink) c.send_text.result)
    (ap (text_of_parts (codes "bad line") (c.args.line ∷ [])) c.cause_end-end.ensures
    ∙ line_of_cause c.args.line c.args.cause)
    c.send_text.ensures
