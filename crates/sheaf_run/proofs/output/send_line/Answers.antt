use Rattle.std.proofs.Common.{◌≡◌, ℕ, List, subst}
use Rattle.sheaf_run.specs.Answers.{Outcome}
use Rattle.sheaf_run.specs.Replies.{Replies}
use Rattle.sheaf_run.specs.Views.{sink_view}
use Rattle.sheaf_run.proofs.Lines.{line_of_numbers}
use Rattle.sheaf_run.proofs.output.send_line.Goals as goal

pub returns : goal.returns
returns g c =
    let seen = sink_view g.K.Sink.taken g.K.Sink.flushed g.K.Sink.fault_count in
    subst (λ (text : List ℕ). Replies (λ (a : Outcome). a ≡ record { status = c.args.status; text = text })
    (seen c.args.sink.now) (seen c.send_text.new.sink) c.send_text.result)
    (line_of_numbers c.args.words.now c.args.numbers.now) c.send_text.ensures
