use Rattle.std.proofs.Common.{ap, ◌∙◌}
use Rattle.sheaf_text.specs.Lines.{kind_of}
use Rattle.sheaf_text.proofs.Steps.{takes_content, refuses_content}
use Rattle.sheaf_text.proofs.state.State.take_content.Goals as goal

pub returns-in_ok-take_kind-in-Ok-clause-ok : goal.returns-in_ok-take_kind-in-Ok-clause-ok
returns-in_ok-take_kind-in-Ok-clause-ok c =
    takes_content c.args.self.now c.ready.new.self c.args.line.now c.kind_of-kind.result
    c.requires.content (c.kind_of-kind.ensures ∙ ap kind_of c.first.ensures) c.in_ok-ready.ensures
    c.take_kind.new.self c.in-Ok.kind c.in-Ok.ensures.ok c.in_ok-take_kind-in-Ok.ensures

pub returns-in-Err-clause-err : goal.returns-in-Err-clause-err
returns-in-Err-clause-err c =
    refuses_content c.args.self.now c.ready.new.self c.args.line.now c.kind_of-kind.result
    c.requires.content (c.kind_of-kind.ensures ∙ ap kind_of c.first.ensures) c.in_ok-ready.ensures
    c.args.number c.in-Err.refusal c.fault_at.result c.in-Err.ensures.err c.fault_at.ensures
