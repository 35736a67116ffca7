use Rattle.std.proofs.Common.{subst, rules}
use Rattle.sheaf_text.specs.Readings.{reading}
use Rattle.sheaf_text.specs.Answers.{GivesFault}
use Rattle.sheaf_text.specs.declared.fault.TextFault.{TextFault}
use Rattle.sheaf_run.proofs.RunLaws.{replies_input, replies_line, replies_limit}
use Rattle.sheaf_run.proofs.input.answer_bytes.Goals as goal

pub returns-in-Ok : goal.returns-in-Ok
returns-in-Ok g c = replies_input c.args.job (reading c.args.bytes.now) c.in-Ok.input _ c.in-Ok.ensures.gives
    (search rules) c.answer.ensures

pub returns-in-Err-BadLine : goal.returns-in-Err-BadLine
returns-in-Err-BadLine g c =
    replies_line c.args.job (reading c.args.bytes.now) c.in-Err-BadLine.line _ c.in-Err-BadLine.cause _
    (subst (λ (fault : TextFault). GivesFault fault (reading c.args.bytes.now)) c.in-Err-BadLine.field-0-is
    c.in-Err-BadLine.ensures.gives)
    c.in-Err-BadLine.line-is c.in-Err-BadLine.cause-is c.refuse_line.ensures

pub returns-in-Err-Limit : goal.returns-in-Err-Limit
returns-in-Err-Limit g c =
    replies_limit c.args.job (reading c.args.bytes.now) c.in-Err-Limit.line _ c.in-Err-Limit.which _
    (subst (λ (fault : TextFault). GivesFault fault (reading c.args.bytes.now)) c.in-Err-Limit.field-0-is
    c.in-Err-Limit.ensures.gives)
    c.in-Err-Limit.line-is c.in-Err-Limit.which-is c.refuse_limit.ensures
