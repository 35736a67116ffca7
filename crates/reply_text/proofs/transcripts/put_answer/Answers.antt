use Rattle.std.proofs.Common.{rules, ◌≡◌, ◌++◌, OnOk, Some, slice_get, sym, subst}
use Rattle.reply_text.specs.Parts.{lines_text}
use Rattle.reply_text.proofs.Naming.{answer-is}
use Rattle.reply_text.proofs.transcripts.put_answer.Goals as goal

pub returns : goal.returns
returns c = λ events h.
    let there : slice_get c.args.script.now c.args.counts.ended ≡ Some c.in-Some.command.now = c.in-Some.ensures in
    let is = answer-is c.args.client c.args.script.now events c.args.event.now c.in-Some.command.now c.args.counts
    c.version_named-version.result
    (search rules) h there (c.version_named-version.ensures events c.args.client (search rules) h) in
    subst (λ lines. OnOk c.put_reply.result (c.put_reply.new.out.items ≡ c.args.out.now.items ++ lines_text lines))
    (sym is) c.put_reply.ensures
