use Rattle.std.proofs.Common.{◌≡◌, [], ◌∷◌, ◌++◌, ◌∙◌, ap, rules, append_assoc}
use Rattle.std.specs.Fmt.{decimal}
use Rattle.reply_text.specs.Parts.{spaced_words}
use Rattle.reply_text.specs.Replies.{command_word, answer_words}
use Rattle.reply_text.proofs.Writing.{one_line}
use Rattle.reply_text.proofs.replies.put_first.Goals as goal

pub returns : goal.returns
returns c =
    let out = c.args.out.now.items in
    let words = (118 ∷ decimal c.args.v) ∷ command_word c.args.command.now ∷ answer_words c.args.command.now c.args.event.now in
    let written : c.push-2.new.self.items ≡ out ++ ((decimal c.args.number ++ spaced_words words) ++ 10 ∷ []) =
    search (rules, append_assoc) in
    written ∙ ap (λ text. out ++ text) (one_line (decimal c.args.number) words)
