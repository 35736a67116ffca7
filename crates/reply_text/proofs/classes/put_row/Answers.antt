use Rattle.std.proofs.Common.{◌≡◌, [], ◌∷◌, ◌++◌, ◌∙◌, map, ap, rules, append_assoc}
use Rattle.std.specs.Fmt.{decimal}
use Rattle.reply_text.specs.Parts.{spaced_words}
use Rattle.reply_text.proofs.Writing.{one_line}
use Rattle.reply_text.proofs.classes.put_row.Goals as goal

pub returns : goal.returns
returns c =
    let out = c.args.out.now.items in
    let words = map decimal c.args.entries.now in
    let written : c.push.new.self.items ≡ out ++ ((c.args.word.now ++ spaced_words words) ++ 10 ∷ []) =
    search (rules, append_assoc) in
    written ∙ ap (λ text. out ++ text) (one_line c.args.word.now words)
