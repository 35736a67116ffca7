use Rattle.std.proofs.Common.{◌≡◌, ◌++◌, ◌∷◌, [], false, sym, ◌∙◌, rules}
use Rattle.std.specs.Fmt.{decimal}
use Rattle.reply_text.specs.JoinedMatrices.{entries_between}
use Rattle.reply_text.specs.Parts.{entries_words}
use Rattle.reply_text.proofs.BlockLines.{nonzero-written}
use Rattle.reply_text.proofs.blocks.put_nonzero.Goals as goal

pub returns : goal.returns
returns c =
    let s = c.args.s in
    let t = c.args.t in
    let entries = entries_between c.args.block.now s t in
    let nonzero : c.is_zero_between.result ≡ false = search rules in
    let written : c.push.new.self.items ≡
    (((c.args.out.now.items ++ (c.args.word.now ++ 32 ∷ decimal s.cell)) ++ 32 ∷ decimal t.cell)
    ++ entries_words entries) ++ 10 ∷ [] = search rules in
    nonzero-written c.args.word.now s t entries c.args.out.now.items c.push.new.self.items
    (sym c.is_zero_between.ensures ∙ nonzero) written
