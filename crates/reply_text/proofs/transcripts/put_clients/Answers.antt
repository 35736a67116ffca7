use Rattle.std.proofs.Common.{◌≡◌, ◌+◌, ◌∷◌, ◌++◌, [], Some, length, take, slice_get, refl, sym, ap, ◌∙◌, subst, arith}
use Rattle.std.proofs.lemmas.Option.{slice_get_read}
use Rattle.reply_text.specs.Parts.{lines_text, client_part}
use Rattle.reply_text.specs.ClientEvents.{AreAnswered}
use Rattle.reply_text.proofs.Counting.{take_next}
use Rattle.reply_text.proofs.Naming.{parts-more, answered-of}
use Rattle.reply_text.proofs.Bounds.{script-short, versions-short}
use Rattle.reply_text.proofs.transcripts.put_clients.Goals as goal

pub put_part-requires-clause-few : goal.put_part-requires-clause-few
put_part-requires-clause-few c =
    let scripts = c.args.scripts.now in
    let there = slice_get_read scripts (length scripts) c.loop-script.script-index c.script-item.result refl
    c.loop-script-test.true c.script-item.is in
    omega (
      arith,
      ap length c.as_slice.ensures,
      script-short scripts c.loop-script.script-index c.script-item.result there,
      c.requires.few,
    )

pub put_part-requires-clause-few_versions : goal.put_part-requires-clause-few_versions
put_part-requires-clause-few_versions c =
    omega (arith, versions-short c.args.scripts.now c.args.events.now c.requires.of, c.requires.few)

pub put_part-requires-clause-answers : goal.put_part-requires-clause-answers
put_part-requires-clause-answers c =
    let scripts = c.args.scripts.now in
    let i = c.loop-script.script-index in
    let there : slice_get scripts c.loop-script.client ≡ Some c.script-item.result =
    ap (slice_get scripts) c.loop-script.invariant.1 ∙ slice_get_read scripts (length scripts) i c.script-item.result
    refl c.loop-script-test.true c.script-item.is in
    subst (λ script. AreAnswered c.loop-script.client script c.args.events.now) (sym c.as_slice.ensures)
    (answered-of scripts c.args.events.now c.loop-script.client c.script-item.result there c.requires.of)

pub loop-script-preserved : goal.loop-script-preserved
loop-script-preserved c =
    let scripts = c.args.scripts.now in
    let i = c.loop-script.script-index in
    let item = c.script-item.result in
    let events = c.args.events.now in
    let next : take (i + 1) scripts ≡ take i scripts ++ item ∷ [] = take_next scripts i item c.loop-script-test.true
    c.script-item.is in (
      parts-more scripts i item events c.loop-script.client c.args.out.now.items c.loop-script.out.items
          c.put_part.new.out.items
          c.loop-script.invariant.1 (omega (arith, c.loop-script-test.true)) c.loop-script.invariant.0
          (c.in_ok-put_part.ensures
          ∙ ap (λ script. c.loop-script.out.items ++ lines_text (client_part c.loop-script.client script events))
          c.as_slice.ensures) next,
      ap (λ n. n + 1) c.loop-script.invariant.1,
    )
