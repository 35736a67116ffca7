use Rattle.std.proofs.Common.{◌≡◌, ◌+◌, ◌∷◌, ◌++◌, [], length, take, slice_get, refl, sym, subst, append-nil}
use Rattle.std.proofs.lemmas.Option.{slice_get_read}
use Rattle.reply_text.specs.ClientEvents.{IsAnswerTo, IfPresent}
use Rattle.reply_text.specs.Counts.{IsCountOf}
use Rattle.reply_text.proofs.Counting.{take_next}
use Rattle.reply_text.proofs.Naming.{written-more}
use Rattle.reply_text.proofs.Bounds.{ended-fits, standing-fits}
use Rattle.reply_text.proofs.transcripts.put_client.Goals as goal

pub loop-event-init : goal.loop-event-init
loop-event-init c = (sym (append-nil c.args.out.now.items), c.none-counts.ensures c.args.client)

pub put_answer-requires-clause-ended_fits : goal.put_answer-requires-clause-ended_fits
put_answer-requires-clause-ended_fits c =
    ended-fits c.args.client c.args.script.now c.args.events.now c.loop-event.event-index c.loop-event.counts
    c.requires.answers c.loop-event.invariant.1 c.loop-event-test.true c.requires.few

pub put_answer-requires-clause-standing_fits : goal.put_answer-requires-clause-standing_fits
put_answer-requires-clause-standing_fits c =
    standing-fits c.args.client c.args.events.now c.loop-event.event-index c.loop-event.counts c.loop-event.invariant.1
    c.requires.few_versions

pub after-counts-requires-clause-ended_fits : goal.after-counts-requires-clause-ended_fits
after-counts-requires-clause-ended_fits c =
    ended-fits c.args.client c.args.script.now c.args.events.now c.loop-event.event-index c.loop-event.counts
    c.requires.answers c.loop-event.invariant.1 c.loop-event-test.true c.requires.few

pub after-counts-requires-clause-standing_fits : goal.after-counts-requires-clause-standing_fits
after-counts-requires-clause-standing_fits c =
    standing-fits c.args.client c.args.events.now c.loop-event.event-index c.loop-event.counts c.loop-event.invariant.1
    c.requires.few_versions

pub put_answer-requires-clause-answers : goal.put_answer-requires-clause-answers
put_answer-requires-clause-answers c = λ ends.
    let events = c.args.events.now in
    let i = c.loop-event.event-index in
    let there = slice_get_read events (length events) i c.event-item.result refl c.loop-event-test.true c.event-item.is
    in
    subst (λ k. IfPresent (slice_get c.args.script.now k) (λ command. IsAnswerTo command c.event-item.result))
    (sym c.loop-event.invariant.1.ended_is)
    (c.requires.answers i c.event-item.result there ends)

pub loop-event-preserved : goal.loop-event-preserved
loop-event-preserved c =
    let events = c.args.events.now in
    let i = c.loop-event.event-index in
    let item = c.event-item.result in
    let next : take (i + 1) events ≡ take i events ++ item ∷ [] = take_next events i item c.loop-event-test.true
    c.event-item.is in (
      written-more c.args.client c.args.script.now events i item c.args.out.now.items c.loop-event.out.items
          c.put_answer.new.out.items
          c.loop-event.invariant.0 (c.in_ok-put_answer.ensures (take i events) c.loop-event.invariant.1) next,
      subst (λ es. IsCountOf c.args.client es c.after-counts.result) (sym next)
          (c.after-counts.ensures (take i events) c.loop-event.invariant.1),
    )
