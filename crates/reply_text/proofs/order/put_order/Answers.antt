use Rattle.std.proofs.Common.{◌≡◌, ◌+◌, ◌∷◌, ◌++◌, ◌^◌, ◌<◌, [], take, All, sym, ap, ◌∙◌, subst, arith}
use Rattle.reply_text.specs.Counts.{AreCounted}
use Rattle.reply_text.specs.Parts.{lines_text}
use Rattle.reply_text.proofs.Counting.{take_next}
use Rattle.reply_text.proofs.Naming.{ordered-more, all-placed}
use Rattle.reply_text.proofs.Bounds.{counts-fit}
use Rattle.reply_text.proofs.order.put_order.Goals as goal

pub number_of-number-requires-clause-fits : goal.number_of-number-requires-clause-fits
number_of-number-requires-clause-fits c =
    subst (λ counts. All (λ n. n + 1 < 2 ^ 32) counts) (sym c.as_slice.ensures.value)
    (counts-fit c.args.scripts.now c.args.events.now c.loop-event.event-index c.loop-event.counts.items c.requires.of
    c.loop-event.invariant.1 c.loop-event.invariant.2 c.loop-event-test.true c.requires.few)

pub count_event-requires-clause-fits : goal.count_event-requires-clause-fits
count_event-requires-clause-fits c =
    counts-fit c.args.scripts.now c.args.events.now c.loop-event.event-index c.loop-event.counts.items c.requires.of
    c.loop-event.invariant.1 c.loop-event.invariant.2 c.loop-event-test.true c.requires.few

pub loop-event-preserved : goal.loop-event-preserved
loop-event-preserved c =
    let events = c.args.events.now in
    let i = c.loop-event.event-index in
    let item = c.event-item.result in
    let inv = c.loop-event.invariant in
    let next : take (i + 1) events ≡ take i events ++ item ∷ [] = take_next events i item c.loop-event-test.true
    c.event-item.is in
    let counted : AreCounted (take i events) c.as_slice.result.now = subst (AreCounted (take i events))
    (sym c.as_slice.ensures.value) inv.1 in (
      ordered-more events i item c.number_of-number.result c.args.out.now.items c.loop-event.out.items
          c.put_line.new.out.items
          inv.0 c.in_ok-put_line.ensures (c.number_of-number.ensures (take i events) counted) next,
      subst (λ es. AreCounted es c.count_event.new.counts.items) (sym next)
          (c.count_event.ensures.counted (take i events) inv.1),
      c.count_event.ensures.len ∙ inv.2,
    )

pub returns : goal.returns
returns c =
    c.loop-event.invariant.0 ∙ ap (λ lines. c.args.out.now.items ++ lines_text lines)
    (all-placed c.args.events.now c.loop-event.event-index (omega arith))
