use Rattle.std.proofs.Common.{◌≡◌, ◌≤◌, ap, ◌∙◌, sym, subst, length, arith}
use Rattle.std.proofs.lemmas.List.{length-map}
use Rattle.std.specs.Vec.Iter.{into_iter_items}
use Rattle.rising_lists.specs.Rising.{IsRising, keys, look, entry, entry_after}
use Rattle.rising_lists.proofs.MergeLaws.{merged-next, merged-all, next-due, next-smaller}
use Rattle.rising_lists.proofs.line.Line.with_fresh.Goals as goal

pub loop-i-smaller : goal.loop-i-smaller
loop-i-smaller g c =
    let s = next-smaller c.as_slice-old.result.now (keys c.args.listed.now) c.loop-i.i c.loop-i.j c.next_cell-c.result
    c.next_cell-c.ensures in
    omega (arith, s, length-map c.args.listed.now (λ s. s.0), c.past-i.ensures, c.past_listed-j.ensures)

pub loop-i-preserved : goal.loop-i-preserved
loop-i-preserved g c =
    let old = c.as_slice-old.result.now in
    let vs = c.self.inside.values.items in
    let ks = keys c.args.listed.now in
    let old_is = c.as_slice-old.ensures.value in
    let rises : IsRising old = subst IsRising (sym old_is) c.self.invariant.rising in
    let full : length vs ≡ length old = c.self.invariant.full ∙ ap length (sym old_is) in
    let fresh_full : length c.args.fresh.items ≡ length ks = c.requires.full
    ∙ sym (length-map c.args.listed.now (λ s. s.0)) in
    let m = c.loop-i.invariant in
    let value = rw c.deref.ensures.value at c.in_ok-value.ensures in
    let next = c.next_cell-c.ensures in
    let rest = into_iter_items c.loop-i.left in
    let others = into_iter_items c.next_value.new.fresh in
    let due = next-due old vs ks c.args.fresh.items rest c.loop-i.i c.loop-i.j c.loop-i.cells.items
    c.loop-i.values.items rises c.requires.rising full fresh_full m c.next_cell-c.result next
    c.in_ok-value.value others c.is_listed-is_listed.result c.is_listed-is_listed.ensures value in
    rw (c.past-i.ensures, c.past_listed-j.ensures)
    (merged-next old vs ks c.args.fresh.items rest c.loop-i.i c.loop-i.j c.loop-i.cells.items c.loop-i.values.items
    rises c.requires.rising full fresh_full m c.next_cell-c.result next
    c.in_ok-value.value others c.append.new.cells.items c.append.new.values.items due c.in_ok-append.ensures.line
    c.in_ok-append.ensures.entries)

pub returns : goal.returns
returns g c = λ q.
    let ks = keys c.args.listed.now in
    let vs = c.self.inside.values.items in
    let n : length ks ≤ c.loop-i.j = omega (arith, length-map c.args.listed.now (λ s. s.0)) in
    merged-all c.as_slice-old.result.now vs ks c.args.fresh.items (into_iter_items c.loop-i.left) c.loop-i.i c.loop-i.j
    c.loop-i.cells.items c.loop-i.values.items c.loop-i.invariant c.if-i-old.false n q
    ∙ ap (λ old. entry_after ks c.args.fresh.items (look q old vs) q) c.as_slice-old.ensures.value
    ∙ ap (λ line. entry_after ks c.args.fresh.items (entry line q) q) c.self.view_is
