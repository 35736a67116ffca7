use Rattle.std.proofs.Common.{◌≡◌, ◌∙◌, ap, sym, subst, length, map, get_or, arith, ℕ, Some, None}
use Rattle.std.proofs.Common.{◌<◌, ◌+◌, ◌*◌, set}
use Rattle.std.proofs.lemmas.List.{length-map, get_or-map}
use Rattle.rising_lists.specs.Rising.{keys, value_if, strided, past}
use Rattle.rising_lists.proofs.MergeLaws.{Merging, merging-start, merging-kept, merging-put, merging-none, merging-done}
use Rattle.rising_lists.proofs.MergeLaws.{value-fresh, value-there, value-none, strided-count, strided-at}
use Rattle.rising_lists.proofs.merges.merge_value.Goals.{then-entries-start-ne0, else-entries-start-ne0}
use Rattle.rising_lists.proofs.merges.merge_value.Goals as goal

pub loop-j-init : goal.loop-j-init
loop-j-init g c =
    let listed = c.args.listed.now in
    let size : length (keys listed) ≡ length listed = length-map listed (λ s. s.0) in
    merging-start c.args.old.now c.args.old_values.now (keys listed)
    (map (value_if c.args.value) (strided c.args.entries.now c.args.start c.args.step (length listed)))
    c.args.cells.now c.args.values.now (omega (arith, c.requires.cell_room, size))
    (omega (arith, c.requires.value_room, size))

pub loop-j-preserved-then-is_kept : goal.loop-j-preserved-then-is_kept
loop-j-preserved-then-is_kept g c =
    let listed = c.args.listed.now in
    let es = strided c.args.entries.now c.args.start c.args.step (length listed) in
    let fresh = map (value_if c.args.value) es in
    let size : length (keys listed) ≡ length listed = length-map listed (λ s. s.0) in
    let fresh_full : length fresh ≡ length (keys listed) =
    length-map es (value_if c.args.value)
    ∙ strided-count c.args.entries.now c.args.start c.args.step (length listed) ∙ sym size in
    let kept = c.is_kept.ensures.kept c.if-is_kept.true in
    merging-kept c.args.old.now c.args.old_values.now (keys listed) fresh c.loop-j.i c.loop-j.j
    c.loop-j.k c.loop-j.cells c.loop-j.values c.requires.rising c.requires.listed_rising c.requires.full fresh_full
    c.loop-j.invariant kept.0 (λ l. kept.1 (omega (arith, l, size))) c.index-old_values-i.result
    c.index-old_values-i.is

pub loop-j-preserved : goal.loop-j-preserved
loop-j-preserved g c =
    let old = c.args.old.now in
    let vs = c.args.old_values.now in
    let listed = c.args.listed.now in
    let ks = keys listed in
    let value = c.args.value in
    let xs = c.args.entries.now in
    let es = strided xs c.args.start c.args.step (length listed) in
    let fresh = map (value_if value) es in
    let i : ℕ = c.loop-j.i in
    let j : ℕ = c.loop-j.j in
    let size : length ks ≡ length listed = length-map listed (λ s. s.0) in
    let count : length es ≡ length listed = strided-count xs c.args.start c.args.step (length listed) in
    let fresh_full : length fresh ≡ length ks = length-map es (value_if value) ∙ count ∙ sym size in
    let next = c.is_kept.ensures.listed c.if-is_kept.false in
    let inside : j < length ks = omega (arith, next.0, size) in
    let within : j < length es = omega (arith, next.0, count) in
    let key : get_or ks j 0 ≡ (get_or listed j (0, 0)).0 = get_or-map (λ s. s.0) listed j (0, 0) 0 next.0 in
    let here : get_or es j 0 ≡ get_or xs (c.args.start + j * c.args.step) 0 =
    strided-at xs c.args.start c.args.step (length listed) j next.0 in
    rw (c.past-i.ensures)
    (subst (λ x. Merging old vs ks fresh (past old i x) (j + 1) c.if-entries-start-ne0.k c.if-entries-start-ne0.cells
    c.if-entries-start-ne0.values) key
    (elim c.if-entries-start-ne0.branch [
      | then-entries-start-ne0 w ↦ rw (w.cells-is, w.values-is, w.k-is)
          (subst (λ x. Merging old vs ks fresh (past old i (get_or ks j 0)) (j + 1) (c.loop-j.k + 1)
          (set c.loop-j.cells c.loop-j.k x) (set c.loop-j.values c.loop-j.k value)) key
          (merging-put old vs ks fresh i j c.loop-j.k c.loop-j.cells c.loop-j.values c.requires.rising
          c.requires.listed_rising c.requires.full fresh_full c.loop-j.invariant inside next.1 value
          (value-fresh (value_if value) es j (Some value) within
          (ap (value_if value) here ∙ value-there value _ w.if-entries-start-ne0.true))))
      | else-entries-start-ne0 w ↦ rw (w.cells-is, w.values-is, w.k-is)
          (merging-none old vs ks fresh i j c.loop-j.k c.loop-j.cells c.loop-j.values c.requires.rising
          c.requires.listed_rising c.requires.full fresh_full c.loop-j.invariant inside next.1
          (value-fresh (value_if value) es j None within
          (ap (value_if value) here ∙ value-none value _ w.if-entries-start-ne0.false)))
    ]))

pub returns : goal.returns
returns g c =
    let listed = c.args.listed.now in
    let es = strided c.args.entries.now c.args.start c.args.step (length listed) in
    let size : length (keys listed) ≡ length listed = length-map listed (λ s. s.0) in
    let fresh_full : length (map (value_if c.args.value) es) ≡ length (keys listed) =
    length-map es (value_if c.args.value)
    ∙ strided-count c.args.entries.now c.args.start c.args.step (length listed) ∙ sym size in
    merging-done c.args.old.now c.args.old_values.now (keys listed) (map (value_if c.args.value) es) c.loop-j.i
    c.loop-j.j c.loop-j.k c.loop-j.cells c.loop-j.values c.requires.rising c.requires.listed_rising c.requires.full
    fresh_full c.loop-j.invariant (omega arith) (omega (arith, size))
