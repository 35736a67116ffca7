use Rattle.std.proofs.Common.{◌≡◌, ◌∙◌, sym, subst, length, map, get_or, arith, ℕ, Some, None}
use Rattle.std.proofs.Common.{◌<◌, ◌+◌, set, List}
use Rattle.std.proofs.lemmas.List.{length-map, get_or-map, get_or_default}
use Rattle.rising_lists.specs.Rising.{keys, nonzero_entry, past}
use Rattle.rising_lists.proofs.MergeLaws.{Merging, merging-kept, merging-put, merging-none, merging-done, value-fresh}
use Rattle.rising_lists.proofs.MergeLaws.{value-there, value-none}
use Rattle.rising_lists.proofs.merges.merge_entries.Goals.{then-entries-j-ne0, else-entries-j-ne0}
use Rattle.rising_lists.proofs.merges.merge_entries.Goals as goal

pub loop-j-preserved-then-is_kept : goal.loop-j-preserved-then-is_kept
loop-j-preserved-then-is_kept c =
    let listed = c.args.listed.now in
    let es = c.args.entries.now in
    let size : length (keys listed) ≡ length listed = length-map listed (λ s. s.0) in
    let fresh_full : length (map nonzero_entry es) ≡ length (keys listed) =
    length-map es nonzero_entry ∙ c.requires.listed_full ∙ sym size in
    let kept = c.is_kept.ensures.kept c.if-is_kept.true in
    merging-kept c.args.old.now c.args.old_values.now (keys listed) (map nonzero_entry es) c.loop-j.i c.loop-j.j
    c.loop-j.k c.loop-j.cells c.loop-j.values c.requires.rising c.requires.listed_rising c.requires.full fresh_full
    c.loop-j.invariant kept.0 (λ l. kept.1 (omega (arith, l, size))) (get_or c.args.old_values.now c.loop-j.i 0)
    (get_or-same c.args.old_values.now c.loop-j.i (omega (arith, kept.0, c.requires.full)))
  where
    get_or-same : (xs : List ℕ) (i : ℕ) → i < length xs → get_or xs i 0 ≡ get_or xs i (get_or xs i 0)
    get_or-same xs i l = get_or_default xs i 0 (get_or xs i 0) l

pub loop-j-preserved : goal.loop-j-preserved
loop-j-preserved c =
    let old = c.args.old.now in
    let vs = c.args.old_values.now in
    let listed = c.args.listed.now in
    let ks = keys listed in
    let es = c.args.entries.now in
    let fresh = map nonzero_entry es in
    let i : ℕ = c.loop-j.i in
    let j : ℕ = c.loop-j.j in
    let size : length ks ≡ length listed = length-map listed (λ s. s.0) in
    let fresh_full : length fresh ≡ length ks =
    length-map es nonzero_entry ∙ c.requires.listed_full ∙ sym size in
    let next = c.is_kept.ensures.listed c.if-is_kept.false in
    let inside : j < length ks = omega (arith, next.0, size) in
    let within : j < length es = omega (arith, next.0, c.requires.listed_full) in
    let key : get_or ks j 0 ≡ (get_or listed j (0, 0)).0 = get_or-map (λ s. s.0) listed j (0, 0) 0 next.0 in
    rw (c.past-i.ensures)
    (subst (λ x. Merging old vs ks fresh (past old i x) (j + 1) c.if-entries-j-ne0.k c.if-entries-j-ne0.cells
    c.if-entries-j-ne0.values) key
    (elim c.if-entries-j-ne0.branch [
      | then-entries-j-ne0 w ↦ rw (w.cells-is, w.values-is, w.k-is)
          (subst (λ x. Merging old vs ks fresh (past old i (get_or ks j 0)) (j + 1) (c.loop-j.k + 1)
          (set c.loop-j.cells c.loop-j.k x) (set c.loop-j.values c.loop-j.k (get_or es j 0))) key
          (merging-put old vs ks fresh i j c.loop-j.k c.loop-j.cells c.loop-j.values c.requires.rising
          c.requires.listed_rising c.requires.full fresh_full c.loop-j.invariant inside next.1 (get_or es j 0)
          (value-fresh nonzero_entry es j (Some (get_or es j 0)) within
          (value-there (get_or es j 0) (get_or es j 0) w.if-entries-j-ne0.true))))
      | else-entries-j-ne0 w ↦ rw (w.cells-is, w.values-is, w.k-is)
          (merging-none old vs ks fresh i j c.loop-j.k c.loop-j.cells c.loop-j.values c.requires.rising
          c.requires.listed_rising c.requires.full fresh_full c.loop-j.invariant inside next.1
          (value-fresh nonzero_entry es j None within
          (value-none (get_or es j 0) (get_or es j 0) w.if-entries-j-ne0.false)))
    ]))

pub returns : goal.returns
returns c =
    let listed = c.args.listed.now in
    let es = c.args.entries.now in
    let size : length (keys listed) ≡ length listed = length-map listed (λ s. s.0) in
    let fresh_full : length (map nonzero_entry es) ≡ length (keys listed) =
    length-map es nonzero_entry ∙ c.requires.listed_full ∙ sym size in
    merging-done c.args.old.now c.args.old_values.now (keys listed) (map nonzero_entry es) c.loop-j.i c.loop-j.j
    c.loop-j.k c.loop-j.cells c.loop-j.values c.requires.rising c.requires.listed_rising c.requires.full fresh_full
    c.loop-j.invariant (omega arith) (omega (arith, size))
