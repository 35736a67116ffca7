use Rattle.std.proofs.Common.{ap₂, add-one, ◌≡◌, ◌<◌, ◌+◌, ℕ, ap, ◌∙◌, sym, cond, eqb, drop, get_or, length}
use Rattle.std.proofs.Common.{length-append, drop-cons, arith, ◌∷◌, []}
use Rattle.std.proofs.lemmas.List.{get_or-map, length-map}
use Rattle.std.specs.Option.{unwrap_or}
use Rattle.rising_lists.specs.Rising.{has, keys, look, line_of}
use Rattle.rising_lists.proofs.Keyed.{has-at}
use Rattle.rising_lists.proofs.LineLaws.{popped, Popped, installed}
use Rattle.block_rows.proofs.rows.Rows.install.Goals as goal

pub loop-row-preserved : goal.loop-row-preserved
loop-row-preserved c =
    let left = c.pop.new.self.items in
    let all = c.args.rows.items in
    let ks = keys c.args.listed.now in
    let n : ℕ = length left in
    let line = c.in-Some.row in
    let grown : length c.loop-row.rows.items ≡ n + 1 = ap length c.in-Some.ensures.items
    ∙ length-append left (line ∷ []) in
    let last : Popped left line c.loop-row.rows.items all = popped left line c.loop-row.rows.items all
    c.in-Some.ensures.items c.loop-row.invariant.left in
    let inside : n < length ks =
    omega (arith, grown, c.loop-row.invariant.some, length-map c.args.listed.now (λ s. s.0)) in
    let cell : ℕ = get_or ks n 0 in
    let here : (get_or c.args.listed.now (length c.as_slice-at.result.now) (0, 0)).0 ≡ cell =
    ap (λ m. (get_or c.args.listed.now m (0, 0)).0) (ap length c.as_slice-at.ensures.value)
    ∙ sym (get_or-map (λ s. s.0) c.args.listed.now n (0, 0) 0
    (omega (arith, inside, length-map c.args.listed.now (λ s. s.0)))) in
    record {
      cells = c.replace_row-old.ensures.cells ∙ c.loop-row.invariant.cells;
      some = omega (arith, grown, c.loop-row.invariant.some);
      left = last.left;
      lines = λ k.
          c.replace_row-old.ensures.lines k
          ∙ ap (λ x. cond (eqb k x) line (line_of c.loop-row.self k)) here
          ∙ ap (cond (eqb k cell) line) (c.loop-row.invariant.lines k)
          ∙ installed k cell line (line_of c.args.self.now k)
          (look k (drop (length c.loop-row.rows.items) ks) (drop (length c.loop-row.rows.items) all))
          ∙ ap₂ (λ xs ys. unwrap_or (look k xs ys) (line_of c.args.self.now k))
          (sym (drop-cons ks n 0 inside ∙ ap (λ m. cell ∷ drop m ks) (sym (grown ∙ add-one n)))) (sym last.next);
    }

pub replace_row-old-requires : goal.replace_row-old-requires
replace_row-old-requires c =
    let left = c.pop.new.self.items in
    let ks = keys c.args.listed.now in
    let n : ℕ = length left in
    let line = c.in-Some.row in
    let grown : length c.loop-row.rows.items ≡ n + 1 = ap length c.in-Some.ensures.items
    ∙ length-append left (line ∷ []) in
    let inside : n < length ks =
    omega (arith, grown, c.loop-row.invariant.some, length-map c.args.listed.now (λ s. s.0)) in
    let here : (get_or c.args.listed.now (length c.as_slice-at.result.now) (0, 0)).0 ≡ get_or ks n 0 =
    ap (λ m. (get_or c.args.listed.now m (0, 0)).0) (ap length c.as_slice-at.ensures.value)
    ∙ sym (get_or-map (λ s. s.0) c.args.listed.now n (0, 0) 0
    (omega (arith, inside, length-map c.args.listed.now (λ s. s.0)))) in
    ap (λ x. has x c.loop-row.self.cells) here ∙ ap (has (get_or ks n 0)) c.loop-row.invariant.cells
    ∙ c.requires.within (get_or ks n 0) (has-at ks n inside)
