use Rattle.std.proofs.Common.{ap₂, add-one, ◌≡◌, ◌<◌, ◌+◌, ℕ, ap, ◌∙◌, sym, cond, eqb, drop, get_or, length}
use Rattle.std.proofs.Common.{length-append, drop-cons, arith, ◌∷◌, []}
use Rattle.std.proofs.lemmas.List.{get_or-map, length-map}
use Rattle.std.specs.Option.{unwrap_or}
use Rattle.rising_lists.specs.Rising.{has, keys, look, line_of}
use Rattle.rising_lists.proofs.Keyed.{has-at}
use Rattle.rising_lists.proofs.LineLaws.{popped, Popped, installed}
use Rattle.open_columns.proofs.columns.Columns.install.Goals as goal

pub loop-column-preserved : goal.loop-column-preserved
loop-column-preserved c =
    let left = c.pop.new.self.items in
    let all = c.args.columns.items in
    let ks = keys c.args.listed.now in
    let n : ℕ = length left in
    let line = c.in-Some.column in
    let grown : length c.loop-column.columns.items ≡ n + 1 = ap length c.in-Some.ensures.items
    ∙ length-append left (line ∷ []) in
    let last : Popped left line c.loop-column.columns.items all = popped left line c.loop-column.columns.items all
    c.in-Some.ensures.items c.loop-column.invariant.left in
    let inside : n < length ks =
    omega (arith, grown, c.loop-column.invariant.some, length-map c.args.listed.now (λ s. s.0)) in
    let cell : ℕ = get_or ks n 0 in
    let here : (get_or c.args.listed.now (length c.as_slice-at.result.now) (0, 0)).0 ≡ cell =
    ap (λ m. (get_or c.args.listed.now m (0, 0)).0) (ap length c.as_slice-at.ensures.value)
    ∙ sym (get_or-map (λ s. s.0) c.args.listed.now n (0, 0) 0
    (omega (arith, inside, length-map c.args.listed.now (λ s. s.0)))) in
    record {
      cells = c.replace_line-old.ensures.cells ∙ c.loop-column.invariant.cells;
      some = omega (arith, grown, c.loop-column.invariant.some);
      left = last.left;
      lines = λ k.
          c.replace_line-old.ensures.lines k
          ∙ ap (λ x. cond (eqb k x) line (line_of c.loop-column.self k)) here
          ∙ ap (cond (eqb k cell) line) (c.loop-column.invariant.lines k)
          ∙ installed k cell line (line_of c.args.self.now k)
          (look k (drop (length c.loop-column.columns.items) ks) (drop (length c.loop-column.columns.items) all))
          ∙ ap₂ (λ xs ys. unwrap_or (look k xs ys) (line_of c.args.self.now k))
          (sym (drop-cons ks n 0 inside ∙ ap (λ m. cell ∷ drop m ks) (sym (grown ∙ add-one n)))) (sym last.next);
    }

pub replace_line-old-requires : goal.replace_line-old-requires
replace_line-old-requires c =
    let left = c.pop.new.self.items in
    let ks = keys c.args.listed.now in
    let n : ℕ = length left in
    let line = c.in-Some.column in
    let grown : length c.loop-column.columns.items ≡ n + 1 = ap length c.in-Some.ensures.items
    ∙ length-append left (line ∷ []) in
    let inside : n < length ks =
    omega (arith, grown, c.loop-column.invariant.some, length-map c.args.listed.now (λ s. s.0)) in
    let here : (get_or c.args.listed.now (length c.as_slice-at.result.now) (0, 0)).0 ≡ get_or ks n 0 =
    ap (λ m. (get_or c.args.listed.now m (0, 0)).0) (ap length c.as_slice-at.ensures.value)
    ∙ sym (get_or-map (λ s. s.0) c.args.listed.now n (0, 0) 0
    (omega (arith, inside, length-map c.args.listed.now (λ s. s.0)))) in
    ap (λ x. has x c.loop-column.self.cells) here ∙ ap (has (get_or ks n 0)) c.loop-column.invariant.cells
    ∙ c.requires.within (get_or ks n 0) (has-at ks n inside)
