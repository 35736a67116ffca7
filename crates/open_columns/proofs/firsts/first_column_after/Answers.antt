use Rattle.std.proofs.Common.{◌≡◌, ◌<◌, ◌+◌, ℕ, true, false, is_some, ap, ◌∙◌, sym, subst, length, get_or, arith, rules}
use Rattle.rising_lists.specs.Rising.{entry}
use Rattle.open_columns.specs.Open.{first_of, IsFirst}
use Rattle.open_columns.proofs.OpenLaws.{first-listed, none-at_all, none-next, unlisted-column, entry-at, nothing}
use Rattle.open_columns.proofs.firsts.first_column_after.Goals as goal
use Rattle.open_columns.proofs.firsts.first_column_after.Goals.{else-cells-i-via-then-cells-i+else-has_open}
use Rattle.open_columns.proofs.firsts.first_column_after.Goals.{else-cells-i-via-else-cells-i}

pub loop-i-init : goal.loop-i-init
loop-i-init c = λ j l a.
    ap is_some (c.requires (get_or c.args.firsts.now.cells j 0) (omega arith) (c.count_below-i.ensures.below j l))

pub loop-i-preserved : goal.loop-i-preserved
loop-i-preserved c =
    let firsts = c.args.firsts.now in
    let i : ℕ = c.loop-i.i in
    let inside : i < length firsts.cells = omega (arith, ap length c.cells-cells.ensures.cells) in
    none-next (λ s. is_some (first_of (entry firsts s))) firsts.cells (c.args.x + 1) i c.loop-i.invariant
    (λ a. elim c.else-cells-i.branch [
      | else-cells-i-via-then-cells-i+else-has_open w ↦
          let failed : w.has_open.result ≡ false = w.if-has_open.false in
          ap (λ o. is_some (first_of o)) (entry-at firsts i nothing c.cells-cells.ensures.line inside)
          ∙ ap (λ vs. is_some (get_or vs i nothing).cell) (sym c.values-values.ensures.values)
          ∙ sym w.has_open.ensures ∙ failed
      | else-cells-i-via-else-cells-i w ↦
          absurd (omega (arith, w.if-cells-i.false, ap (λ cells. get_or cells i 0) c.cells-cells.ensures.cells, a))
    ])

pub returns-then-has_open : goal.returns-then-has_open
returns-then-has_open c =
    let firsts = c.args.firsts.now in
    let i : ℕ = c.loop-i.i in
    let inside : i < length firsts.cells = omega (arith, ap length c.cells-cells.ensures.cells) in
    let passed : c.has_open.result ≡ true = search rules in
    subst (λ cells. IsFirst (λ s. is_some (first_of (entry firsts s))) (c.args.x + 1) (get_or cells i 0))
    (sym c.cells-cells.ensures.cells)
    (first-listed (λ s. is_some (first_of (entry firsts s))) firsts.cells (c.args.x + 1) (unlisted-column firsts) i
    c.cells-cells.ensures.line.rising inside c.loop-i.invariant
    (omega (arith, c.if-cells-i.true, ap (λ cells. get_or cells i 0) c.cells-cells.ensures.cells))
    (ap (λ o. is_some (first_of o)) (entry-at firsts i nothing c.cells-cells.ensures.line inside)
    ∙ ap (λ vs. is_some (get_or vs i nothing).cell) (sym c.values-values.ensures.values)
    ∙ sym c.has_open.ensures ∙ passed))

pub returns : goal.returns
returns c =
    let firsts = c.args.firsts.now in
    none-at_all (λ s. is_some (first_of (entry firsts s))) firsts.cells (c.args.x + 1) (unlisted-column firsts)
    c.loop-i.i (omega (arith, ap length c.cells-cells.ensures.cells)) c.loop-i.invariant
