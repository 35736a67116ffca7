use Rattle.std.proofs.Common.{◌≡◌, ◌<◌, ℕ, true, false, Some, ap, ◌∙◌, sym, subst, length, get_or, arith, rules}
use Rattle.rising_lists.specs.Rising.{entry}
use Rattle.open_columns.specs.Open.{is_open, IsFirst}
use Rattle.open_columns.proofs.OpenLaws.{first-listed, none-at_all, none-next, unlisted-mark, entry-at, no_mark}
use Rattle.open_columns.proofs.columns.first_from.Goals as goal

pub loop-i-init : goal.loop-i-init
loop-i-init c = λ j l a. absurd (omega (arith, c.count_below-i.ensures.below j l, a))

pub loop-i-preserved : goal.loop-i-preserved
loop-i-preserved c =
    let column = c.args.column.now in
    let i : ℕ = c.loop-i.i in
    let inside : i < length column.cells = omega (arith, ap length c.cells-cells.ensures.cells) in
    let failed : c.is_open.result ≡ false = search rules in
    none-next (λ t. is_open (entry column t)) column.cells c.args.from i c.loop-i.invariant
    (λ a. ap is_open (entry-at column i no_mark c.cells-cells.ensures.line inside)
    ∙ ap (λ vs. is_open (Some (get_or vs i no_mark))) (sym c.values-marks.ensures.values)
    ∙ sym c.is_open.ensures ∙ failed)

pub returns-then-is_open : goal.returns-then-is_open
returns-then-is_open c =
    let column = c.args.column.now in
    let i : ℕ = c.loop-i.i in
    let inside : i < length column.cells = omega (arith, ap length c.cells-cells.ensures.cells) in
    let passed : c.is_open.result ≡ true = search rules in
    subst (λ cells. IsFirst (λ t. is_open (entry column t)) c.args.from (get_or cells i 0))
    (sym c.cells-cells.ensures.cells)
    (first-listed (λ t. is_open (entry column t)) column.cells c.args.from (unlisted-mark column) i
    c.cells-cells.ensures.line.rising inside c.loop-i.invariant
    (c.count_below-i.ensures.from i (omega arith) inside)
    (ap is_open (entry-at column i no_mark c.cells-cells.ensures.line inside)
    ∙ ap (λ vs. is_open (Some (get_or vs i no_mark))) (sym c.values-marks.ensures.values)
    ∙ sym c.is_open.ensures ∙ passed))

pub returns : goal.returns
returns c =
    let column = c.args.column.now in
    none-at_all (λ t. is_open (entry column t)) column.cells c.args.from (unlisted-mark column) c.loop-i.i
    (omega (arith, ap length c.cells-cells.ensures.cells)) c.loop-i.invariant
