use Rattle.std.proofs.Common.{◌≡◌, ◌∷◌, ◌∙◌, ℕ, false, sym, arith, rules}
use Rattle.rising_lists.specs.Rising.{keys}
use Rattle.rising_lists.proofs.Keyed.{has-at}
use Rattle.reduce_step.proofs.DifferenceLaws.{each-among, before-among}
use Rattle.reduce_step.proofs.differences.unlisted.Goals as goal

pub returns-then-not-is_among : goal.returns-then-not-is_among
returns-then-not-is_among c =
    let i : ℕ = c.loop-c.c-index in
    let other : c.is_among.result ≡ false = search rules in (
      has-at c.args.cells.now i (omega arith),
      sym c.is_among.ensures ∙ other,
      before-among c.args.cells.now (c.args.but ∷ keys c.args.listed.now) i c.requires.rising c.loop-c.invariant,
    )

pub returns : goal.returns
returns c = each-among c.args.cells.now (c.args.but ∷ keys c.args.listed.now)
    (λ i l. c.loop-c.invariant i (omega arith))
