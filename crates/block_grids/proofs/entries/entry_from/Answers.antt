use Rattle.std.proofs.Common.{◌≤◌, ◌<◌, ℕ, refl, subst, get_or, arith}
use Rattle.block_grids.proofs.WalkLaws.{all-passed, up-to}
use Rattle.block_grids.proofs.entries.entry_from.Goals as goal

pub entry_at-requires-clause-passed : goal.entry_at-requires-clause-passed
entry_at-requires-clause-passed c =
    all-passed c.args.line.now.cells c.args.at c.place_from-place.result c.args.c c.requires.passed
    (subst (λ ks. (a : ℕ) → c.args.at ≤ a → a < c.place_from-place.result → get_or ks a 0 < c.args.c)
    c.cells.ensures.cells c.place_from-place.ensures.passed)

pub returns-in-Some-clause-passed : goal.returns-in-Some-clause-passed
returns-in-Some-clause-passed c =
    up-to c.args.line.now.cells c.place_from-place.result c.args.c
    (all-passed c.args.line.now.cells c.args.at c.place_from-place.result c.args.c c.requires.passed
    (subst (λ ks. (a : ℕ) → c.args.at ≤ a → a < c.place_from-place.result → get_or ks a 0 < c.args.c)
    c.cells.ensures.cells c.place_from-place.ensures.passed))
    (c.in-Some.ensures.place c.in-Some.entry refl).1

pub returns-in-None-clause-passed : goal.returns-in-None-clause-passed
returns-in-None-clause-passed c = λ i l.
    let below = all-passed c.args.line.now.cells c.args.at c.place_from-place.result c.args.c c.requires.passed
    (subst (λ ks. (a : ℕ) → c.args.at ≤ a → a < c.place_from-place.result → get_or ks a 0 < c.args.c)
    c.cells.ensures.cells c.place_from-place.ensures.passed) in
    omega (arith, below i l)
