use Rattle.std.proofs.Common.{◌≡◌, ℕ, ap, ◌∙◌, sym, refl, true, false, get_or, arith, below_more, rules}
use Rattle.rising_lists.specs.Rising.{has, keys}
use Rattle.rising_lists.proofs.Keyed.{place_of, has-at}
use Rattle.block_sparse.proofs.comparison.are_listed.Goals as goal

pub loop-cell-preserved : goal.loop-cell-preserved
loop-cell-preserved c =
    let passed : c.is_but_or_listed.result ≡ true = search rules in
    below_more _ _ c.loop-cell.invariant (c.is_but_or_listed.ensures.0 passed)

pub returns-then-not-is_but_or_listed : goal.returns-then-not-is_but_or_listed
returns-then-not-is_but_or_listed c =
    let failed : c.is_but_or_listed.result ≡ false = search rules in
    let k : ℕ = c.loop-cell.cell-index in (
      λ h. let e : false ≡ true = h in cc,
      λ h.
          let passed : c.is_but_or_listed.result ≡ true =
          c.is_but_or_listed.ensures.1 (h (get_or c.args.cells.now k 0) (has-at c.args.cells.now k (omega arith)))
          in
          cc,
    )

pub returns : goal.returns
returns c = (
  λ e q h ne.
      let p = place_of c.args.cells.now q h in
      ap (λ x. has x (keys c.args.listed.now)) (sym p.is) ∙ c.loop-cell.invariant p.at (omega (arith, p.inside))
      (λ f. ne (sym p.is ∙ f)),
  λ h. refl,
)
