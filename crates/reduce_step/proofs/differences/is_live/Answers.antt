use Rattle.std.proofs.Common.{◌≡◌, ℕ, ◌∙◌, ap, arith, inl, inr}
use Rattle.std.proofs.Math.Dec.{leb}
use Rattle.std.proofs.lemmas.Bool.{cases_Bool, le-leb}
use Rattle.rising_lists.specs.Rising.{has}
use Rattle.block_complexes.specs.BlockComplexes.{cells}
use Rattle.block_complexes.proofs.LiveLaws.{of_cell-absent}
use Rattle.reduce_step.proofs.DifferenceLaws.{live-size, not-both}
use Rattle.reduce_step.proofs.differences.is_live.Goals as goal

pub returns : goal.returns
returns c =
    let live = c.args.b.now.live in
    let n : ℕ = c.size.result in (
      λ t. elim (cases_Bool (has c.args.c (cells live))) [
        | inl h ↦ h
        | inr f ↦
            let none : n ≡ 0 = c.size.ensures ∙ of_cell-absent (λ l. l.2) live c.args.c f in
            not-both (leb 1 n) t (ap (leb 1) none)
      ],
      λ h. le-leb 1 n (omega (arith, live-size live c.args.c c.live-live.ensures.live_cells h, c.size.ensures)),
    )
