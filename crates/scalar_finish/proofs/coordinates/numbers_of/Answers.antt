use Rattle.std.proofs.Common.{ap, ap₂, ◌∙◌, sym, subst, length, map, ℕ}
use Rattle.rising_lists.specs.Rising.{IsRising}
use Rattle.block_complexes.specs.BlockComplexes.{cells}
use Rattle.scalar_finish.specs.Entries.{first_coordinates}
use Rattle.scalar_finish.proofs.PutLaws.{coordinates-units, length-firsts, entry-first}
use Rattle.scalar_finish.proofs.coordinates.numbers_of.Goals as goal

pub of_values-firsts-requires-clause-rising : goal.of_values-firsts-requires-clause-rising
of_values-firsts-requires-clause-rising c =
    subst IsRising (sym (c.in_ok-cells.ensures ∙ ap cells c.live-live.ensures.live))
    c.live-live.ensures.live_cells.rising

pub of_values-firsts-requires-clause-full : goal.of_values-firsts-requires-clause-full
of_values-firsts-requires-clause-full c =
    ap length c.in_ok-values.ensures ∙ length-firsts 0 c.live-live.result.now ∙ sym (ap length c.in_ok-cells.ensures)

pub returns : goal.returns
returns c =
    let live = c.args.b.now.live in record {
      firsts = λ s h. entry-first live s c.of_values-firsts.result
          (c.of_values-firsts.ensures
          ∙ ap₂ (λ cs vs. record { cells = cs; values = vs }) (c.in_ok-cells.ensures ∙ ap cells c.live-live.ensures.live)
          (c.in_ok-values.ensures ∙ ap (first_coordinates 0) c.live-live.ensures.live)) h;
      units = c.in_ok-units.ensures ∙ ap (map (λ (l : ℕ × ℕ × ℕ). (l.0, l.2))) c.requires ∙ coordinates-units 0 live;
    }
