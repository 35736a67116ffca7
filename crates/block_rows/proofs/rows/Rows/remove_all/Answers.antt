use Rattle.std.proofs.Common.{◌<◌, ℕ, ap, ◌∙◌, sym, cond, eqb, ◌&&◌, None, take, get_or, length, arith}
use Rattle.std.proofs.lemmas.List.{take_more}
use Rattle.rising_lists.specs.Rising.{has, entry_of}
use Rattle.rising_lists.proofs.LineLaws.{has-push, removed-more}
use Rattle.block_rows.proofs.rows.Rows.remove_all.Goals as goal

pub loop-c-preserved : goal.loop-c-preserved
loop-c-preserved c =
    let i : ℕ = c.loop-c.c-index in
    let listed = c.args.listed.now in
    let cell : ℕ = get_or listed i 0 in
    let inside : i < length listed = omega arith in
    record {
      cells = c.remove.ensures.cells ∙ c.loop-c.invariant.cells;
      entries = λ k p.
          c.remove.ensures.entries k p
          ∙ ap (cond (eqb k cell && eqb p c.args.q) None) (c.loop-c.invariant.entries k p)
          ∙ removed-more (eqb k cell) (has k (take i listed)) (eqb p c.args.q) (entry_of c.args.self.now k p)
          ∙ ap (λ b. cond (b && eqb p c.args.q) None (entry_of c.args.self.now k p))
          (sym (ap (has k) (take_more listed i 0 inside) ∙ has-push k (take i listed) cell));
    }
