use Rattle.std.proofs.Common.{◌≡◌, ℕ, true, false, ap, ◌∙◌, sym, length, inl, inr}
use Rattle.std.proofs.lemmas.Bool.{cases_eq, ne_eqb}
use Rattle.std.proofs.lemmas.List.{nil_from_length}
use Rattle.rising_lists.specs.Rising.{entry}
use Rattle.block_rows.proofs.RowLaws.{entry-scalars}
use Rattle.block_rows.proofs.row.Row.entries.Goals as goal

pub returns-then-is_empty : goal.returns-then-is_empty
returns-then-is_empty c = λ q.
    let L = c.self.inside.larger in
    let n : ℕ = length c.cells.result.now in
    let none : n ≡ 0 = elim (cases_eq n 0) [
      | inl e ↦ e
      | inr other ↦ absurd
          (let f : false ≡ true = sym (ne_eqb n 0 other) ∙ sym c.is_empty.ensures ∙ c.if-is_empty.true in cc)
    ] in
    ap (λ r. entry r q) (sym c.self.view_is)
    ∙ entry-scalars c.self.inside.entries L q (nil_from_length L.cells (sym (ap length c.cells.ensures.cells) ∙ none))
