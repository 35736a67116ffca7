use Rattle.std.proofs.Common.{◌≡◌, ◌<◌, ℕ, ap, ap₂, ◌∙◌, sym, subst, Some, get_or, length}
use Rattle.std.specs.Option.{option_map}
use Rattle.dense_blocks.specs.declared.block.Block.{Block}
use Rattle.rising_lists.specs.Rising.{ByCell, entry}
use Rattle.rising_lists.proofs.Keyed.{look-at}
use Rattle.block_rows.specs.BlockRows.{block_or}
use Rattle.block_rows.proofs.RowLaws.{entry-row}
use Rattle.block_rows.proofs.row.Row.block_at.Goals as goal

pub returns : goal.returns
returns c =
    let E = c.self.inside.entries in
    let L = c.self.inside.larger in
    let at : ℕ = c.args.at in
    let k : ℕ = get_or E.cells at 0 in
    let line = c.cells-cells.ensures.line in
    let inside : at < length E.cells = subst (λ (r : ByCell Block). at < length r.cells) (sym c.self.view_is) c.requires
    in
    subst (λ (r : ByCell Block). entry r (get_or r.cells at 0) ≡ Some c.larger_or.result.now) c.self.view_is
    (entry-row E L k
    ∙ ap (option_map (block_or L k)) (look-at E.cells E.values line.full line.rising at 0 inside)
    ∙ sym (ap Some (c.larger_or.ensures
    ∙ ap₂ (block_or L) (ap (λ ks. get_or ks at 0) c.cells-cells.ensures.cells)
    (ap (λ es. get_or es at 0) c.values-entries.ensures.values))))
