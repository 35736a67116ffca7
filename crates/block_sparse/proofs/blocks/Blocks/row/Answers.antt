use Rattle.std.proofs.Common.{sym, ap, ◌∙◌, subst}
use Rattle.std.specs.Option.{is_some}
use Rattle.rising_lists.specs.Rising.{entry_of}
use Rattle.block_sparse.specs.Invariants.{IsSound}
use Rattle.block_sparse.proofs.ScalarBlocks.{row-between}
use Rattle.block_sparse.proofs.blocks.Blocks.row.Goals as goal

pub returns-clause-blocks : goal.returns-clause-blocks
returns-clause-blocks c =
    let v = c.args.self.now in
    let sound = subst (λ v. IsSound v.live v.rows v.columns) c.self.view_is c.self.invariant in
    λ s h. row-between v sound s c.args.y
    (sym (c.cells.ensures.cells s ∙ ap (λ v. is_some (entry_of v.rows c.args.y s)) c.self.view_is) ∙ h)
