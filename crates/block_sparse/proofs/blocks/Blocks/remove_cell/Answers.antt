use Rattle.std.proofs.Common.{ap, ◌∙◌, sym, cond, None, ◌||◌, eqb, subst}
use Rattle.rising_lists.specs.Rising.{entry_of}
use Rattle.block_sparse.specs.StoredBlocks.{block_at}
use Rattle.block_sparse.specs.Invariants.{IsSound}
use Rattle.block_sparse.proofs.RemovalLaws.{sound-without, block_at-without, some-mark}
use Rattle.block_sparse.proofs.blocks.Blocks.remove_cell.Goals as goal

pub clear-requires : goal.clear-requires
clear-requires c = λ s t. some-mark (entry_of c.self.inside.columns s t) (entry_of c.self.inside.rows t s)
    (c.self.invariant.marks s t)

pub invariant_of-self : goal.invariant_of-self
invariant_of-self c =
    subst (λ live. IsSound live c.clear.new.rows c.clear.new.columns) (sym c.remove.ensures)
    (sound-without c.args.c c.self.inside.live c.self.inside.rows c.clear.new.rows c.self.inside.columns
    c.clear.new.columns c.self.invariant
    c.clear.ensures.row_cells c.clear.ensures.column_cells c.clear.ensures.rows c.clear.ensures.columns)

pub returns-clause-blocks : goal.returns-clause-blocks
returns-clause-blocks c = λ s t.
    block_at-without (eqb s c.args.c || eqb t c.args.c) (entry_of c.self.inside.rows t s)
    (entry_of c.clear.new.rows t s) (entry_of c.self.inside.columns s t) (entry_of c.clear.new.columns s t)
    (c.clear.ensures.rows s t) (c.clear.ensures.columns s t)
    ∙ ap (λ v. cond (eqb s c.args.c || eqb t c.args.c) None (block_at v s t)) c.self.view_is
