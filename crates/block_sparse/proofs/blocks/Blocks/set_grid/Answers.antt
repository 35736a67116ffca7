use Rattle.std.proofs.Common.{◌≡◌, ◌+◌, subst, ap, ◌∙◌, sym, cond, ◌&&◌}
use Rattle.dense_blocks.specs.Blocks.{matrix_of}
use Rattle.rising_lists.specs.Rising.{has, keys}
use Rattle.block_complexes.specs.BlockComplexes.{cells, degree_of}
use Rattle.block_sparse.specs.StoredBlocks.{block_at}
use Rattle.block_sparse.specs.Grids.{part, as_block, AreSized}
use Rattle.block_sparse.proofs.GridLaws.{is_done, block_at-done, sound-done, sized-live}
use Rattle.block_sparse.proofs.blocks.Blocks.set_grid.Goals as goal

pub fresh_rows-requires-clause-within : goal.fresh_rows-requires-clause-within
fresh_rows-requires-clause-within c = λ k h.
    c.self.invariant.has_row k (ap (λ v. has k (cells v.live)) c.self.view_is
    ∙ sized-live c.args.self.now.live c.args.below.now c.requires.below_sized k h)

pub fresh_columns-requires-clause-within : goal.fresh_columns-requires-clause-within
fresh_columns-requires-clause-within c = λ k h.
    c.self.invariant.has_column k (ap (λ v. has k (cells v.live)) c.self.view_is
    ∙ sized-live c.args.self.now.live c.args.left.now c.requires.left_sized k h)

pub invariant_of-self-2 : goal.invariant_of-self-2
invariant_of-self-2 c =
    let A = matrix_of c.args.joined.now in
    let left = c.args.left.now in
    let below = c.args.below.now in
    let rows = c.self.inside.rows in
    let columns = c.self.inside.columns in
    let live = c.self.inside.live in
    let same : c.args.self.now.live ≡ live = sym (ap (λ v. v.live) c.self.view_is) in
    sound-done A left below live rows c.install.new.self columns c.install-2.new.self
    (is_done A left below c.requires.left_rises c.requires.below_rises rows c.install.new.self c.in_ok-rows.rows.items
    c.in_ok-rows.ensures.count c.in_ok-rows.ensures.fresh c.install.ensures.lines
    columns c.install-2.new.self c.in_ok-columns.columns.items c.in_ok-columns.ensures.count
    c.in_ok-columns.ensures.fresh c.install-2.ensures.lines)
    c.self.invariant
    (subst (λ v. AreSized v left) same c.requires.left_sized)
    (subst (λ v. AreSized v below) same c.requires.below_sized)
    (λ s t h k. ap (λ v. degree_of v t) (sym same) ∙ c.requires.degrees s t h k ∙ ap (λ v. degree_of v s + 1) same)
    c.install.ensures.cells c.install-2.ensures.cells

pub install-requires-clause-within : goal.install-requires-clause-within
install-requires-clause-within c = λ k h.
    c.self.invariant.has_row k (ap (λ v. has k (cells v.live)) c.self.view_is
    ∙ sized-live c.args.self.now.live c.args.below.now c.requires.below_sized k h)

pub install-requires-2-clause-within : goal.install-requires-2-clause-within
install-requires-2-clause-within c = λ k h.
    c.self.invariant.has_column k (ap (λ v. has k (cells v.live)) c.self.view_is
    ∙ sized-live c.args.self.now.live c.args.left.now c.requires.left_sized k h)

pub returns-clause-blocks : goal.returns-clause-blocks
returns-clause-blocks c = λ s t.
    let A = matrix_of c.args.joined.now in
    let left = c.args.left.now in
    let below = c.args.below.now in
    let rows = c.self.inside.rows in
    let columns = c.self.inside.columns in
    block_at-done A left below c.self.inside.live rows c.install.new.self columns c.install-2.new.self
    (is_done A left below c.requires.left_rises c.requires.below_rises rows c.install.new.self c.in_ok-rows.rows.items
    c.in_ok-rows.ensures.count c.in_ok-rows.ensures.fresh c.install.ensures.lines
    columns c.install-2.new.self c.in_ok-columns.columns.items c.in_ok-columns.ensures.count
    c.in_ok-columns.ensures.fresh c.install-2.ensures.lines) s t
    ∙ ap (λ v. cond (has s (keys left) && has t (keys below)) (as_block (part left below A s t)) (block_at v s t))
    c.self.view_is
