use Rattle.std.proofs.Common.{◌≡◌, ℕ, List, ◌+◌, ◌&&◌, cond, ap, ◌∙◌, sym, subst, subst₂}
use Rattle.dense_blocks.specs.Blocks.{matrix_of}
use Rattle.rising_lists.specs.Rising.{IsRising, has, keys}
use Rattle.block_complexes.specs.BlockComplexes.{degree_of, size_of}
use Rattle.block_sparse.specs.StoredBlocks.{block_at}
use Rattle.block_sparse.specs.Grids.{AreSized, as_block, part, width}
use Rattle.scalar_finish.specs.Splits.{first_coordinate}
use Rattle.scalar_finish.proofs.PutLaws.{units-rise, units-width, units-sized, units-degrees, block-put, flags-put}
use Rattle.scalar_finish.proofs.entries.put_block.Goals as goal

pub coordinates_of-left-requires-clause-live : goal.coordinates_of-left-requires-clause-live
coordinates_of-left-requires-clause-live c = c.block_from-block.ensures.fits.between.from

pub coordinates_of-below-requires-clause-live : goal.coordinates_of-below-requires-clause-live
coordinates_of-below-requires-clause-live c = c.block_from-block.ensures.fits.between.to

pub set_grid-requires-clause-left_rises : goal.set_grid-requires-clause-left_rises
set_grid-requires-clause-left_rises c =
    let v = c.args.b.now in
    subst (λ l. IsRising (keys l)) (sym c.coordinates_of-left.ensures)
    (units-rise (first_coordinate v.live c.args.x) (size_of v.live c.args.x))

pub set_grid-requires-clause-below_rises : goal.set_grid-requires-clause-below_rises
set_grid-requires-clause-below_rises c =
    let v = c.args.b.now in
    subst (λ l. IsRising (keys l)) (sym c.coordinates_of-below.ensures)
    (units-rise (first_coordinate v.live c.args.y) (size_of v.live c.args.y))

pub set_grid-requires-clause-left_sized : goal.set_grid-requires-clause-left_sized
set_grid-requires-clause-left_sized c =
    subst₂ AreSized (sym c.requires.cells) (sym c.coordinates_of-left.ensures)
    (units-sized c.args.b.now c.args.x c.block_from-block.ensures.fits.between.from)

pub set_grid-requires-clause-below_sized : goal.set_grid-requires-clause-below_sized
set_grid-requires-clause-below_sized c =
    subst₂ AreSized (sym c.requires.cells) (sym c.coordinates_of-below.ensures)
    (units-sized c.args.b.now c.args.y c.block_from-block.ensures.fits.between.to)

pub set_grid-requires-clause-degrees : goal.set_grid-requires-clause-degrees
set_grid-requires-clause-degrees c = λ s t hs ht.
    subst (λ live. degree_of live t ≡ degree_of live s + 1) (sym c.requires.cells)
    (units-degrees c.args.b.now c.args.x c.args.y s t c.block_from-block.ensures.fits.between
    (sym (ap (λ l. has s (keys l)) c.coordinates_of-left.ensures) ∙ hs)
    (sym (ap (λ l. has t (keys l)) c.coordinates_of-below.ensures) ∙ ht))

pub set_grid-requires-clause-cols : goal.set_grid-requires-clause-cols
set_grid-requires-clause-cols c =
    let v = c.args.b.now in
    ap width c.coordinates_of-left.ensures
    ∙ units-width (first_coordinate v.live c.args.x) (size_of v.live c.args.x)
    ∙ sym c.block_from-block.ensures.fits.cols

pub set_grid-requires-clause-rows : goal.set_grid-requires-clause-rows
set_grid-requires-clause-rows c =
    let v = c.args.b.now in
    ap width c.coordinates_of-below.ensures
    ∙ units-width (first_coordinate v.live c.args.y) (size_of v.live c.args.y)
    ∙ sym c.block_from-block.ensures.fits.rows

pub returns-clause-put : goal.returns-clause-put
returns-clause-put c =
    let w = c.args.w.now in
    let m = c.set_grid.new.self in
    block-put c.args.b.now w m c.args.x c.args.y c.block_from-block.result.now c.block_from-block.ensures
    (subst₂ (λ (l b : List (ℕ × ℕ)). (i j : ℕ) → block_at m i j ≡ cond (has i (keys l) && has j (keys b))
    (as_block (part l b (matrix_of c.block_from-block.result.now) i j)) (block_at w i j))
    c.coordinates_of-left.ensures c.coordinates_of-below.ensures c.in_ok-set_grid.ensures.blocks)

pub returns-clause-flags : goal.returns-clause-flags
returns-clause-flags c =
    let w = c.args.w.now in
    let m = c.set_grid.new.self in
    flags-put c.args.b.now w m c.args.x c.args.y c.block_from-block.result.now c.block_from-block.ensures
    (subst₂ (λ (l b : List (ℕ × ℕ)). (i j : ℕ) → block_at m i j ≡ cond (has i (keys l) && has j (keys b))
    (as_block (part l b (matrix_of c.block_from-block.result.now) i j)) (block_at w i j))
    c.coordinates_of-left.ensures c.coordinates_of-below.ensures c.in_ok-set_grid.ensures.blocks)
