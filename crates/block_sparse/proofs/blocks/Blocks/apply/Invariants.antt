use Rattle.std.proofs.Common.{◌≡◌, ◌+◌, take}
use Rattle.std.specs.List.{flat_map}
use Rattle.cochain_vec.specs.Complexes.{cells_of, sum_into, value_at}
use Rattle.block_complexes.specs.Cochains.{complex_of, of_degree}
use Rattle.block_sparse.proofs.blocks.Blocks.apply.Given as goal
use Rattle.block_sparse.specs.StoredBlocks.{complex_in}

abbrev pub invariant-loop-cell : goal.invariant-loop-cell
invariant-loop-cell g l = l.all.items ≡ flat_map
    (λ t. sum_into (g.F.Scalars.ops l.f) (complex_of (complex_in l.self)).arrows
    (value_at (cells_of (complex_of (complex_in l.self)) l.k) l.z) t.size t.cell)
    (of_degree (l.k + 1) (take l.cell-index l.live))
