-- Candidates: square blocks without a flag.
use Rattle.std.specs.Prelude.{◌==◌, ◌&&◌, ℕ, Bool, false, Option, Some, None, not}
use Rattle.block_complexes.specs.BlockComplexes.{size_of}
use Rattle.block_sparse.specs.StoredBlocks.{StoredBlocks, StoredBlock, block_at}

-- a block stands and has no flag
abbrev pub is_unflagged : Option StoredBlock → Bool
is_unflagged None = false
is_unflagged (Some b) = not b.flagged

-- from s to t there stands a block without a flag, and both cells have one size
abbrev pub is_candidate : StoredBlocks → ℕ → ℕ → Bool
is_candidate v s t = is_unflagged (block_at v s t) && (size_of v.live s == size_of v.live t)
