-- Flags: none of them, and what the removal of a pair of cells does to them.
use Rattle.std.specs.Prelude.{◌≡◌, ◌&&◌, ℕ, false, if◌then◌else◌, is_some}
use Rattle.block_complexes.specs.BlockComplexes.{AreBothLive}
use Rattle.block_sparse.specs.StoredBlocks.{StoredBlocks, block_at, flag_of}

-- no block has a flag
abbrev pub HasNoFlags : StoredBlocks → Type 0
HasNoFlags v = (s t : ℕ) → flag_of (block_at v s t) ≡ false

-- between cells that are left, the flag is cleared where blocks from s to y and from x to t have stood, and stays
-- elsewhere
abbrev pub KeepsFlags : StoredBlocks → ℕ → ℕ → StoredBlocks → Type 0
KeepsFlags v x y w = (s t : ℕ) → AreBothLive w.live s t → flag_of (block_at w s t)
    ≡ (if is_some (block_at v s y) && is_some (block_at v x t) then false else flag_of (block_at v s t))
