-- What changes with some blocks.
use Rattle.std.specs.Prelude.{◌≡◌, ℕ, false, nat_eq, List, slice_get}
use Rattle.std.specs.List.{list_any}
use Rattle.dense_blocks.specs.declared.block.Block.{Block}

-- the blocks are the same, but for those at the places
abbrev pub AreSameElsewhere : List ℕ → List Block → List Block → Type 0
AreSameElsewhere places old new = (p : ℕ) → list_any (nat_eq p) places ≡ false → slice_get old p ≡ slice_get new p
