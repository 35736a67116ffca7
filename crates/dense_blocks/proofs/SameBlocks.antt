-- Two blocks with the same numbers are the same.
use Rattle.std.proofs.Common.{◌≡◌, ◌*◌, ◌≤◌, length}
use Rattle.std.proofs.Math.Bridge.{le_prop}
use Rattle.dense_blocks.specs.declared.block.Block.{Block}
use native.Mathlib.Nat.{ℕ_set}
use mathlib.Core.HLevel.{is_prop→PathP}

pub same_block : (a b : Block) → a.rows ≡ b.rows → a.cols ≡ b.cols → a.entries ≡ b.entries → a ≡ b
same_block a b rows cols entries =
    λ i. record {
      rows = rows i;
      cols = cols i;
      entries = entries i;
      rows_fit = is_prop→PathP (λ j. rows j ≤ 4096) (λ j. le_prop) a.rows_fit b.rows_fit i;
      cols_fit = is_prop→PathP (λ j. cols j ≤ 4096) (λ j. le_prop) a.cols_fit b.cols_fit i;
      full = is_prop→PathP (λ j. length (entries j) ≡ rows j * cols j) (λ j. ℕ_set _ _) a.full b.full i;
    }
