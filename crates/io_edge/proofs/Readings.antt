-- What a reading makes of the bytes that were given.
use Rattle.std.proofs.Common.{◌≡◌, ◌≢◌, ℕ, ◌+◌, ◌≤◌, List, length, Err, refl, arith}
use Rattle.io_edge.specs.Input.{ReadUpTo}
use Rattle.io_edge.specs.declared.input.ReadAll.{ReadAll}
use Rattle.io_edge.specs.declared.input.ReadAll.TheVariants.{TooLong}

-- one byte more than the limit is too long
pub read_too_long : (limit : ℕ) (bytes : List ℕ) → length bytes ≡ limit + 1 → ReadUpTo limit bytes (Err TooLong)
read_too_long limit bytes over = record { at_most = omega arith; ok = tt; too_long = (λ _. over, λ _. refl) }

-- within the limit another error comes
pub read_broken : (limit : ℕ) (bytes : List ℕ) (e : ReadAll) → length bytes ≤ limit → e ≢ TooLong
    → ReadUpTo limit bytes (Err e)
read_broken limit bytes e within other = record {
  at_most = omega arith;
  ok = tt;
  too_long = (λ same. absurd (other cc), λ over. absurd (omega arith));
}
