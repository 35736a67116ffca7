-- The bytes that a source gave, and what `read_all` makes of them.
use Rattle.std.specs.Prelude.{◌≡◌, ℕ, ◌+◌, ◌≤◌, ◌↔◌, List, length, Option, Result, IfOk, IsErrOf}
use Rattle.std.specs.Global.{Vec}
use Rattle.std.specs.Io.KnownBytes.{prepend_known}
use Rattle.io_edge.specs.declared.input.ReadAll.{ReadAll}
use Rattle.io_edge.specs.declared.input.ReadAll.TheVariants.{TooLong}

-- the source gave these bytes: they stood before those that it has left now
abbrev pub Gave : Option (List ℕ) → Option (List ℕ) → List ℕ → Type 0
Gave old new bytes = old ≡ prepend_known bytes new

-- the source gave these bytes, at most one more than the limit, and this is the answer to them
pub record ReadUpTo (limit : ℕ) (bytes : List ℕ) (result : Result (Vec ℕ) ReadAll) : Type 0 where
  pub at_most : length bytes ≤ limit + 1
  pub ok : IfOk result (λ all. (all.items ≡ bytes) × (length bytes ≤ limit))
  pub too_long : IsErrOf result TooLong ↔ (length bytes ≡ limit + 1)
