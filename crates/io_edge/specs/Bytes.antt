-- What calls do to the bytes that a sink took, where these are told.
use Rattle.std.specs.Prelude.{◌≡◌, ℕ, List, length, ◌++◌, ⊤, Option, None, Some}
use Rattle.std.specs.Io.KnownBytes.{append_known}

-- the sink took these bytes: they stand after those that it had taken before
abbrev pub Took : Option (List ℕ) → Option (List ℕ) → List ℕ → Type 0
Took old new bytes = new ≡ append_known old bytes

-- the sink took a prefix of these bytes
pub record TookPrefix (old new : Option (List ℕ)) (bytes : List ℕ) : Type 0 where
  pub prefix : List ℕ
  pub rest : List ℕ
  pub split : bytes ≡ prefix ++ rest
  pub took : Took old new prefix

-- all that the sink took is flushed
abbrev pub IsFlushed : Option (List ℕ) → ℕ → Type 0
IsFlushed None flushed = ⊤
IsFlushed (Some taken) flushed = flushed ≡ length taken
