-- What callers see of a source and of a sink.
use Rattle.std.specs.Prelude.{ℕ, List, Option}

-- the bytes that a source has left, where it tells them, and its count of faults
pub record SourceView : Type 0 where
  pub left : Option (List ℕ)
  pub faults : ℕ

-- the bytes that a sink has taken, where it tells them, how many of them are flushed, and its count of faults
pub record SinkView : Type 0 where
  pub taken : Option (List ℕ)
  pub flushed : ℕ
  pub faults : ℕ

-- a source by what it tells
abbrev pub source_view : {S : Type 0} → (S → Option (List ℕ)) → (S → ℕ) → S → SourceView
source_view left faults source = record { left = left source; faults = faults source }

-- a sink by what it tells
abbrev pub sink_view : {K : Type 0} → (K → Option (List ℕ)) → (K → ℕ) → (K → ℕ) → K → SinkView
sink_view taken flushed faults sink =
    record { taken = taken sink; flushed = flushed sink; faults = faults sink }
