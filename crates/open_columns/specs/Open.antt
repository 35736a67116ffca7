-- Open blocks, that is, those that are square and have no flag, and the first of them.
use Rattle.std.specs.Prelude.{◌≡◌, ◌<◌, ◌≤◌, ◌&&◌, ℕ, Bool, true, false, Option, Some, None, not, is_some, MatchOption}
use Rattle.rising_lists.specs.Rising.{ByCell, has, entry, entry_of}
use Rattle.open_columns.specs.declared.mark.Mark.{Mark}
use Rattle.open_columns.specs.declared.mark.First.{First}

-- t is the first number at or after another that passes
pub record IsFirst (passes : ℕ → Bool) (from t : ℕ) : Type 0 where
  pub after : from ≤ t
  pub is : passes t ≡ true
  pub none_before : (q : ℕ) → from ≤ q → q < t → passes q ≡ false

-- the first number at or after another that passes, none where none does
abbrev pub FirstFrom : (ℕ → Bool) → ℕ → Option ℕ → Type 0
FirstFrom passes from o = MatchOption o ((t : ℕ) → from ≤ t → passes t ≡ false) (λ t. IsFirst passes from t)

-- no number below this one passes; where there is none, no number
abbrev pub NoneBelow : (ℕ → Bool) → Option ℕ → Type 0
NoneBelow passes o = MatchOption o ((t : ℕ) → passes t ≡ false) (λ t. (q : ℕ) → q < t → passes q ≡ false)

-- (s, t) passes, and no pair with a first number after x that comes before it does
pub record IsFirstPair (passes : ℕ → ℕ → Bool) (x s t : ℕ) : Type 0 where
  pub after : x < s
  pub is : passes s t ≡ true
  pub none_before : (q r : ℕ) → x < q → q < s → passes q r ≡ false
  pub none_beside : (r : ℕ) → r < t → passes s r ≡ false

-- the first pair (s, t) with s after x that passes, none where none does
abbrev pub FirstPair : (ℕ → ℕ → Bool) → ℕ → Option (ℕ × ℕ) → Type 0
FirstPair passes x o = MatchOption o ((s t : ℕ) → x < s → passes s t ≡ false) (λ p. IsFirstPair passes x p.0 p.1)

-- what is noted of a block says that it is square and has no flag
abbrev pub is_open : Option Mark → Bool
is_open None = false
is_open (Some m) = m.square && not m.flagged

abbrev pub with_mark_flag : Mark → Mark
with_mark_flag m = record m { flagged = true }

abbrev pub first_of : Option First → Option ℕ
first_of None = None
first_of (Some o) = o.cell

-- no column of a cell below this one has an open block
abbrev pub AreNoneBelow : ByCell First → ℕ → Type 0
AreNoneBelow firsts low = (c : ℕ) → c < low → first_of (entry firsts c) ≡ None

-- of each column the first open block is known
pub record AreFirst (marks : ByCell (ByCell Mark)) (firsts : ByCell First) : Type 0 where
  pub noted : (s : ℕ) → is_some (entry firsts s) ≡ has s marks.cells
  pub first : (s : ℕ) → FirstFrom (λ t. is_open (entry_of marks s t)) 0 (first_of (entry firsts s))
