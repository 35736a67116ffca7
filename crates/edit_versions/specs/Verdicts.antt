-- The verdict on an edit, and the sheaf that it makes.
use Rattle.std.specs.Prelude.{◌≡◌, ℕ, List, Option, Ok, MatchOption, MatchResult, MatchBool, length, map, sum, nat_lt}
use Rattle.std.specs.Option.{option_map_or}
use Rattle.cell_complex.specs.Complexes.{CellComplex}
use Rattle.dense_blocks.specs.Field.{Ops}
use Rattle.dense_blocks.specs.declared.block.Block.{Block}
use Rattle.square_check.specs.Answers.{IsFirstOf}
use Rattle.square_check.specs.Squares.{Commutes}
use Rattle.sheaf_data.specs.Sheaves.{SheafData}
use Rattle.sheaf_words.specs.declared.edit.Edit.{Edit}
use Rattle.sheaf_words.specs.declared.edit.Cause.TheVariants.{TotalLimit, Square}
use Rattle.sheaf_words.specs.declared.edit.Verdict.{Verdict}
use Rattle.sheaf_words.specs.declared.edit.Verdict.TheVariants.{Accepted, Refused}
use Rattle.edit_versions.specs.Edits.{sheaf_lists, sets_made}
use Rattle.dense_blocks.specs.Blocks.{WrittenMatrix, written_matrix}

-- the verdict on restrictions: the first of all pairs of cells whose square does not commute, if there is one
pub record IsSquareVerdict (K : Ops) (c : CellComplex) (matrices : List WrittenMatrix) (v : Verdict) : Type 0 where
  pub blocks : List Block
  pub same : map written_matrix blocks ≡ matrices
  pub bad : Option (ℕ × ℕ)
  pub first : MatchOption bad ((s u : ℕ) → Commutes K c blocks s u)
      (λ p. IsFirstOf (Commutes K c blocks) (length c.dims) p.0 p.1)
  pub verdict : v ≡ option_map_or (λ p. Refused (Square p.0 p.1)) bad Accepted

-- the verdict on an edit: the first set at fault; else, of what all sets make, too large a total; else the first square
abbrev pub IsVerdict : {F : Type 0} → Ops → SheafData F → Edit → Verdict → Type 0
IsVerdict K sheaf edit v =
    MatchResult (sets_made K sheaf.complex (sheaf_lists sheaf.stalks sheaf.blocks) 0 edit.sets)
    (λ l. MatchBool (nat_lt 4096 (sum l.stalks)) (v ≡ Refused TotalLimit)
    (IsSquareVerdict K sheaf.complex l.matrices v))
    (λ cause. v ≡ Refused cause)

-- the edited sheaf: what all sets make, over the same complex and field
pub record IsEdited {F : Type 0} (K : Ops) (old : SheafData F) (edit : Edit) (new : SheafData F) : Type 0 where
  pub complex : new.complex ≡ old.complex
  pub field : new.field ≡ old.field
  pub lists : sets_made K old.complex (sheaf_lists old.stalks old.blocks) 0 edit.sets
      ≡ Ok (sheaf_lists new.stalks new.blocks)
