-- Which answers a slot gives.
use Rattle.std.specs.Prelude.{◌≡◌, ℕ, ◌≤◌, true, List, length, slice_index, EachIndex}
use Rattle.dense_blocks.specs.Field.{Ops}
use Rattle.cochain_vec.specs.Complexes.{CellularComplex, coordinates}
use Rattle.rising_lists.specs.Rising.{has}
use Rattle.block_complexes.specs.BlockComplexes.{cells, degree_of, HaveSameMatrices}
use Rattle.block_sparse.specs.StoredBlocks.{complex_in}
use Rattle.pair_commit.specs.Slots.{SlotValue}
use Rattle.sheaf_words.specs.declared.query.Query.{Query}
use Rattle.sheaf_words.specs.declared.query.Query.TheVariants as queries
use Rattle.sheaf_words.specs.declared.reply.Reply.{Reply}
use Rattle.core_machine.specs.Replies.{Reduction}
use Rattle.core_machine.specs.Rights.{IsRightForStart}
use Rattle.core_machine.specs.Solo.{HasSoloChoices}
use Rattle.query_answers.specs.SlotReductions.{IsReductionIn}

-- a question that is answered where these cells are live: of no degree above 15, which no cell has; and of a cell that
-- has degree 0, where it is live
abbrev pub IsAnswered : List (ℕ × ℕ × ℕ) → Query → Type 0
IsAnswered live (queries.Basis k) = k ≤ 15
IsAnswered live (queries.Class k z) = k ≤ 15
IsAnswered live (queries.Extend s v) = has s (cells live) ≡ true → degree_of live s ≡ 0
IsAnswered live query = Unit {0}

-- it is right for the start complex of the reduction that the slot holds, in so many degrees, and each choice in it is
-- that of a solo order
abbrev pub IsAnswerIn : {F : Type 0} → Ops → ℕ → SlotValue F → Query → Reply → Type 0
IsAnswerIn K degrees slot query reply = (r : Reduction) → IsReductionIn degrees slot r
    → HaveSameMatrices (complex_in slot.base) r.start → IsRightForStart K r query reply × HasSoloChoices K r query reply

-- how many coordinates C has, in each of so many degrees
pub record AreSizes (C : CellularComplex) (degrees : ℕ) (numbers : List ℕ) : Type 0 where
  pub one_each : length numbers ≡ degrees
  pub sizes : EachIndex numbers (λ k. slice_index numbers k ≡ coordinates C k)
