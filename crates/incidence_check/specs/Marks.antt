-- Marks of cells below a cell: with which products of signs each is reached.
use Rattle.std.specs.Prelude.{◌≡◌, ℕ, ◌*◌, ◌-◌, List, [], ◌∷◌, Option, None, Some, map, filter, get_or}
use Rattle.std.specs.Prelude.{◌==◌, if◌then◌else◌}
use Rattle.cell_complex.specs.declared.face.Sign.{Sign}
use Rattle.cell_complex.specs.declared.face.Sign.TheVariants.{Plus, Minus}
use Rattle.cell_complex.specs.Complexes.{CellComplex, is_face}
use Rattle.incidence_check.specs.Incidences.{are_opposite, sign_product}

-- the state after one way of this sign
abbrev pub once : Sign → ℕ
once Plus = 1
once Minus = 2

-- the state after one way more, with this product of signs: 0 for no way, 3 for two that cancel, 4 for all else
abbrev pub next_state : ℕ → Option Sign → ℕ
next_state n None = 4
next_state n (Some a) = if n == 0 then once a else if n == 3 - once a then 3 else 4

-- the state after ways of these products
abbrev pub state_of : List (Option Sign) → ℕ
state_of [] = 0
state_of (a ∷ []) = next_state 0 a
state_of (a ∷ b ∷ []) = if are_opposite a b then 3 else 4
state_of (a ∷ b ∷ _) = 4

-- the products of signs from s to u through these cells
abbrev pub products : CellComplex → ℕ → List ℕ → ℕ → List (Option Sign)
products c u ts s = map (λ t. sign_product c s t u) (filter (λ t. is_face c s t) ts)

-- the mark of s is above four times u by its state
abbrev pub IsMark : CellComplex → ℕ → List ℕ → ℕ → ℕ → Type 0
IsMark c u ts s mark = mark - 4 * u ≡ state_of (products c u ts s)

-- the same of all cells
abbrev pub AreMarks : CellComplex → ℕ → List ℕ → List ℕ → Type 0
AreMarks c u ts marks = (s : ℕ) → IsMark c u ts s (get_or marks s 0)
