-- Joined matrices, and the blocks from cell to cell that they are cut into.
use Rattle.std.specs.Prelude.{ℕ, ◌+◌, ◌==◌, min, Bool, List, [], ◌∷◌, ◌++◌, Option, None, if◌then◌else◌, map, take}
use Rattle.std.specs.Prelude.{drop, slice_get, sum_by}
use Rattle.std.specs.List.{flat_map, list_all, concat}
use Rattle.std.specs.Option.{option_map_or}
use Rattle.std.specs.Fmt.{decimal}
use Rattle.dense_blocks.specs.Blocks.{matrix_of}
use Rattle.dense_blocks.specs.declared.block.Block.{Block}
use Rattle.reply_text.specs.declared.coordinates.Coordinates.{Coordinates}
use Rattle.reply_text.specs.declared.joined.Direction.{Direction}
use Rattle.reply_text.specs.declared.joined.Direction.TheVariants.{Up, Level, Down}

-- matrices joined per degree; the cells that they go from, to whose coordinates the columns belong, and those that
-- they go to, to whose coordinates the rows belong, each with its degree and its size; and from which degree they go
-- to which
pub record JoinedMatrices : Type 0 where
  pub matrices : List Block
  pub from : List (ℕ × ℕ × ℕ)
  pub to : List (ℕ × ℕ × ℕ)
  pub direction : Direction

-- matrices in this direction go from degree k to degree l
abbrev pub goes : Direction → ℕ → ℕ → Bool
goes Up k l = l == k + 1
goes Level k l = l == k
goes Down k l = l + 1 == k

-- ---- the coordinates of a cell: those of the cells of one degree come one after another

-- how many coordinates the cells of degree k have together
abbrev pub degree_size : ℕ → List (ℕ × ℕ × ℕ) → ℕ
degree_size k cells = sum_by (λ c. if c.1 == k then c.2 else 0) cells

-- the coordinates of a cell that comes after these
abbrev pub coordinates_after : List (ℕ × ℕ × ℕ) → ℕ × ℕ × ℕ → Coordinates
coordinates_after earlier c = record { cell = c.0; degree = c.1; first = degree_size c.1 earlier; size = c.2 }

-- those of each cell, in order, where the earlier ones come before
abbrev pub all_coordinates : List (ℕ × ℕ × ℕ) → List (ℕ × ℕ × ℕ) → List Coordinates
all_coordinates earlier [] = []
all_coordinates earlier (c ∷ cells) = coordinates_after earlier c ∷ all_coordinates (earlier ++ c ∷ []) cells

-- ---- blocks

-- h rows from one on, and of each w entries from one on
abbrev pub submatrix : ℕ → ℕ → ℕ → ℕ → List (List ℕ) → List (List ℕ)
submatrix row h col w A = map (λ r. take w (drop col r)) (take h (drop row A))

-- the entries of the block from s to t in a matrix, row after row
abbrev pub entries_between : Block → Coordinates → Coordinates → List ℕ
entries_between b s t = concat (submatrix t.first t.size s.first s.size (matrix_of b))

-- the matrix that the block from s to t is a part of, if there is one; that of two degrees stands at the lower one
abbrev pub matrix_between : JoinedMatrices → Coordinates → Coordinates → Option Block
matrix_between m s t = if goes m.direction s.degree t.degree then slice_get m.matrices (min s.degree t.degree) else None

-- ---- their lines

-- the line of a block from s to t with these entries: a word, the cells, the entries; none where all entries are zero
abbrev pub nonzero_line : List ℕ → Coordinates → Coordinates → List ℕ → List (List (List ℕ))
nonzero_line word s t entries = if list_all (λ e. e == 0) entries then []
    else (word ∷ decimal s.cell ∷ decimal t.cell ∷ map decimal entries) ∷ []

-- the line of the block from s to t, if there is one that is not zero
abbrev pub block_line : List ℕ → JoinedMatrices → Coordinates → Coordinates → List (List (List ℕ))
block_line word m s t =
    option_map_or (λ b. nonzero_line word s t (entries_between b s t)) (matrix_between m s t) []

-- the lines of the nonzero blocks, in order of the cell that each goes from, and then of the cell that it goes to
abbrev pub block_lines : List ℕ → JoinedMatrices → List (List (List ℕ))
block_lines word m = flat_map (λ s. flat_map (λ t. block_line word m s t) (all_coordinates [] m.to))
    (all_coordinates [] m.from)
