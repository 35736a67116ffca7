-- Where a block complex differs from a footprint.
use Rattle.std.specs.Prelude.{◌≡◌, ◌==◌, ◌&&◌, ◌<◌, ◌≤◌, ◌⊎◌, ℕ, Bool, true, false, List, [], ◌∷◌, Option, Some, None}
use Rattle.std.specs.Prelude.{MatchOption, if◌then◌else◌, is_some}
use Rattle.dense_blocks.specs.Blocks.{matrix_of}
use Rattle.rising_lists.specs.Rising.{has, keys}
use Rattle.block_complexes.specs.BlockComplexes.{cells, size_of}
use Rattle.block_sparse.specs.StoredBlocks.{StoredBlocks, block_at, matrix}
use Rattle.block_sparse.specs.Grids.{segment, part, columns_of}
use Rattle.reduce_step.specs.declared.footprint.Footprint.{Footprint}

-- the cells that blocks were copied from, and the cells that they were copied to, each with its size
abbrev pub sources : Footprint → List (ℕ × ℕ)
sources foot = (foot.x, foot.pivot.cols) ∷ foot.left

abbrev pub targets : Footprint → List (ℕ × ℕ)
targets foot = (foot.y, foot.pivot.rows) ∷ foot.below

-- whether the pair was copied
abbrev pub is_copied : Footprint → ℕ → ℕ → Bool
is_copied foot s t = has s (keys (sources foot)) && has t (keys (targets foot))

-- the matrix that was copied of a pair
abbrev pub copied_matrix : Footprint → ℕ → ℕ → List (List ℕ)
copied_matrix foot s t =
    if s == foot.x then (if t == foot.y then matrix_of foot.pivot else segment foot.below (matrix_of foot.column) t)
    else (if t == foot.y then columns_of foot.left (matrix_of foot.row) s else part foot.left foot.below
    (matrix_of foot.corners) s t)

-- how many coordinates a listed cell has
abbrev pub listed_size : List (ℕ × ℕ) → ℕ → ℕ
listed_size [] c = 0
listed_size (l ∷ ls) c = if l.0 == c then l.1 else listed_size ls c

-- the cell is live with this size
abbrev pub IsSized : List (ℕ × ℕ × ℕ) → ℕ → ℕ → Type 0
IsSized live c n = (has c (cells live) ≡ true) × (size_of live c ≡ n)

-- the cell is live with the size that is listed
abbrev pub IsLiveAs : List (ℕ × ℕ × ℕ) → List (ℕ × ℕ) → ℕ → Type 0
IsLiveAs live listed c = IsSized live c (listed_size listed c)

-- both cells are live with their sizes, and the matrix is the one that was copied
pub record IsAsCopied (v : StoredBlocks) (foot : Footprint) (s t : ℕ) : Type 0 where
  pub from : IsLiveAs v.live (sources foot) s
  pub to : IsLiveAs v.live (targets foot) t
  pub matrix_is : matrix v s t ≡ copied_matrix foot s t

-- x and y are live, and the pair is of a cell with y, or of x with a cell
pub record IsBeside (v : StoredBlocks) (foot : Footprint) (s t : ℕ) : Type 0 where
  pub from : has foot.x (cells v.live) ≡ true
  pub to : has foot.y (cells v.live) ≡ true
  pub beside : (s ≡ foot.x) ⊎ (t ≡ foot.y)

-- at the pair nothing differs: what was copied is as it was; beside x and y no block stands that was not copied
pub record IsSameAt (v : StoredBlocks) (foot : Footprint) (s t : ℕ) : Type 0 where
  pub copied : is_copied foot s t ≡ true → IsAsCopied v foot s t
  pub others : is_copied foot s t ≡ false → IsBeside v foot s t → is_some (block_at v s t) ≡ false

-- nothing differs from what was copied
abbrev pub Fits : StoredBlocks → Footprint → Type 0
Fits v foot = (s t : ℕ) → IsSameAt v foot s t

-- the first listed cell that is not live with its size
pub record IsFirstResized (live : List (ℕ × ℕ × ℕ)) (listed : List (ℕ × ℕ)) (c : ℕ) : Type 0 where
  pub is_listed : has c (keys listed) ≡ true
  pub is_not : IsLiveAs live listed c → ⊥
  pub first : (k : ℕ) → has k (keys listed) ≡ true → k < c → IsLiveAs live listed k

-- the first listed cell that is not live with its size, if there is one
abbrev pub FoundResized : List (ℕ × ℕ × ℕ) → List (ℕ × ℕ) → Option ℕ → Type 0
FoundResized live listed o = MatchOption o ((k : ℕ) → has k (keys listed) ≡ true → IsLiveAs live listed k)
    (IsFirstResized live listed)

-- the first cell of a list that is not among some others, if there is one
abbrev pub FoundUnlisted : List ℕ → List ℕ → Option ℕ → Type 0
FoundUnlisted there listed o = MatchOption o ((k : ℕ) → has k there ≡ true → has k listed ≡ true)
    (λ c. (has c there ≡ true) × (has c listed ≡ false) × ((k : ℕ) → has k there ≡ true → k < c → has k listed ≡ true))

-- the pair was copied, and one of the cells is not live with its size
abbrev pub IsResized : StoredBlocks → Footprint → ℕ → ℕ → Type 0
IsResized v foot s t = (is_copied foot s t ≡ true)
    × ((IsLiveAs v.live (sources foot) s → ⊥) ⊎ (IsLiveAs v.live (targets foot) t → ⊥))

-- the pair was copied, and its cells and those listed before them are live with their sizes
pub record IsReached (v : StoredBlocks) (foot : Footprint) (s t : ℕ) : Type 0 where
  pub copied : is_copied foot s t ≡ true
  pub from : (k : ℕ) → has k (keys (sources foot)) ≡ true → k ≤ s → IsLiveAs v.live (sources foot) k
  pub to : (k : ℕ) → has k (keys (targets foot)) ≡ true → k ≤ t → IsLiveAs v.live (targets foot) k

-- the pair was not copied and lies beside x and y
abbrev pub IsGained : StoredBlocks → Footprint → ℕ → ℕ → Type 0
IsGained v foot s t = (is_copied foot s t ≡ false) × IsBeside v foot s t

-- (s, t) comes before (p, q): pairs go by their first cell, then by their second
abbrev pub IsBefore : ℕ → ℕ → ℕ → ℕ → Type 0
IsBefore s t p q = (s < p) ⊎ ((s ≡ p) × (t < q))

-- r is the earlier of two pairs, as far as they are there
abbrev pub IsEarlier : Option (ℕ × ℕ) → Option (ℕ × ℕ) → Option (ℕ × ℕ) → Type 0
IsEarlier None q r = r ≡ q
IsEarlier (Some p) None r = r ≡ Some p
IsEarlier (Some p) (Some q) r = (IsBefore q.0 q.1 p.0 p.1 × (r ≡ Some q))
    ⊎ ((IsBefore q.0 q.1 p.0 p.1 → ⊥) × (r ≡ Some p))

-- of some pairs nothing differs; else something differs at the pair that was found, and at none of them that comes
-- before it
abbrev pub Found : (Same Pairs : ℕ → ℕ → Type 0) → Option (ℕ × ℕ) → Type 0
Found Same Pairs o = MatchOption o ((s t : ℕ) → Pairs s t → Same s t)
    (λ p. (Same p.0 p.1 → ⊥) × ((s t : ℕ) → Pairs s t → IsBefore s t p.0 p.1 → Same s t))

-- (s, t) is the first pair at which something differs
pub record IsFirstDifference (v : StoredBlocks) (foot : Footprint) (s t : ℕ) : Type 0 where
  pub differs : IsSameAt v foot s t → ⊥
  pub first : (p q : ℕ) → IsBefore p q s t → IsSameAt v foot p q
