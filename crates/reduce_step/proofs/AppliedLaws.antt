-- A removal in three steps: the new corners come in, then the one cell goes, and then the other.
use Rattle.std.specs.Prelude.{◌==◌, if◌then◌else◌}
use Rattle.std.proofs.Common.{◌≡◌, ℕ, ◌+◌, Bool, true, false, cond, not, ◌&&◌, ◌||◌, eqb, List, filter, None, refl, sym}
use Rattle.std.proofs.Common.{ap, ap₂, ◌∙◌, subst, arith}
use Rattle.std.specs.Option.{is_some}
use Rattle.std.proofs.lemmas.Bool.{and_parts}
use Rattle.dense_blocks.specs.Field.{Ops}
use Rattle.dense_blocks.specs.FieldLaws.{IsField}
use Rattle.dense_blocks.specs.MatrixFacts.{IsInverse}
use Rattle.rising_lists.specs.Rising.{has, keys}
use Rattle.block_complexes.specs.BlockComplexes.{AreConsecutive, cells, degree_of, size_of, IsBlockComplex}
use Rattle.block_sparse.specs.StoredBlocks.{StoredBlocks, block_at, matrix, complex_in}
use Rattle.block_sparse.specs.Grids.{part, as_block}
use Rattle.block_sparse.specs.Invariants.{IsSound}
use Rattle.block_sparse.proofs.ScalarBlocks.{block_at-between}
use Rattle.removals.specs.Removals.{corner, live_without, IsRemoval}
use Rattle.block_sparse.specs.Flags.{KeepsFlags}
use Rattle.block_complexes.proofs.Sums.{is_other}
use Rattle.removals.proofs.CornerLaws.{has-without, without-twice, spared}
use Rattle.reduce_step.proofs.PairwiseRemoval.{written-removal, written-flags}

-- the three steps: the parts of N are put at the listed cells of v, then the cell x is taken out, and then the cell y
pub record AreStages (v grid first w : StoredBlocks) (x y : ℕ) (left below : List (ℕ × ℕ)) (N : List (List ℕ)) :
    Type 0 where
  pub grid_live : grid.live ≡ v.live
  pub grid_blocks : (s t : ℕ) → block_at grid s t ≡ (if has s (keys left) && has t (keys below) then
      as_block (part left below N s t) else block_at v s t)
  pub first_live : first.live ≡ filter (λ l. not (l.0 == x)) grid.live
  pub first_blocks : (s t : ℕ) → block_at first s t ≡ (if s == x || t == x then None else block_at grid s t)
  pub second_live : w.live ≡ filter (λ l. not (l.0 == y)) first.live
  pub second_blocks : (s t : ℕ) → block_at w s t ≡ (if s == y || t == y then None else block_at first s t)

-- a block stands from x to y; on the left are the other cells from which blocks go to y, below the other cells to which
-- blocks go from x
pub record AreListed (v : StoredBlocks) (x y : ℕ) (left below : List (ℕ × ℕ)) : Type 0 where
  pub stands : is_some (block_at v x y) ≡ true
  pub on_left : (s : ℕ) → has s (keys left) ≡ (is_some (block_at v s y) && not (s == x))
  pub is_below : (t : ℕ) → has t (keys below) ≡ (is_some (block_at v x t) && not (t == y))

-- the block is square and a its inverse; the parts of N, which are the new corners, are put at these cells, and x and y
-- are taken out
pub record IsApplied (K : Ops) (v : StoredBlocks) (x y : ℕ) (a : List (List ℕ)) (left below : List (ℕ × ℕ))
    (N : List (List ℕ)) (grid first w : StoredBlocks) : Type 0 where
  pub listed : AreListed v x y left below
  pub square : size_of v.live y ≡ size_of v.live x
  pub inverse : IsInverse K (size_of v.live x) (matrix v x y) a
  pub corners : (s t : ℕ) → has s (keys left) ≡ true → has t (keys below) ≡ true → part left below N s t
      ≡ corner K (complex_in v) x y a s t
  pub steps : AreStages v grid first w x y left below N

-- a cell that is neither of two
apart : (b c : Bool) → not (b || c) ≡ true → (b ≡ false) × (c ≡ false)
apart true c e = absurd (let f : false ≡ true = e in cc)
apart false true e = absurd (let f : false ≡ true = e in cc)
apart false false e = (refl, refl)

and_not : (b c : Bool) → c ≡ false → (b && not c) ≡ b
and_not b c e = ap (λ d. b && not d) e ∙ go b
  where
    go : (b : Bool) → (b && true) ≡ b
    go true = refl
    go false = refl

-- the cells below have one degree more than those on the left
pub listed-degrees : (v : StoredBlocks) → IsSound v.live v.rows v.columns → (x y : ℕ) (left below : List (ℕ × ℕ))
    → AreListed v x y left below
    → (s t : ℕ) → has s (keys left) ≡ true → has t (keys below) ≡ true → degree_of v.live t ≡ degree_of v.live s + 1
listed-degrees v sound x y left below h s t hs ht =
    let p = and_parts (is_some (block_at v s y)) (not (eqb s x)) (sym (h.on_left s) ∙ hs) in
    let q = and_parts (is_some (block_at v x t)) (not (eqb t y)) (sym (h.is_below t) ∙ ht) in
    omega (
      arith,
      (block_at-between v sound s y p.0).degrees,
      (block_at-between v sound x t q.0).degrees,
      (block_at-between v sound x y h.stands).degrees,
    )

module _ (K : Ops) (F : IsField K) (v : StoredBlocks) (sound : IsSound v.live v.rows v.columns)
    (over : IsBlockComplex K (complex_in v)) (x y : ℕ) (a : List (List ℕ))
    (left below : List (ℕ × ℕ)) (N : List (List ℕ)) (grid first w : StoredBlocks)
    (h : IsApplied K v x y a left below N grid first w) where
  pub image_of-live : w.live ≡ live_without v.live x y
  image_of-live =
      h.steps.second_live
      ∙ ap (filter (λ l. not (l.0 == y))) (h.steps.first_live ∙ ap (filter (λ l. not (l.0 == x))) h.steps.grid_live)
      ∙ without-twice x y v.live

  other : (c : ℕ) → has c (cells w.live) ≡ true → is_other x y c ≡ true
  other c m = (has-without x y v.live c (subst (λ live. has c (cells live) ≡ true) image_of-live m)).1

  -- a listed pair of cells is one between which a new corner is put
  both-listed : (s t : ℕ) → is_other x y s ≡ true → is_other x y t ≡ true
      → (has s (keys left) && has t (keys below)) ≡ (is_some (block_at v s y) && is_some (block_at v x t))
  both-listed s t os ot =
      ap₂ ◌&&◌ (h.listed.on_left s ∙ and_not (is_some (block_at v s y)) (eqb s x) (apart (eqb s x) (eqb s y) os).0)
      (h.listed.is_below t ∙ and_not (is_some (block_at v x t)) (eqb t y) (apart (eqb t x) (eqb t y) ot).1)

  written : (s t : ℕ) → has s (cells w.live) ≡ true → has t (cells w.live) ≡ true
      → block_at w s t ≡ cond (is_some (block_at v s y) && is_some (block_at v x t))
      (as_block (corner K (complex_in v) x y a s t)) (block_at v s t)
  written s t hs ht =
      let os = other s hs in
      let ot = other t ht in
      h.steps.second_blocks s t
      ∙ ap (cond (eqb s y || eqb t y) None) (h.steps.first_blocks s t)
      ∙ spared x y s t (block_at grid s t) os ot
      ∙ h.steps.grid_blocks s t
      ∙ chosen (has s (keys left) && has t (keys below)) refl
      ∙ ap (λ b. cond b (as_block (corner K (complex_in v) x y a s t)) (block_at v s t)) (both-listed s t os ot)
    where
      chosen : (b : Bool) → (has s (keys left) && has t (keys below)) ≡ b
          → cond b (as_block (part left below N s t)) (block_at v s t)
          ≡ cond b (as_block (corner K (complex_in v) x y a s t)) (block_at v s t)
      chosen true e = let l = and_parts (has s (keys left)) (has t (keys below)) e in
          ap as_block (h.corners s t l.0 l.1)
      chosen false e = refl

  pair : AreConsecutive v.live x y
  pair = block_at-between v sound x y h.listed.stands

  pub image_of-removal : IsRemoval K (complex_in v) x y a (complex_in w)
  image_of-removal = written-removal K F v sound over x y a w pair h.square h.inverse image_of-live written

  pub image_of-flags : KeepsFlags v x y w
  image_of-flags = written-flags K F v sound over x y a w pair h.square h.inverse image_of-live written
