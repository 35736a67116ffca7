-- The stored maps with a step more.
use Rattle.std.specs.Prelude.{slice_get}
use Rattle.std.proofs.Common.{◌≡◌, ◌⊎◌, inl, inr, true, ℕ, zero, suc, List, [], ◌∷◌, ◌++◌, sym, subst, refl, ap, ◌∙◌}
use Rattle.std.proofs.Common.{Option, Some, None, length, get_or, All, arith}
use Rattle.std.proofs.lemmas.List.{get_or-map, length-map}
use Rattle.dense_blocks.specs.BlockFacts.{IsBlock}
use Rattle.dense_blocks.specs.declared.block.Block.{Block}
use Rattle.dense_blocks.specs.Field.{Ops}
use Rattle.dense_blocks.specs.FieldLaws.{IsField}
use Rattle.dense_blocks.specs.MatrixFacts.{IsMatrix}
use Rattle.rising_lists.specs.Rising.{ByCell, has}
use Rattle.rising_lists.proofs.Keyed.{has-at}
use Rattle.cochain_vec.specs.declared.cell.Cell.{Cell}
use Rattle.cochain_vec.specs.Complexes.{CellularComplex, coordinates}
use Rattle.block_complexes.specs.BlockComplexes.{BlockComplex, cells, degree_of, size_of}
use Rattle.block_complexes.specs.Cochains.{complex_of, of_degree}
use Rattle.block_complexes.proofs.ComplexLaws.{of_degree-are}
use Rattle.block_sparse.specs.StoredBlocks.{AreLive}
use Rattle.equivalence_laws.specs.Equivalences.{GradedMatrix}
use Rattle.reduce_step.specs.declared.record.Step.{Step}
use Rattle.equivalence_laws.specs.RemovalMaps.{Removal}
use Rattle.equivalence_laws.specs.Composites.{rest_of}
use Rattle.equivalence_laws.specs.CellMaps.{CellMaps, AreRowsAt, AreCellMapsOf}
use Rattle.equivalence_laws.proofs.CompositeLaws.{last_is}
use Rattle.equivalence_laws.proofs.MapsLaws.{next_maps}
use Rattle.equivalences.specs.Rows.{HasShape, cell_rows_of}
use Rattle.equivalences.specs.LogMaps.{AreBlocksOf, HaveShapes, IsNextStep, step_removal}
use Rattle.equivalences.proofs.NextLaws.{IsUpdate, update_is_next}

pub update_takes : (K : Ops) (F : IsField K) (v : BlockComplex) (rs : List Removal) (m m' : CellMaps) (step : Step)
    (w : BlockComplex) → IsNextStep K v rs m step w
    → IsUpdate K (degree_of (rest_of v rs).live step.x)
    (coordinates (complex_of v) (degree_of (rest_of v rs).live step.x))
    (coordinates (complex_of v) (suc (degree_of (rest_of v rs).live step.x))) step m m'
    → AreCellMapsOf K v (rs ++ step_removal step w ∷ []) m'
update_takes K F v rs m m' step w next update =
    let u = rest_of v rs in
    next_maps K F v rs (record { is = next.block_complex; closed = next.cochain_complex }) next.removals
    (step_removal step w) next.removal m m' next.maps
    (update_is_next K F (complex_of v) u w step (last_is K F v rs next.block_complex next.removals) next.step_from
    next.removal m next.maps.live_is next.maps.pi_rows next.maps.iota_rows (λ j. (next.maps.h_is j).shape) m' update)

matrix-shape : (K : Ops) (m n : ℕ) (A : List (List ℕ)) → IsMatrix K m n A → HasShape m n A
matrix-shape K m n A h = record { count = h.size; widths = λ i d l. (h.rows_are i d l).size }

rows-shapes : (K : Ops) (v : BlockComplex) (u : BlockComplex) (live : List (ℕ × ℕ × ℕ)) (rows : ℕ → List (List ℕ))
    → live ≡ u.live → AreRowsAt K (complex_of v) u rows → (c : ℕ) → has c (cells live) ≡ true
    → HasShape (size_of live c) (coordinates (complex_of v) (degree_of live c)) (rows c)
rows-shapes K v u live rows e h c l =
    subst (λ live. HasShape (size_of live c) (coordinates (complex_of v) (degree_of live c)) (rows c)) (sym e)
    (matrix-shape K (size_of u.live c) (coordinates (complex_of v) (degree_of u.live c)) (rows c)
    (h c (subst (λ live. has c (cells live) ≡ true) e l)))

pub maps-shapes : (K : Ops) (v : BlockComplex) (rs : List Removal) (m : CellMaps) → AreCellMapsOf K v rs m
    → HaveShapes (complex_of v) m
maps-shapes K v rs m maps = record {
  pi = rows-shapes K v (rest_of v rs) m.live m.pi maps.live_is maps.pi_rows;
  iota = rows-shapes K v (rest_of v rs) m.live m.iota maps.live_is maps.iota_rows;
  h = λ k. matrix-shape K (coordinates (complex_of v) k) (coordinates (complex_of v) (suc k)) (m.h k)
      (maps.h_is k).shape;
}

-- a block more at the end
pub blocks-pushed : (rows columns : ℕ → ℕ) (A : GradedMatrix) (blocks new : List Block) (b : Block) (k : ℕ)
    → length blocks ≡ k → new ≡ blocks ++ b ∷ [] → AreBlocksOf rows columns A blocks
    → IsBlock b (rows k) (columns k) (A k) → AreBlocksOf rows columns A new
blocks-pushed rows columns A blocks new b k size e are is =
    subst (AreBlocksOf rows columns A) (sym e) (λ j q at. go j q (pushed blocks j q at))
  where
    pushed : (bs : List Block) (j : ℕ) (q : Block) → slice_get (bs ++ b ∷ []) j ≡ Some q
        → (slice_get bs j ≡ Some q) ⊎ ((j ≡ length bs) × (q ≡ b))
    pushed [] zero q at = inr (refl, let same : Some b ≡ Some q = at in cc)
    pushed [] (suc j) q at = absurd (let bad : ◌≡◌ {A = Option Block} None (Some q) = at in cc)
    pushed (x ∷ xs) zero q at = inl at
    pushed (x ∷ xs) (suc j) q at = elim (pushed xs j q at) [ inl e ↦ inl e | inr e ↦ inr (ap suc e.0, e.1) ]

    go : (j : ℕ) (q : Block) → (slice_get blocks j ≡ Some q) ⊎ ((j ≡ length blocks) × (q ≡ b))
        → IsBlock q (rows j) (columns j) (A j)
    go j q (inl at) = are j q at
    go j q (inr e) =
        subst (λ j. IsBlock q (rows j) (columns j) (A j)) (sym (e.0 ∙ size))
        (subst (λ q. IsBlock q (rows k) (columns k) (A k)) (sym e.1) is)

-- what gathering asks of the rows at live cells
pub gathered-shapes : (C : CellularComplex) (live : List (ℕ × ℕ × ℕ)) (rows : ByCell (List (List ℕ))) → AreLive live
    → ((c : ℕ) → has c (cells live) ≡ true
    → HasShape (size_of live c) (coordinates C (degree_of live c)) (cell_rows_of rows c))
    → (k : ℕ) → All (λ (t : Cell). HasShape t.size (coordinates C k) (cell_rows_of rows t.cell)) (of_degree k live)
gathered-shapes C live rows fits shapes k i d l =
    let t = get_or (of_degree k live) i d in
    let is = of_degree-are live fits.rising k i d l in
    subst (λ n. HasShape n (coordinates C k) (cell_rows_of rows t.cell)) is.size
    (subst (λ d. HasShape (size_of live t.cell) (coordinates C d) (cell_rows_of rows t.cell)) is.degree
    (shapes t.cell is.is_live))

pub cells-all : (live : List (ℕ × ℕ × ℕ)) (ks : List ℕ) → ((c : ℕ) → has c (cells live) ≡ true → has c ks ≡ true)
    → All (λ (l : ℕ × ℕ × ℕ). has l.0 ks ≡ true) live
cells-all live ks within i d l = within (get_or live i d).0
    (ap (λ k. has k (cells live)) (sym (get_or-map (λ l. l.0) live i d 0 l))
    ∙ has-at (cells live) i (omega (arith, l, length-map live (λ l. l.0))))
