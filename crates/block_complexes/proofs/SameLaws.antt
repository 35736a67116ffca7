-- The same block complex: the same live cells, and the same matrices between them. All that is said of one holds of the
-- other.
use Rattle.std.proofs.Common.{◌≡◌, ℕ, List, [], ◌∷◌, ◌++◌, map, refl, sym, ap, ap₂, ◌∙◌, subst}
use Rattle.std.specs.List.{flat_map}
use Rattle.dense_blocks.specs.Field.{Ops}
use Rattle.dense_blocks.specs.Matrices.{product}
use Rattle.dense_blocks.specs.MatrixFacts.{IsMatrix, matrix_sum}
use Rattle.cochain_vec.specs.Complexes.{Arrow, CellularComplex}
use Rattle.block_complexes.specs.BlockComplexes.{BlockComplex, AreBothLive, IsBlockComplex, HaveSameMatrices, cells}
use Rattle.block_complexes.specs.BlockComplexes.{size_of}
use Rattle.block_complexes.specs.Cochains.{cell_of, complex_of}
use Rattle.block_complexes.specs.Differentials.{IsDifferential, matrix_sum_over}
use Rattle.block_complexes.proofs.Sums.{Each, has-head, has-tail}

-- what holds with live cells that are equal
pub with-live : (P : BlockComplex → Type 0) (w : BlockComplex) (live : List (ℕ × ℕ × ℕ)) → w.live ≡ live
    → P (record { live = live; matrix = w.matrix }) → P w
with-live P w live e h = subst (λ l. P (record { live = l; matrix = w.matrix })) (sym e) h

pub same-refl : (v : BlockComplex) → HaveSameMatrices v v
same-refl v = record { live = refl; matrices = λ s t l. refl }

pub same-sym : (v w : BlockComplex) → HaveSameMatrices v w → HaveSameMatrices w v
same-sym v w h = record {
  live = sym h.live;
  matrices = λ s t l. sym (h.matrices s t (subst (λ live. AreBothLive live s t) h.live l));
}

pub same-trans : (u v w : BlockComplex) → HaveSameMatrices u v → HaveSameMatrices v w → HaveSameMatrices u w
same-trans u v w h k = record {
  live = k.live ∙ h.live;
  matrices = λ s t l. k.matrices s t (subst (λ live. AreBothLive live s t) (sym h.live) l) ∙ h.matrices s t l;
}

-- the matrices from some cells to one, and to several
abbrev to_cell : (ℕ → ℕ → List (List ℕ)) → List ℕ → ℕ → List Arrow
to_cell M ss u = map (λ s. record { from = s; to = u; matrix = M s u }) ss

to_cell-same : (M N : ℕ → ℕ → List (List ℕ)) (ss : List ℕ) (u : ℕ) → Each (λ s. M s u ≡ N s u) ss
    → to_cell M ss u ≡ to_cell N ss u
to_cell-same M N [] u h = refl
to_cell-same M N (s ∷ ss) u h =
    let arrow : List (List ℕ) → Arrow = λ A. record { from = s; to = u; matrix = A } in
    ap₂ ◌∷◌ (ap arrow (h s (has-head s ss))) (to_cell-same M N ss u (λ c l. h c (has-tail c s ss l)))

to_cells-same : (M N : ℕ → ℕ → List (List ℕ)) (ss us : List ℕ) → Each (λ u. Each (λ s. M s u ≡ N s u) ss) us
    → flat_map (to_cell M ss) us ≡ flat_map (to_cell N ss) us
to_cells-same M N ss [] h = refl
to_cells-same M N ss (u ∷ us) h =
    ap₂ ◌++◌ (to_cell-same M N ss u (h u (has-head u us))) (to_cells-same M N ss us (λ c l. h c (has-tail c u us l)))

pub same-complex : (v w : BlockComplex) → HaveSameMatrices v w → complex_of w ≡ complex_of v
same-complex v w h =
    let with : List Arrow → CellularComplex = λ arrows. record { cells = map cell_of v.live; arrows = arrows } in
    with-live (λ w. complex_of w ≡ complex_of v) w v.live h.live
    (ap with (to_cells-same w.matrix v.matrix (cells v.live) (cells v.live)
    (λ u hu s hs. h.matrices s u (record { from = hs; to = hu }))))

matrix_sum_over-same : (K : Ops) (m n : ℕ) (A B : ℕ → List (List ℕ)) (ts : List ℕ) → Each (λ t. A t ≡ B t) ts
    → matrix_sum_over K m n A ts ≡ matrix_sum_over K m n B ts
matrix_sum_over-same K m n A B [] h = refl
matrix_sum_over-same K m n A B (t ∷ ts) h =
    ap₂ (matrix_sum K) (h t (has-head t ts)) (matrix_sum_over-same K m n A B ts (λ c l. h c (has-tail c t ts l)))

pub same-differential : (K : Ops) (v w : BlockComplex) → HaveSameMatrices v w → IsDifferential K v → IsDifferential K w
same-differential K v w h closed = with-live (IsDifferential K) w v.live h.live (λ s u l.
    let n = size_of v.live s in
    matrix_sum_over-same K (size_of v.live u) n (λ t. product K n (w.matrix t u) (w.matrix s t))
    (λ t. product K n (v.matrix t u) (v.matrix s t)) (cells v.live)
    (λ t ht. ap₂ (product K n) (h.matrices t u (record { from = ht; to = l.to }))
    (h.matrices s t (record { from = l.from; to = ht })))
    ∙ closed s u l)

pub same-block_complex : (K : Ops) (v w : BlockComplex) → HaveSameMatrices v w → IsBlockComplex K v → IsBlockComplex K w
same-block_complex K v w h is = with-live (IsBlockComplex K) w v.live h.live (record {
  rising = is.rising;
  sizes = is.sizes;
  matrices = λ s t l. subst (IsMatrix K (size_of v.live t) (size_of v.live s)) (sym (h.matrices s t l))
      (is.matrices s t l);
  apart = λ s t l n. h.matrices s t l ∙ is.apart s t l n;
})
