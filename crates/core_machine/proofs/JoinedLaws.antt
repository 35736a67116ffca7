-- The matrix that is joined of those between live cells is the matrix of the coboundary.
use Rattle.std.proofs.Common.{◌≡◌, ◌⊎◌, ℕ, suc, true, inl, inr, List, [], sym, ap, subst, ◌∙◌}
use Rattle.std.proofs.lemmas.Bool.{cases_eq}
use Rattle.dense_blocks.specs.Field.{Ops}
use Rattle.dense_blocks.specs.FieldLaws.{IsField}
use Rattle.dense_blocks.specs.Matrices.{image_of}
use Rattle.dense_blocks.specs.MatrixFacts.{IsMatrix}
use Rattle.dense_blocks.specs.LinearMaps.{IsMatrixOf}
use Rattle.dense_blocks.proofs.Shapes.{Vector, Matrix, vector-nil, to_vector, to_matrix, matrix-size}
use Rattle.dense_blocks.proofs.MatrixLaws.{image_of-vector, image_of-nil}
use Rattle.cochain_vec.specs.declared.cell.Cell.{Cell}
use Rattle.cochain_vec.specs.Complexes.{coordinates, sum_into, coboundary}
use Rattle.cochain_vec.proofs.CoboundaryLaws.{value-vector, joined-same}
use Rattle.rising_lists.specs.Rising.{has}
use Rattle.block_complexes.specs.BlockComplexes.{BlockComplex, IsBlockComplex, cells, degree_of, size_of}
use Rattle.block_complexes.specs.Cochains.{complex_of, of_degree}
use Rattle.block_complexes.proofs.SameLaws.{same-complex}
use Rattle.block_complexes.proofs.FullLaws.{IsFull, filled, same-filled, filled-full}
use Rattle.block_complexes.proofs.ComplexLaws.{size-of_degree}
use Rattle.block_complexes.proofs.Sums.{sum_over-equal}
use Rattle.block_complexes.proofs.SumLaws.{sum_into-live}
use Rattle.equivalence_laws.specs.RemovalMaps.{cochain_value}
use Rattle.equivalence_laws.specs.Updates.{rows_at, columns_at}
use Rattle.equivalence_laws.proofs.CochainValues.{each-of_degree, cochain-joined}
use Rattle.equivalence_laws.proofs.UpdateLaws.{value-image_of, rows-matrix, columns-matrix, live-sum, size-other}

-- the part of A from each live cell s of degree k to each t of the degree above, its rows at t and of these the columns
-- at s, is the matrix from s to t
abbrev pub IsJoinedIn : BlockComplex → ℕ → List (List ℕ) → Type 0
IsJoinedIn v k A = (s t : ℕ) → has s (cells v.live) ≡ true → has t (cells v.live) ≡ true
    → degree_of v.live s ≡ k → degree_of v.live t ≡ suc k
    → columns_at v k (rows_at v (suc k) A t) s ≡ v.matrix s t

module _ (K : Ops) (F : IsField K) (v : BlockComplex) (full : IsFull K v) (k : ℕ) (A : List (List ℕ))
    (shape : Matrix K (coordinates (complex_of v) (suc k)) (coordinates (complex_of v) k) A)
    (parts : IsJoinedIn v k A) where
  module _ (z : List ℕ) (hz : Vector K (coordinates (complex_of v) k) z) where
    -- the value of A z at the cell t
    value-is : (t : Cell) → has t.cell (cells v.live) ≡ true → degree_of v.live t.cell ≡ suc k
        → size_of v.live t.cell ≡ t.size
        → cochain_value v (suc k) (image_of K A z) t.cell
        ≡ sum_into K (complex_of v).arrows (cochain_value v k z) t.size t.cell
    value-is t live degree size =
        value-image_of K (of_degree (suc k) v.live) A z t.cell
        ∙ live-sum K F v.live full.rising k n rows z rows-shape hz
        ∙ sum_over-equal K F n (λ c. image_of K (columns c) (cochain_value v k z c))
        (λ c. image_of K (v.matrix c t.cell) (cochain_value v k z c)) (cells v.live)
        (λ c hc. term c hc (cases_eq (degree_of v.live c) k))
        ∙ sym (sum_into-live K F v (cochain_value v k z) n t.cell
        (λ s. matrix-size K n (size_of v.live s) (v.matrix s t.cell) (full.shape s t.cell)) full.rising live)
        ∙ ap (λ m. sum_into K (complex_of v).arrows (cochain_value v k z) m t.cell) size
      where
        n : ℕ
        n = size_of v.live t.cell

        rows : List (List ℕ)
        rows = rows_at v (suc k) A t.cell

        columns : ℕ → List (List ℕ)
        columns c = columns_at v k (rows_at v (suc k) A t.cell) c

        rows-shape : Matrix K (size_of v.live t.cell) (coordinates (complex_of v) k) (rows_at v (suc k) A t.cell)
        rows-shape = subst (λ m. Matrix K m (coordinates (complex_of v) k) (rows_at v (suc k) A t.cell))
            (size-of_degree v.live (suc k) t.cell live degree)
            (rows-matrix K (of_degree (suc k) v.live) (coordinates (complex_of v) k) A t.cell shape)

        -- cells of other degrees add nothing
        term : (c : ℕ) → has c (cells v.live) ≡ true
            → (degree_of v.live c ≡ k) ⊎ (degree_of v.live c ≡ k → ⊥)
            → image_of K (columns_at v k (rows_at v (suc k) A t.cell) c) (cochain_value v k z c)
            ≡ image_of K (v.matrix c t.cell) (cochain_value v k z c)
        term c hc (inl e) = ap (λ B. image_of K B (cochain_value v k z c)) (parts c t.cell hc live e degree)
        term c hc (inr apart) =
            let none : cochain_value v k z c ≡ [] = vector-nil K (cochain_value v k z c)
            (subst (λ m. Vector K m (cochain_value v k z c)) (size-other v.live k c full.rising apart hc)
            (value-vector K (of_degree k v.live) z c hz)) in
            ap (image_of K (columns_at v k (rows_at v (suc k) A t.cell) c)) none
            ∙ image_of-nil K F (size_of v.live t.cell) _ (columns_at v k (rows_at v (suc k) A t.cell) c)
            (columns-matrix K F (of_degree k v.live) (size_of v.live t.cell) (rows_at v (suc k) A t.cell) c rows-shape)
            ∙ sym (ap (image_of K (v.matrix c t.cell)) none
            ∙ image_of-nil K F (size_of v.live t.cell) (size_of v.live c) (v.matrix c t.cell) (full.shape c t.cell))

    joined-sends : image_of K A z ≡ coboundary K (complex_of v) k z
    joined-sends =
        cochain-joined v full.rising (suc k) K (image_of K A z)
        (image_of-vector K F (coordinates (complex_of v) (suc k)) (coordinates (complex_of v) k) A z shape)
        ∙ joined-same (λ (t : Cell). cochain_value v (suc k) (image_of K A z) t.cell)
        (λ (t : Cell). sum_into K (complex_of v).arrows (cochain_value v k z) t.size t.cell) (of_degree (suc k) v.live)
        (each-of_degree v full.rising (suc k)
        (λ (t : Cell). cochain_value v (suc k) (image_of K A z) t.cell
        ≡ sum_into K (complex_of v).arrows (cochain_value v k z) t.size t.cell)
        (λ t live degree size. value-is t live degree size))

-- it is the matrix of the coboundary
pub joined-coboundary : (K : Ops) (v : BlockComplex) (k : ℕ) (A : List (List ℕ)) → IsField K → IsBlockComplex K v
    → IsMatrix K (coordinates (complex_of v) (suc k)) (coordinates (complex_of v) k) A → IsJoinedIn v k A
    → IsMatrixOf K (coordinates (complex_of v) (suc k)) (coordinates (complex_of v) k) (coboundary K (complex_of v) k) A
joined-coboundary K v k A F is shape parts = record {
  shape = shape;
  sends = λ z hz. subst (λ C. image_of K A z ≡ coboundary K C k z) (same-complex v (filled v) (same-filled v))
      (joined-sends K F (filled v) (filled-full K F v is) k A
      (to_matrix K (coordinates (complex_of v) (suc k)) (coordinates (complex_of v) k) A shape)
      (λ s t hs ht ds dt. parts s t hs ht ds dt
      ∙ sym ((same-filled v).matrices s t (record { from = hs; to = ht })))
      z (to_vector K (coordinates (complex_of v) k) z hz));
}
