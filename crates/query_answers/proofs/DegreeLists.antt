-- Joined matrices degree by degree: their shapes, and the coboundary that they are the matrices of.
use Rattle.std.proofs.Common.{◌≡◌, ℕ, suc, ◌+◌, ◌<◌, ◌≤◌, List, [], ◌∷◌, ◌++◌, length, get_or, Option, Some, slice_get}
use Rattle.std.proofs.Common.{All, refl, sym, ap, ◌∙◌, subst, arith, inl, inr, add-one, length-append}
use Rattle.std.specs.List.{flat_map}
use Rattle.std.specs.Option.{option_map_or}
use Rattle.std.proofs.lemmas.Bool.{ne_eqb, cases_lt}
use Rattle.std.proofs.lemmas.List.{get_or_push, get_or_append_left}
use Rattle.std.proofs.lemmas.List.Elements.{All-head, All-tail}
use Rattle.std.proofs.lemmas.Option.{get_or_from_slice_get, slice_get_within, slice_get_cases}
use Rattle.dense_blocks.specs.Field.{Ops}
use Rattle.dense_blocks.specs.FieldLaws.{IsField}
use Rattle.dense_blocks.specs.Blocks.{matrix_of}
use Rattle.dense_blocks.specs.MatrixFacts.{IsMatrix}
use Rattle.dense_blocks.specs.LinearMaps.{IsMatrixOf}
use Rattle.dense_blocks.specs.declared.block.Block.{Block}
use Rattle.dense_blocks.proofs.BlockLaws.{block-size, block-matrix_at}
use Rattle.dense_blocks.proofs.Shapes.{from_matrix, to_vector}
use Rattle.cochain_vec.specs.declared.cell.Cell.{Cell}
use Rattle.cochain_vec.specs.Complexes.{CellularComplex, coboundary, coordinates, total_size, value_at, sum_into}
use Rattle.block_complexes.specs.BlockComplexes.{IsBlockComplex}
use Rattle.block_complexes.specs.Cochains.{complex_of, of_degree}
use Rattle.block_sparse.specs.StoredBlocks.{StoredBlocks, complex_in}
use Rattle.block_sparse.specs.Invariants.{IsSound}
use Rattle.block_sparse.proofs.StoredLaws.{block_complex-full}
use Rattle.reduce_step.specs.Parts.{IsJoinedBlock}
use Rattle.reduce_step.proofs.JoinedScalars.{sized-live, joined-scalars}
use Rattle.query_answers.specs.Degrees.{AreCoboundaryMatrices, HaveCoboundaryShapes, sized_of_degree}
use Rattle.query_answers.proofs.CellLists.{sized_cells, width-sized, sized-same, cells-rise, cells-sized}
use Rattle.query_answers.proofs.JoinedLaws.{coboundary-joined}

-- the joined matrix of the cells of degree k and of the next
abbrev pub IsDegreeBlock : StoredBlocks → ℕ → Block → Type 0
IsDegreeBlock v k b = IsJoinedBlock v (sized_of_degree k v.live) (sized_of_degree (k + 1) v.live) b

-- one for each of so many degrees
pub record AreDegreeBlocks (v : StoredBlocks) (degrees : ℕ) (blocks : List Block) : Type 0 where
  pub one_each : length blocks ≡ degrees
  pub each : (k : ℕ) (b : Block) → k < degrees → IsDegreeBlock v k (get_or blocks k b)

pub degree-next : (v : StoredBlocks) (n : ℕ) (blocks longer : List Block) (b : Block) → AreDegreeBlocks v n blocks
    → longer ≡ blocks ++ b ∷ [] → IsDegreeBlock v n b → AreDegreeBlocks v (n + 1) longer
degree-next v n blocks longer b h e is = record {
  one_each = ap length e ∙ omega (arith, length-append blocks (b ∷ []), h.one_each);
  each = λ k d l. elim (cases_lt k n) [
    | inl u ↦ subst (IsDegreeBlock v k)
        (sym (ap (λ bs. get_or bs k d) e ∙ get_or_append_left blocks (b ∷ []) d k (omega (arith, u, h.one_each))))
        (h.each k d u)
    | inr u ↦
        let here : n ≡ k = omega arith in
        subst (IsDegreeBlock v k)
        (sym (ap (λ bs. get_or bs k d) e ∙ get_or_push blocks b d k (omega (arith, h.one_each, here))))
        (subst (λ j. IsDegreeBlock v j b) here is)
  ];
}

pub degree-all : (v : StoredBlocks) (n degrees : ℕ) (blocks all : List Block) → AreDegreeBlocks v n blocks → n ≡ degrees
    → all ≡ blocks → AreDegreeBlocks v degrees all
degree-all v n degrees blocks all h e f =
    subst (AreDegreeBlocks v degrees) (sym f) (subst (λ n. AreDegreeBlocks v n blocks) e h)

at-cells : (v : StoredBlocks) (k : ℕ) (b : Block) → IsDegreeBlock v k b
    → IsJoinedBlock v (sized_cells (of_degree k v.live)) (sized_cells (of_degree (suc k) v.live)) b
at-cells v k b h =
    let next : sized_of_degree (k + 1) v.live ≡ sized_cells (of_degree (suc k) v.live) =
    ap (λ j. sized_of_degree j v.live) (add-one k) ∙ sized-same (suc k) v.live in
    subst (λ ls. IsJoinedBlock v ls (sized_cells (of_degree (suc k) v.live)) b) (sized-same k v.live)
    (subst (λ ls. IsJoinedBlock v (sized_of_degree k v.live) ls b) next h)

degree-rows : (v : StoredBlocks) (k : ℕ) (b : Block) → IsDegreeBlock v k b → b.rows
    ≡ total_size (of_degree (suc k) v.live)
degree-rows v k b h = (at-cells v k b h).rows ∙ width-sized (of_degree (suc k) v.live)

degree-columns : (v : StoredBlocks) (k : ℕ) (b : Block) → IsDegreeBlock v k b → b.cols
    ≡ total_size (of_degree k v.live)
degree-columns v k b h = (at-cells v k b h).cols ∙ width-sized (of_degree k v.live)

-- above the largest degree there are no cells
pub no-cells : (degrees k : ℕ) (live : List (ℕ × ℕ × ℕ)) → All (λ l. l.1 < degrees) live → degrees ≤ k
    → of_degree k live ≡ []
no-cells degrees k [] h l = refl
no-cells degrees k (x ∷ xs) h l =
    let low : x.1 < degrees = All-head (λ (x : ℕ × ℕ × ℕ). x.1 < degrees) x xs h in
    rw (ne_eqb x.1 k (λ e. absurd (omega (arith, low, l, e))))
    (no-cells degrees k xs (All-tail (λ (x : ℕ × ℕ × ℕ). x.1 < degrees) x xs h) l)

module _ (v : StoredBlocks) where
  abbrev C : CellularComplex
  C = complex_of (complex_in v)

  module _ (degrees : ℕ) (blocks : List Block) (h : AreDegreeBlocks v degrees blocks) where
    block-at : (k : ℕ) (b : Block) → slice_get blocks k ≡ Some b → IsDegreeBlock v k b
    block-at k b at = subst (IsDegreeBlock v k) (get_or_from_slice_get blocks k b b at)
        (h.each k b (omega (arith, slice_get_within blocks k b at, h.one_each)))

    pub degree-shapes : HaveCoboundaryShapes degrees C blocks
    degree-shapes = record {
      one_each = h.one_each;
      rows = λ k b at. degree-rows v k b (block-at k b at);
      columns = λ k b at. degree-columns v k b (block-at k b at);
    }

  module _ (K : Ops) (F : IsField K) (sound : IsSound v.live v.rows v.columns)
      (over : IsBlockComplex K (complex_in v)) where
    abbrev IsOfCoboundary : ℕ → List (List ℕ) → Type 0
    IsOfCoboundary k A = IsMatrixOf K (coordinates C (suc k)) (coordinates C k) (coboundary K C k) A

    coboundary-block : (k : ℕ) (b : Block) → IsDegreeBlock v k b → IsOfCoboundary k (matrix_of b)
    coboundary-block k b h =
        let m : ℕ = total_size (of_degree (suc k) v.live) in
        let n : ℕ = total_size (of_degree k v.live) in
        let left = sized_cells (of_degree k v.live) in
        let below = sized_cells (of_degree (suc k) v.live) in
        let rises = sound.live_cells.rising in
        let is = at-cells v k b h in
        let scalars = joined-scalars K v left below b over (cells-rise v.live rises k)
        (cells-rise v.live rises (suc k)) (sized-live v.live left (cells-sized v.live rises k))
        (sized-live v.live below (cells-sized v.live rises (suc k))) is.cols is.rows is.parts in
        record {
          shape = from_matrix K m n (matrix_of b)
              (block-matrix_at K b m n (degree-rows v k b h) (degree-columns v k b h) scalars);
          sends = λ z hz.
              coboundary-joined K F (complex_in v) (block_complex-full K F v sound over) k (matrix_of b) is.parts
              (block-size b ∙ degree-rows v k b h) z (to_vector K n z hz);
        }

    coboundary-none : (k : ℕ) → of_degree (suc k) v.live ≡ [] → IsOfCoboundary k []
    coboundary-none k none = record {
      shape = subst (λ cs. IsMatrix K (total_size cs) (coordinates C k) []) (sym none)
          (from_matrix K 0 (coordinates C k) [] tt);
      sends = λ z hz. sym (ap (flat_map (λ (t : Cell). sum_into K C.arrows (value_at (of_degree k v.live) z) t.size
          t.cell)) none);
    }

    pub degree-matrices : (degrees : ℕ) (blocks : List Block) → AreDegreeBlocks v degrees blocks
        → All (λ l. l.1 < degrees) v.live → AreCoboundaryMatrices K C blocks
    degree-matrices degrees blocks h low k =
        let at : Option Block → Type 0 = λ o. IsOfCoboundary k (option_map_or matrix_of o []) in
        elim (slice_get_cases blocks k).1 [
          | inl w ↦ subst at (sym w.2) (coboundary-block k w.0 (block-at degrees blocks h k w.0 w.2))
          | inr p ↦ subst at (sym p.1)
              (coboundary-none k (no-cells degrees (suc k) v.live low (omega (arith, p.0, h.one_each))))
        ]
