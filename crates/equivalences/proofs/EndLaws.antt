-- The joined maps of a log are an equivalence.
use Rattle.std.specs.List.{flat_map}
use Rattle.std.specs.Prelude.{slice_get}
use Rattle.std.specs.Option.{option_map_or}
use Rattle.std.proofs.Common.{◌≡◌, ℕ, zero, suc, ◌≤◌, List, [], ◌∷◌, length, All}
use Rattle.std.proofs.Common.{refl, sym, ap, subst, arith, Option, Some, None}
use Rattle.std.proofs.lemmas.Bool.{ne_eqb}
use Rattle.std.proofs.lemmas.List.Elements.{All-tail, All-head}
use Rattle.dense_blocks.specs.Field.{Ops}
use Rattle.dense_blocks.specs.FieldLaws.{IsField}
use Rattle.dense_blocks.specs.Vectors.{AllScalars}
use Rattle.dense_blocks.specs.MatrixFacts.{IsMatrix}
use Rattle.dense_blocks.specs.LinearMaps.{IsMatrixOf}
use Rattle.dense_blocks.specs.Blocks.{matrix_of}
use Rattle.dense_blocks.specs.BlockFacts.{IsBlock}
use Rattle.dense_blocks.specs.declared.block.Block.{Block}
use Rattle.dense_blocks.proofs.Shapes.{Matrix, to_matrix}
use Rattle.dense_blocks.proofs.MatrixLaws.{no-rows}
use Rattle.dense_blocks.proofs.Cutting.{flat-cut, flat-scalars}
use Rattle.cochain_vec.specs.declared.cell.Cell.{Cell}
use Rattle.cochain_vec.specs.Complexes.{CellularComplex, coordinates, total_size}
use Rattle.cochain_vec.specs.CochainComplexes.{IsCochainComplex}
use Rattle.block_complexes.specs.BlockComplexes.{BlockComplex, IsBlockComplex}
use Rattle.block_complexes.specs.Cochains.{complex_of, of_degree}
use Rattle.block_complexes.proofs.SameLaws.{same-refl, same-complex}
use Rattle.block_sparse.specs.StoredBlocks.{AreLive}
use Rattle.removals.specs.Reductions.{IsAfter}
use Rattle.removals.proofs.ReductionLaws.{removals_leave_one}
use Rattle.reduce_step.specs.declared.record.Step.{Step}
use Rattle.reduce_step.specs.Logs.{AreStepsFrom, pairs_of}
use Rattle.reduce_step.proofs.LogLaws.{steps-after}
use Rattle.equivalence_laws.specs.Equivalences.{GradedMatrix}
use Rattle.equivalence_laws.specs.RemovalMaps.{Removal}
use Rattle.equivalence_laws.specs.Composites.{AreRemovals, removal_pairs, rest_of, IsComposite}
use Rattle.equivalence_laws.specs.Composites.{removals_pi, removals_iota, removals_h}
use Rattle.equivalence_laws.proofs.CompositeLaws.{composite_is_equivalence}
use Rattle.equivalence_laws.proofs.ReductionLaws.{removals-after}
use Rattle.equivalences.specs.GradedBlocks.{IsBlockOver, AreBlocksOver}
use Rattle.equivalence_laws.specs.Equivalences.{graded_matrix}
use Rattle.equivalences.specs.Between.{IsEquivalenceOf}
use Rattle.equivalence_laws.specs.Transposes.{transpose}
use Rattle.equivalence_laws.specs.CellMaps.{CellMaps, AreCellMapsOf}
use Rattle.equivalences.specs.LogMaps.{AreJoined, AreBlocksOf}
use Rattle.equivalences.specs.declared.equivalence.Equivalence.{Equivalence}
use Rattle.equivalence_laws.proofs.MapsLaws.{maps_composite}

-- a list without a member at k is no longer than k
slice_get-none : {A : Type 0} (xs : List A) (k : ℕ) → slice_get xs k ≡ None → length xs ≤ k
slice_get-none [] k e = omega arith
slice_get-none (x ∷ xs) zero e = absurd (let bad : Some x ≡ None = e in cc)
slice_get-none (x ∷ xs) (suc k) e = let l : length xs ≤ k = slice_get-none xs k e in omega arith

-- no live cell has a degree above the highest
pub of_degree-none : (k : ℕ) (live : List (ℕ × ℕ × ℕ)) → All (λ (l : ℕ × ℕ × ℕ). l.1 ≤ 15) live → 16 ≤ k
    → of_degree k live ≡ []
of_degree-none k [] h l = refl
of_degree-none k (c ∷ cs) h l =
    let below : c.1 ≤ 15 = All-head (λ (l : ℕ × ℕ × ℕ). l.1 ≤ 15) c cs h in
    rw (ne_eqb c.1 k (λ e. absurd (omega (arith, below, l, e))))
    (of_degree-none k cs (All-tail (λ (l : ℕ × ℕ × ℕ). l.1 ≤ 15) c cs h) l)

-- the blocks' matrices, in all degrees
graded : (rows columns : ℕ → ℕ) (A : GradedMatrix) (blocks : List Block) → AreBlocksOf rows columns A blocks
    → length blocks ≡ 16 → ((k : ℕ) → 16 ≤ k → A k ≡ []) → (k : ℕ) → A k ≡ graded_matrix blocks k
graded rows columns A blocks are count above k = go (slice_get blocks k) refl
  where
    go : (o : Option Block) → slice_get blocks k ≡ o → A k ≡ option_map_or matrix_of o []
    go None e = above k (omega (arith, slice_get-none blocks k e, count))
    go (Some b) e = sym (are k b e).matrix_is

-- the entries of a block whose matrix is one of scalars
block-scalars : (K : Ops) (m n : ℕ) (b : Block) (A : List (List ℕ)) → IsBlock b m n A → IsMatrix K m n A
    → IsBlockOver K m n b
block-scalars K m n b A is h = record {
  rows_are = is.rows_are;
  columns_are = is.columns_are;
  scalars = subst (AllScalars K) (flat-cut b.rows b.cols b.entries b.full)
      (flat-scalars K m n (matrix_of b)
      (to_matrix K m n (matrix_of b) (subst (IsMatrix K m n) (sym is.matrix_is) h)));
}

blocks-over : (K : Ops) (rows columns : ℕ → ℕ) (A : GradedMatrix) (blocks : List Block)
    → AreBlocksOf rows columns A blocks → ((k : ℕ) → IsMatrix K (rows k) (columns k) (A k))
    → AreBlocksOver K rows columns blocks
blocks-over K rows columns A blocks are h k b e = block-scalars K (rows k) (columns k) b (A k) (are k b e) (h k)

same-matrix : (K : Ops) (m n : ℕ) (f : List ℕ → List ℕ) (A B : List (List ℕ)) → A ≡ B → IsMatrixOf K m n f A
    → IsMatrixOf K m n f B
same-matrix K m n f A B e is = subst (IsMatrixOf K m n f) e is

module _ (K : Ops) (F : IsField K) (v : BlockComplex) (rs : List Removal) (is : IsBlockComplex K v)
    (closed : IsCochainComplex K (complex_of v)) (removals : AreRemovals K v rs) (m : CellMaps)
    (maps : AreCellMapsOf K v rs m) (fits : AreLive v.live) (left_fits : AreLive m.live) (e : Equivalence)
    (joined : AreJoined (complex_of v) m e) where
  abbrev u : BlockComplex
  u = rest_of v rs

  abbrev C : CellularComplex
  C = complex_of v

  abbrev rows_of_pi : GradedMatrix
  rows_of_pi k = flat_map (λ (t : Cell). m.pi t.cell) (of_degree k m.live)

  abbrev columns_of_iota : GradedMatrix
  columns_of_iota k = transpose (coordinates C k) (flat_map (λ (t : Cell). m.iota t.cell) (of_degree k m.live))

  left-none : (k : ℕ) → 16 ≤ k → of_degree k m.live ≡ []
  left-none k l = of_degree-none k m.live left_fits.degrees l

  no-coordinates : (k : ℕ) → 16 ≤ k → coordinates C k ≡ 0
  no-coordinates k l = ap total_size (of_degree-none k v.live fits.degrees l)

  composite : IsComposite K v rs rows_of_pi columns_of_iota m.h
  composite =
      subst (λ live. IsComposite K v rs (λ k. flat_map (λ (t : Cell). m.pi t.cell) (of_degree k live))
      (λ k. transpose (coordinates C k) (flat_map (λ (t : Cell). m.iota t.cell) (of_degree k live))) m.h)
      (sym maps.live_is)
      (maps_composite K F v rs (record { is = is; closed = closed }) removals m maps)

  pi-graded : (k : ℕ) → rows_of_pi k ≡ graded_matrix e.pi k
  pi-graded = graded (λ k. total_size (of_degree k m.live)) (coordinates C) rows_of_pi e.pi joined.pi e.pi_count
      (λ k l. ap (flat_map (λ (t : Cell). m.pi t.cell)) (left-none k l))

  iota-graded : (k : ℕ) → columns_of_iota k ≡ graded_matrix e.iota k
  iota-graded = graded (coordinates C) (λ k. total_size (of_degree k m.live)) columns_of_iota e.iota joined.iota
      e.iota_count
      (λ k l. ap (λ n. transpose n (flat_map (λ (t : Cell). m.iota t.cell) (of_degree k m.live))) (no-coordinates k l))

  h-graded : (k : ℕ) → m.h k ≡ graded_matrix e.h k
  h-graded = graded (coordinates C) (λ k. coordinates C (suc k)) m.h e.h joined.h e.h_count
      (λ k l. no-rows K (coordinates C (suc k)) (m.h k)
      (subst (λ n. Matrix K n (coordinates C (suc k)) (m.h k)) (no-coordinates k l)
      (to_matrix K (coordinates C k) (coordinates C (suc k)) (m.h k) (maps.h_is k).shape)))

  pub joined_composite : IsComposite K v rs (graded_matrix e.pi) (graded_matrix e.iota) (graded_matrix e.h)
  joined_composite = record {
    pi_is = λ k. same-matrix K (coordinates (complex_of u) k) (coordinates C k) (removals_pi K v rs k) (rows_of_pi k)
        (graded_matrix e.pi k) (pi-graded k) (composite.pi_is k);
    iota_is = λ k. same-matrix K (coordinates C k) (coordinates (complex_of u) k) (removals_iota K v rs k)
        (columns_of_iota k) (graded_matrix e.iota k) (iota-graded k) (composite.iota_is k);
    h_is = λ k. same-matrix K (coordinates C k) (coordinates C (suc k)) (removals_h K v rs k) (m.h k)
        (graded_matrix e.h k) (h-graded k) (composite.h_is k);
  }

  left-coordinates : (k : ℕ) → total_size (of_degree k m.live) ≡ coordinates (complex_of u) k
  left-coordinates k = ap (λ live. total_size (of_degree k live)) maps.live_is

  pub joined_equivalence : IsEquivalenceOf K C (complex_of u) e
  joined_equivalence = record {
    maps = record {
      pi = λ k b at. block-scalars K (coordinates (complex_of u) k) (coordinates C k) b (rows_of_pi k)
          (subst (λ n. IsBlock b n (coordinates C k) (rows_of_pi k)) (left-coordinates k) (joined.pi k b at))
          (composite.pi_is k).shape;
      iota = λ k b at. block-scalars K (coordinates C k) (coordinates (complex_of u) k) b (columns_of_iota k)
          (subst (λ n. IsBlock b (coordinates C k) n (columns_of_iota k)) (left-coordinates k) (joined.iota k b at))
          (composite.iota_is k).shape;
      h = λ k b at. block-scalars K (coordinates C k) (coordinates C (suc k)) b (m.h k) (joined.h k b at)
          (composite.h_is k).shape;
    };
    equivalence = composite_is_equivalence K v F is closed rs (graded_matrix e.pi) (graded_matrix e.iota)
        (graded_matrix e.h) removals joined_composite;
  }

  -- and of any block complex that the steps leave
  pub joined_after : (log : List Step) (w : BlockComplex) → removal_pairs rs ≡ pairs_of log
      → AreStepsFrom K v log w → IsEquivalenceOf K C (complex_of w) e
  joined_after log w pairs steps =
      let own : IsAfter K v (pairs_of log) u =
      subst (λ ps. IsAfter K v ps u) pairs (removals-after K v u rs removals (same-refl u)) in
      let same = removals_leave_one K v u w (pairs_of log) F is own (steps-after K log v w steps) in
      subst (λ D. IsEquivalenceOf K C D e) (sym (same-complex u w same)) joined_equivalence
