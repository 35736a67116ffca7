-- The maps of a removal, and the operations that it makes on matrices, are the same for the same block complexes.
use Rattle.std.specs.Prelude.{◌==◌}
use Rattle.std.specs.List.{flat_map}
use Rattle.std.proofs.Common.{◌≡◌, ℕ, suc, true, cond, List, [], ◌∷◌, map, refl, sym, ap, ap₂, ◌∙◌}
use Rattle.dense_blocks.specs.Field.{Ops}
use Rattle.dense_blocks.specs.Vectors.{combination, zeros, plus}
use Rattle.dense_blocks.specs.MatrixFacts.{negative, matrix_sum, matrix_negative}
use Rattle.dense_blocks.specs.Matrices.{product, image_of}
use Rattle.cochain_vec.specs.declared.cell.Cell.{Cell}
use Rattle.cochain_vec.specs.Complexes.{CellularComplex, cells_of, value_at, sum_into}
use Rattle.cochain_vec.proofs.CoboundaryLaws.{joined-same}
use Rattle.rising_lists.specs.Rising.{IsRising, has}
use Rattle.block_complexes.specs.BlockComplexes.{BlockComplex, HaveSameMatrices, cells, size_of}
use Rattle.block_complexes.specs.Cochains.{complex_of, of_degree}
use Rattle.block_complexes.proofs.SameLaws.{same-complex}
use Rattle.removals.specs.Removals.{IsRemoval}
use Rattle.removals.proofs.SameRemovals.{both-before, removal-same-before, removal-one}
use Rattle.equivalence_laws.specs.RemovalMaps.{Removal, removal_pi, removal_iota, removal_h}
use Rattle.equivalence_laws.specs.Updates.{cell_rows, next_pi, next_iota, next_h}
use Rattle.equivalence_laws.proofs.CochainValues.{each-of_degree}

map-same : {A B : Type 0} (f g : A → B) (xs : List A) → ((x : A) → f x ≡ g x) → map f xs ≡ map g xs
map-same f g [] e = refl
map-same f g (x ∷ xs) e = ap₂ ◌∷◌ (e x) (map-same f g xs e)

module _ (K : Ops) (v v' : BlockComplex) (same : HaveSameMatrices v v') (x y : ℕ) (a : List (List ℕ))
    (w w' : BlockComplex)
    (removal : IsRemoval K v x y a w) (removal' : IsRemoval K v' x y a w') (rising : IsRising (cells w.live)) where
  was-live : (c : ℕ) → has c (cells w.live) ≡ true → has c (cells v.live) ≡ true
  was-live c h = (both-before K v x y a w removal c c (record { from = h; to = h })).from

  pub rest-same : HaveSameMatrices w w'
  rest-same = removal-one K v' x y a w w' (removal-same-before K v v' x y a w same removal) removal'

  abbrev r : Removal
  r = record { x = x; y = y; inverse = a; rest = w }

  abbrev r' : Removal
  r' = record { x = x; y = y; inverse = a; rest = w' }

  C-same : complex_of v ≡ complex_of v'
  C-same = sym (same-complex v v' same)

  D-same : complex_of w ≡ complex_of w'
  D-same = sym (same-complex w w' rest-same)

  -- from x to a cell that is left, and from one to y
  row-same : (t : ℕ) → has t (cells w.live) ≡ true → v.matrix x t ≡ v'.matrix x t
  row-same t h = sym (same.matrices x t (record { from = removal.pair.from; to = was-live t h }))

  column-same : (s : ℕ) → has s (cells w.live) ≡ true → v.matrix s y ≡ v'.matrix s y
  column-same s h = sym (same.matrices s y (record { from = was-live s h; to = removal.pair.to }))

  pub same-pi : (k : ℕ) (z : List ℕ) → removal_pi K v r k z ≡ removal_pi K v' r' k z
  same-pi k z =
      let part : CellularComplex → List (List ℕ) → Cell → List ℕ =
      λ C A t. plus K (value_at (cells_of C k) z t.cell)
      (negative K (image_of K A (image_of K a (value_at (cells_of C k) z y)))) in
      joined-same (λ (t : Cell). part (complex_of v) (v.matrix x t.cell) t)
      (λ (t : Cell). part (complex_of v) (v'.matrix x t.cell) t) (of_degree k w.live)
      (each-of_degree w rising k (λ (t : Cell). part (complex_of v) (v.matrix x t.cell) t
      ≡ part (complex_of v) (v'.matrix x t.cell) t)
      (λ t h degree size. ap (λ A. part (complex_of v) A t) (row-same t.cell h)))
      ∙ ap₂ (λ C D. flat_map (λ (t : Cell). part C (v'.matrix x t.cell) t) (cells_of D k)) C-same D-same

  pub same-iota : (k : ℕ) (z : List ℕ) → removal_iota K v r k z ≡ removal_iota K v' r' k z
  same-iota k z =
      let form : CellularComplex → CellularComplex → ℕ → List ℕ =
      λ C D n. flat_map
      (λ (t : Cell). cond (t.cell == x) (negative K (image_of K a
      (sum_into K C.arrows (value_at (cells_of D k) z) n y)))
      (cond (t.cell == y) (zeros t.size) (value_at (cells_of D k) z t.cell)))
      (cells_of C k) in
      ap₂ (λ C D. form C D (size_of v.live y)) C-same D-same
      ∙ ap (λ live. form (complex_of v') (complex_of w') (size_of live y)) (sym same.live)

  pub same-h : (k : ℕ) (z : List ℕ) → removal_h K v r k z ≡ removal_h K v' r' k z
  same-h k z =
      ap (λ (C : CellularComplex). flat_map (λ (t : Cell). cond (t.cell == x)
      (image_of K a (value_at (cells_of C (suc k)) z y)) (zeros t.size)) (cells_of C k)) C-same

  pub same-next_pi : (k n : ℕ) (A : List (List ℕ)) → next_pi K v r k n A ≡ next_pi K v' r' k n A
  same-next_pi k n A =
      let part : CellularComplex → List (List ℕ) → Cell → List (List ℕ) =
      λ C B t. matrix_sum K (cell_rows (cells_of C k) A t.cell)
      (matrix_negative K (product K n B (product K n a (cell_rows (cells_of C k) A y)))) in
      joined-same (λ (t : Cell). part (complex_of v) (v.matrix x t.cell) t)
      (λ (t : Cell). part (complex_of v) (v'.matrix x t.cell) t) (of_degree k w.live)
      (each-of_degree w rising k (λ (t : Cell). part (complex_of v) (v.matrix x t.cell) t
      ≡ part (complex_of v) (v'.matrix x t.cell) t)
      (λ t h degree size. ap (λ B. part (complex_of v) B t) (row-same t.cell h)))
      ∙ ap₂ (λ C D. flat_map (λ (t : Cell). part C (v'.matrix x t.cell) t) (cells_of D k)) C-same D-same

  pub same-next_iota : (k : ℕ) (A : List (List ℕ)) → next_iota K v r k A ≡ next_iota K v' r' k A
  same-next_iota k A =
      let part : CellularComplex → List (List ℕ) → List ℕ → Cell → List ℕ =
      λ C B row s. plus K (value_at (cells_of C k) row s.cell)
      (negative K (combination K s.size (value_at (cells_of C k) row x) (product K s.size a B))) in
      map-same (λ row. flat_map (λ (s : Cell). part (complex_of v) (v.matrix s.cell y) row s) (of_degree k w.live))
      (λ row. flat_map (λ (s : Cell). part (complex_of v) (v'.matrix s.cell y) row s) (of_degree k w.live)) A
      (λ row.
      joined-same (λ (s : Cell). part (complex_of v) (v.matrix s.cell y) row s)
      (λ (s : Cell). part (complex_of v) (v'.matrix s.cell y) row s) (of_degree k w.live)
      (each-of_degree w rising k (λ (s : Cell). part (complex_of v) (v.matrix s.cell y) row s
      ≡ part (complex_of v) (v'.matrix s.cell y) row s)
      (λ s h degree size. ap (λ B. part (complex_of v) B row s) (column-same s.cell h))))
      ∙ ap₂ (λ C D. map (λ row. flat_map (λ (s : Cell). part C (v'.matrix s.cell y) row s) (cells_of D k)) A) C-same
      D-same

  pub same-next_h : (k n : ℕ) (h iota pi : List (List ℕ)) → next_h K v r k n h iota pi ≡ next_h K v' r' k n h iota pi
  same-next_h k n h iota pi =
      ap (λ (C : CellularComplex).
      matrix_sum K h (product K n (map (λ row. value_at (cells_of C k) row x) iota)
      (product K n a (cell_rows (cells_of C (suc k)) pi y)))) C-same
