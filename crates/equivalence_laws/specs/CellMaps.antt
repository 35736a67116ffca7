-- The maps of a composite of removals, cell by cell.
use Rattle.std.specs.Prelude.{◌≡◌, ℕ, suc, true, List, []}
use Rattle.std.specs.List.{flat_map}
use Rattle.dense_blocks.specs.Field.{Ops}
use Rattle.dense_blocks.specs.Vectors.{combination}
use Rattle.dense_blocks.specs.Matrices.{image_of}
use Rattle.dense_blocks.specs.MatrixFacts.{IsMatrix, identity, zero_matrix}
use Rattle.dense_blocks.specs.LinearMaps.{IsMatrixOf}
use Rattle.rising_lists.specs.Rising.{has}
use Rattle.cochain_vec.specs.Complexes.{CellularComplex, IsCochain, cells_of, coordinates}
use Rattle.block_complexes.specs.BlockComplexes.{BlockComplex, cells, degree_of, size_of}
use Rattle.block_complexes.specs.Cochains.{complex_of, of_degree}
use Rattle.equivalence_laws.specs.Equivalences.{GradedMap}
use Rattle.equivalence_laws.specs.RemovalMaps.{Removal, cochain_value}
use Rattle.equivalence_laws.specs.Updates.{cell_rows}
use Rattle.equivalence_laws.specs.Composites.{rest_of, removals_pi, removals_iota, removals_h}

-- the cells that are left; at each of them the rows of pi, and the columns of iota, each as a row; and for each degree
-- the matrix of h
pub record CellMaps : Type 0 where
  pub live : List (ℕ × ℕ × ℕ)
  pub pi : ℕ → List (List ℕ)
  pub iota : ℕ → List (List ℕ)
  pub h : ℕ → List (List ℕ)

-- at each live cell c of u a row for each coordinate of c, of as many entries as cochains of C of c's degree have
abbrev pub AreRowsAt : Ops → CellularComplex → BlockComplex → (ℕ → List (List ℕ)) → Type 0
AreRowsAt K C u rows = (c : ℕ) → has c (cells u.live) ≡ true
    → IsMatrix K (size_of u.live c) (coordinates C (degree_of u.live c)) (rows c)

-- they are those of the maps p, i and l, from v to w: at each cell c of w, the rows of pi send z to the value of p z
-- at c; and i z is the combination of the columns by z
pub record AreCellMapsBetween (K : Ops) (v w : BlockComplex) (p i l : GradedMap) (m : CellMaps) : Type 0 where
  pub live_is : m.live ≡ w.live
  pub pi_rows : AreRowsAt K (complex_of v) w m.pi
  pub pi_is : (k : ℕ) (z : List ℕ) → IsCochain K (complex_of v) k z → (c : ℕ) → has c (cells w.live) ≡ true
      → degree_of w.live c ≡ k → image_of K (m.pi c) z ≡ cochain_value w k (p k z) c
  pub iota_rows : AreRowsAt K (complex_of v) w m.iota
  pub iota_is : (k : ℕ) (z : List ℕ) → IsCochain K (complex_of w) k z
      → combination K (coordinates (complex_of v) k) z (flat_map (λ t. m.iota t.cell) (cells_of (complex_of w) k))
      ≡ i k z
  pub h_is : (k : ℕ)
      → IsMatrixOf K (coordinates (complex_of v) k) (coordinates (complex_of v) (suc k)) (l k) (m.h k)

-- they are those of pi, iota and h of the composite of removals from v
abbrev pub AreCellMapsOf : Ops → BlockComplex → List Removal → CellMaps → Type 0
AreCellMapsOf K v rs m = AreCellMapsBetween K v (rest_of v rs) (removals_pi K v rs) (removals_iota K v rs) (removals_h K v rs) m

-- rows of the identity at each cell, and a zero matrix for each degree
pub record AreFirstMaps (v : BlockComplex) (m : CellMaps) : Type 0 where
  pub live_is : m.live ≡ v.live
  pub pi_is : (c : ℕ) → has c (cells v.live) ≡ true
      → m.pi c ≡ cell_rows (of_degree (degree_of v.live c) v.live)
      (identity (coordinates (complex_of v) (degree_of v.live c))) c
  pub iota_is : (c : ℕ) → has c (cells v.live) ≡ true
      → m.iota c ≡ cell_rows (of_degree (degree_of v.live c) v.live)
      (identity (coordinates (complex_of v) (degree_of v.live c))) c
  pub h_is : (k : ℕ) → m.h k ≡ zero_matrix (coordinates (complex_of v) k) (coordinates (complex_of v) (suc k))
