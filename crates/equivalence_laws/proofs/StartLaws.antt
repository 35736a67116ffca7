-- The maps of no removal, cell by cell: rows of the identity, and zeros.
use Rattle.std.specs.List.{flat_map}
use Rattle.std.proofs.Common.{◌≡◌, ◌≢◌, ℕ, zero, suc, ◌+◌, ◌<◌, ◌≤◌, Bool, true, false, cond, eqb, refl, sym, ap, ap₂, ◌∙◌}
use Rattle.std.proofs.Common.{subst, arith, List, [], ◌∷◌, ◌++◌, length, map, take, drop, get_or, All, take-append-drop}
use Rattle.std.proofs.lemmas.List.{drop-drop}
use Rattle.std.proofs.lemmas.Bool.{eq-eqb, ne_eqb}
use Rattle.std.proofs.lemmas.List.Elements.{All-map, All-from_get_or}
use Rattle.dense_blocks.specs.Field.{Ops}
use Rattle.dense_blocks.specs.FieldLaws.{IsField}
use Rattle.dense_blocks.specs.Vectors.{zeros, combination}
use Rattle.dense_blocks.specs.MatrixFacts.{identity, zero_matrix}
use Rattle.dense_blocks.specs.Matrices.{image_of}
use Rattle.dense_blocks.proofs.Shapes.{Vector, Matrix, vector-nil, to_vector, from_matrix}
use Rattle.dense_blocks.proofs.MatrixLaws.{identity-matrix, identity-image_of, combination-identity, no-rows}
use Rattle.dense_blocks.proofs.MatrixLaws.{zero_matrix-matrix, zero_matrix-image_of}
use Rattle.cochain_vec.specs.declared.cell.Cell.{Cell}
use Rattle.cochain_vec.specs.Complexes.{total_size, coordinates, cells_of, value_at}
use Rattle.cochain_vec.proofs.CoboundaryLaws.{joined-same}
use Rattle.rising_lists.specs.Rising.{IsRising, has}
use Rattle.rising_lists.proofs.Keyed.{rising_tail, rising_head}
use Rattle.block_complexes.specs.BlockComplexes.{BlockComplex, cells, degree_of, size_of}
use Rattle.block_complexes.specs.Cochains.{complex_of, cell_of, of_degree}
use Rattle.block_complexes.proofs.LiveLaws.{cell-at, length-cells}
use Rattle.block_complexes.proofs.ComplexLaws.{size-of_degree}
use Rattle.equivalence_laws.specs.Updates.{cell_rows}
use Rattle.equivalence_laws.proofs.UpdateLaws.{rows-matrix, value-image_of, drop-matrix}
use Rattle.equivalence_laws.proofs.CochainValues.{rising-cells, each-of_degree}
use Rattle.equivalence_laws.specs.CellMaps.{CellMaps, AreRowsAt, AreCellMapsOf, AreFirstMaps}
use Rattle.cochain_vec.specs.Stalkless as stalkless
use Rattle.cochain_vec.proofs.StalklessLaws as stalkless_laws

-- the rows at a cell of the degree, by its place
pub rows-place : (k : ℕ) (live : List (ℕ × ℕ × ℕ)) (A : List (List ℕ)) (i : ℕ) → IsRising (cells live)
    → i < length live → (get_or live i (0, 0, 0)).1 ≡ k
    → cell_rows (of_degree k live) A (get_or live i (0, 0, 0)).0 ≡ take (get_or live i (0, 0, 0)).2
    (drop (total_size (of_degree k (take i live))) A)
rows-place k [] A i r l e = absurd (omega arith)
rows-place k (x ∷ xs) A zero r l e = rw (eq-eqb x.1 k e, eq-eqb x.0 x.0 refl) refl
rows-place k (x ∷ xs) A (suc i) r l e =
    go (eqb x.1 k) (λ B. rows-place k xs B i (rising_tail x.0 (cells xs) r) (omega arith) e)
  where
    s : ℕ
    s = (get_or xs i (0, 0, 0)).0

    n : ℕ
    n = (get_or xs i (0, 0, 0)).2

    before : List Cell
    before = of_degree k (take i xs)

    apart : x.0 ≢ s
    apart f = absurd (omega (
      arith,
      rising_head x.0 (cells xs) r i (omega (arith, l, length-cells xs)),
      cell-at xs i (omega (arith, l)),
      f,
    ))

    go : (b : Bool) → ((B : List (List ℕ)) → cell_rows (of_degree k xs) B s ≡ take n (drop (total_size before) B))
        → cell_rows (cond b (cell_of x ∷ of_degree k xs) (of_degree k xs)) A s
        ≡ take n (drop (total_size (cond b (cell_of x ∷ before) before)) A)
    go true h = rw (ne_eqb x.0 s apart) (h (drop x.2 A) ∙ ap (take n) (drop-drop (total_size before) x.2 A))
    go false h = h A

-- a matrix is joined from its rows at cells
rows-joined : (K : Ops) (n : ℕ) (cs : List Cell) (A : List (List ℕ)) → stalkless.HasRisingCells cs
    → Matrix K (total_size cs) n A → A ≡ flat_map (λ (t : Cell). cell_rows cs A t.cell) cs
rows-joined K n [] A r h = no-rows K n A h
rows-joined K n (c ∷ cs) A r h =
    sym (take-append-drop c.size A)
    ∙ ap₂ ◌++◌ (sym (ap (λ b. cond b (take c.size A) (cell_rows cs (drop c.size A) c.cell)) (eq-eqb c.cell c.cell refl)))
    (rows-joined K n cs (drop c.size A) r.1 (drop-matrix K c.size (total_size cs) n A h)
    ∙ joined-same (λ (t : Cell). cell_rows cs (drop c.size A) t.cell) (λ (t : Cell). cell_rows (c ∷ cs) A t.cell) cs
    (λ i d l. let t = get_or cs i d in
    sym (ap (λ b. cond b (take c.size A) (cell_rows cs (drop c.size A) t.cell))
    (ne_eqb c.cell t.cell (λ e. let less = r.0 i d l in absurd (omega arith))))))

module _ (K : Ops) (F : IsField K) (v : BlockComplex) (rises : IsRising (cells v.live)) (m : CellMaps)
    (first : AreFirstMaps v m) where
  abbrev n : ℕ → ℕ
  n k = coordinates (complex_of v) k

  abbrev units_at : ℕ → ℕ → List (List ℕ)
  units_at k c = cell_rows (of_degree k v.live) (identity (n k)) c

  unit-shape : (c : ℕ) → has c (cells v.live) ≡ true
      → Matrix K (size_of v.live c) (n (degree_of v.live c)) (units_at (degree_of v.live c) c)
  unit-shape c h =
      let k = degree_of v.live c in
      subst (λ j. Matrix K j (n k) (cell_rows (of_degree k v.live) (identity (n k)) c))
      (size-of_degree v.live k c h refl)
      (rows-matrix K (of_degree k v.live) (n k) (identity (n k)) c (identity-matrix K F (n k)))

  rows-at : (rows : ℕ → List (List ℕ)) → ((c : ℕ) → has c (cells v.live) ≡ true
      → rows c ≡ units_at (degree_of v.live c) c) → AreRowsAt K (complex_of v) v rows
  rows-at rows is c h = from_matrix K (size_of v.live c) (n (degree_of v.live c)) (rows c)
      (subst (Matrix K (size_of v.live c) (n (degree_of v.live c))) (sym (is c h)) (unit-shape c h))

  by-degree : (rows : ℕ → List (List ℕ)) → ((c : ℕ) → has c (cells v.live) ≡ true
      → rows c ≡ units_at (degree_of v.live c) c)
      → (k c : ℕ) → has c (cells v.live) ≡ true → degree_of v.live c ≡ k → rows c ≡ units_at k c
  by-degree rows is k c h e = is c h ∙ ap (λ d. units_at d c) e

  pub first_maps : AreCellMapsOf K v [] m
  first_maps = record {
    live_is = first.live_is;
    pi_rows = rows-at m.pi first.pi_is;
    pi_is = λ k z hz c h e.
        ap (λ A. image_of K A z) (by-degree m.pi first.pi_is k c h e)
        ∙ sym (value-image_of K (of_degree k v.live) (identity (n k)) z c)
        ∙ ap (λ w. value_at (of_degree k v.live) w c) (identity-image_of K F (n k) z (to_vector K (n k) z hz));
    iota_rows = rows-at m.iota first.iota_is;
    iota_is = λ k z hz.
        ap (combination K (n k) z)
        (joined-same (λ (t : Cell). m.iota t.cell)
        (λ (t : Cell). cell_rows (of_degree k v.live) (identity (n k)) t.cell) (of_degree k v.live)
        (each-of_degree v rises k
        (λ (t : Cell). m.iota t.cell ≡ cell_rows (of_degree k v.live) (identity (n k)) t.cell)
        (λ t h e is. by-degree m.iota first.iota_is k t.cell h e))
        ∙ sym (rows-joined K (n k) (of_degree k v.live) (identity (n k))
        (stalkless_laws.rising-filter (λ (c : Cell). eqb c.degree k) (map cell_of v.live) (rising-cells v.live rises))
        (identity-matrix K F (n k))))
        ∙ combination-identity K F (n k) z (to_vector K (n k) z hz);
    h_is = λ k. record {
      shape = from_matrix K (n k) (n (suc k)) (m.h k)
          (subst (Matrix K (n k) (n (suc k))) (sym (first.h_is k)) (zero_matrix-matrix K F (n k) (n (suc k))));
      sends = λ z hz. ap (λ A. image_of K A z) (first.h_is k) ∙ zero_matrix-image_of K F (n k) (n (suc k)) z;
    };
  }
