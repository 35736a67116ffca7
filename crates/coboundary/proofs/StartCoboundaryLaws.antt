-- The start complex of a sheaf has the coboundary of the sheaf: cells without a stalk and zero blocks change nothing.
use Rattle.std.proofs.Common.{◌≡◌, ◌≢◌, ℕ, zero, suc, ◌+◌, ◌<◌, ◌≤◌, Bool, true, false, cond, List, [], ◌∷◌}
use Rattle.std.proofs.Common.{length, map, filter, find, get_or, slice_index, None, Some, All, refl, sym, ap, ap₂, ◌∙◌}
use Rattle.std.proofs.Common.{subst, arith}
use Rattle.std.specs.Prelude.{◌==◌}
use Rattle.std.specs.List.{list_any, range_with_len}
use Rattle.std.specs.Option.{option_map, option_and_then}
use Rattle.std.proofs.lemmas.Bool.{or_parts}
use Rattle.std.proofs.lemmas.List.{get_or-map}
use Rattle.std.proofs.lemmas.List.Elements.{All-map, All-filter}
use Rattle.std.proofs.lemmas.List.FromFn.{length-range_with_len, get_or-range_with_len}
use Rattle.cell_complex.specs.declared.face.Face.{Face}
use Rattle.cell_complex.specs.Complexes.{CellComplex, joins, is_face, sign}
use Rattle.cell_complex.specs.Invariants.{IsComplex}
use Rattle.cell_complex.specs.Complexes as complexes
use Rattle.cell_complex.proofs.Callers.{incident_from_face}
use Rattle.dense_blocks.specs.Field.{Ops}
use Rattle.dense_blocks.specs.FieldLaws.{IsField}
use Rattle.dense_blocks.specs.Vectors.{IsVector, zeros}
use Rattle.dense_blocks.specs.Matrices.{image_of}
use Rattle.dense_blocks.specs.MatrixFacts.{zero_matrix}
use Rattle.dense_blocks.specs.Blocks.{matrix_of}
use Rattle.dense_blocks.specs.declared.block.Block.{Block}
use Rattle.dense_blocks.proofs.VectorLaws.{dot-nil}
use Rattle.dense_blocks.proofs.Shapes.{Matrix, matrix-size, from_matrix}
use Rattle.dense_blocks.proofs.MatrixLaws.{zero_matrix-matrix, zero_matrix-image_of}
use Rattle.dense_blocks.proofs.BlockLaws.{block-matrix_at}
use Rattle.square_check.specs.Squares.{restriction}
use Rattle.square_check.proofs.Placed.{restriction-fits}
use Rattle.cochain_vec.specs.declared.cell.Cell.{Cell}
use Rattle.cochain_vec.specs.Complexes.{CellularComplex, cells_of, coboundary, coordinates, sum_into, value_at}
use Rattle.cochain_vec.specs.Stalkless as stalkless
use Rattle.cochain_vec.proofs.StalklessLaws.{Agree, has_coordinates, coordinates-without_empty}
use Rattle.cochain_vec.proofs.StalklessLaws.{coboundary-without_empty, basis_over, agree_back}
use Rattle.cochain_vec.proofs.CoboundaryLaws.{joined-same}
use Rattle.cochain_vec.proofs.PathLaws.{sum_over-same, sum_into-by-source, arrows_from}
use Rattle.rising_lists.specs.Rising.{IsRising, has}
use Rattle.rising_lists.proofs.Keyed.{place_of, has-at}
use Rattle.block_complexes.specs.BlockComplexes.{BlockComplex, AreBothLive, IsBlockComplex, cells, degree_of, size_of}
use Rattle.block_complexes.specs.Cochains.{cell_of, complex_of}
use Rattle.block_complexes.proofs.LiveLaws.{cell-at, length-cells, of_cell-at}
use Rattle.block_complexes.proofs.SumLaws.{arriving, arriving-vector, sum_into-live, sum_over-some}
use Rattle.block_complexes.proofs.DegreeLaws.{value-absent}
use Rattle.sheaf_data.specs.Sheaves.{IsSheaf}
use Rattle.sheaf_data.specs.Betti.{signed_matrix, cochain_complex_of}
use Rattle.sheaf_data.specs.Arrows.{numbered_cells}
use Rattle.coboundary.specs.Start.{face_matrix, or_zeros, start_complex, with_stalks}
use Rattle.coboundary.specs.StartCoboundary.{StartIsBlockComplex, StartHasTheCoboundary, StartIsCochainComplex}
use Rattle.coboundary.specs.StartCoboundary.{StartHasTheCohomology}
use Rattle.coboundary.proofs.ArrowLaws.{between-none, between-face}
use Rattle.coboundary.proofs.MiddleLaws.{has_arrow, signed_matrix-matrix}
use Rattle.coboundary.proofs.ClosedLaws.{all-numbered_cells, from_stalks, rows, from_cells, dd_zero}
use Rattle.coboundary.proofs.LiveLaws.{numbered_cells-rising, with_stalks-rising, with_stalks-sizes}

not-found : {X : Type 0} (p : X → Bool) (xs : List X) → list_any p xs ≡ false → find p xs ≡ None
not-found p [] h = refl
not-found p (x ∷ xs) h =
    let e = or_parts (p x) (list_any p xs) h in
    ap (λ b. cond b (Some x) (find p xs)) e.0 ∙ not-found p xs e.1

range-rising : (a n : ℕ) → IsRising (range_with_len a n)
range-rising a n i j l m =
    let inside : j < n = omega (arith, m, length-range_with_len a n) in
    omega (arith, l, get_or-range_with_len a n i 0 (omega arith), get_or-range_with_len a n j 0 inside)

range-has : (n q : ℕ) → q < n → has q (range_with_len 0 n) ≡ true
range-has n q l =
    ap (λ k. has k (range_with_len 0 n)) (sym (get_or-range_with_len 0 n q 0 l ∙ zero-plus q))
    ∙ has-at (range_with_len 0 n) q (omega (arith, l, length-range_with_len 0 n))
  where
    zero-plus : (k : ℕ) → 0 + k ≡ k
    zero-plus k = omega arith

cells-of-rows : (cs : List Cell) → map cell_of (map (λ (c : Cell). (c.cell, c.degree, c.size)) cs) ≡ cs
cells-of-rows [] = refl
cells-of-rows (c ∷ cs) = ap (λ t. c ∷ t) (cells-of-rows cs)

-- v has the live cells and the matrices of the start complex
record IsStartAt (K : Ops) (c : CellComplex) (stalks : List ℕ) (blocks : List Block) (v : BlockComplex) : Type 0 where
  live : v.live ≡ with_stalks (numbered_cells 0 c.dims stalks)
  matrices : (s t : ℕ) → v.matrix s t ≡ or_zeros (face_matrix K c blocks s t) (size_of v.live t) (size_of v.live s)

starts : (K : Ops) (c : CellComplex) (stalks : List ℕ) (blocks : List Block)
    → IsStartAt K c stalks blocks (start_complex K c stalks blocks)
starts K c stalks blocks = record { live = refl; matrices = λ s t. refl }

module _ (K : Ops) (F : IsField K) (c : CellComplex) (stalks : List ℕ) (blocks : List Block) (v : BlockComplex)
    (complex : IsComplex c)
    (sheaf : IsSheaf K c stalks blocks) (start : IsStartAt K c stalks blocks v) where
  abbrev W : CellularComplex
  W = cochain_complex_of K c stalks blocks

  abbrev size : ℕ → ℕ
  size t = slice_index stalks t

  abbrev kept : List Cell
  kept = filter has_coordinates W.cells

  cells_are : (complex_of v).cells ≡ kept
  cells_are = ap (map cell_of) start.live ∙ cells-of-rows kept

  live_rises : IsRising (cells v.live)
  live_rises = subst (λ (live : List (ℕ × ℕ × ℕ)). IsRising (cells live)) (sym start.live)
      (with_stalks-rising c.dims stalks sheaf.one_each)

  -- a live cell has a stalk, which is as large as the cell, and its degree
  record IsAlive (t : ℕ) : Type 0 where
    inside : t < length c.dims
    same_size : size_of v.live t ≡ size t
    same_degree : degree_of v.live t ≡ slice_index c.dims t

  all_alive : All (λ (l : ℕ × ℕ × ℕ). (l.0 < length c.dims) × (l.2 ≡ size l.0) × (l.1 ≡ slice_index c.dims l.0)) v.live
  all_alive =
      subst (All (λ (l : ℕ × ℕ × ℕ). (l.0 < length c.dims) × (l.2 ≡ size l.0) × (l.1 ≡ slice_index c.dims l.0)))
      (sym start.live)
      (All-map (λ (l : ℕ × ℕ × ℕ). (l.0 < length c.dims) × (l.2 ≡ size l.0) × (l.1 ≡ slice_index c.dims l.0))
      (λ (u : Cell). (u.cell, u.degree, u.size)) kept
      (All-filter has_coordinates (λ (u : Cell). (u.cell < length c.dims) × (u.size ≡ size u.cell)
      × (u.degree ≡ slice_index c.dims u.cell)) W.cells
      (all-numbered_cells (λ (u : Cell). (u.cell < length c.dims) × (u.size ≡ size u.cell)
      × (u.degree ≡ slice_index c.dims u.cell)) 0 c.dims stalks sheaf.one_each
      (λ i l. let same : i ≡ 0 + i = omega arith in (omega arith, ap size same, ap (slice_index c.dims) same)))))

  alive : (t : ℕ) → has t (cells v.live) ≡ true → IsAlive t
  alive t h =
      let p = place_of (cells v.live) t h in
      let l : p.at < length v.live = omega (arith, p.inside, length-cells v.live) in
      let is : (get_or v.live p.at (0, 0, 0)).0 ≡ t = sym (cell-at v.live p.at l) ∙ p.is in
      let its = all_alive p.at (0, 0, 0) l in
      record {
        inside = subst (λ k. k < length c.dims) is its.0;
        same_size = of_cell-at (λ l. l.2) v.live p.at t live_rises l is ∙ its.1 ∙ ap size is;
        same_degree = of_cell-at (λ l. l.1) v.live p.at t live_rises l is ∙ its.2 ∙ ap (slice_index c.dims) is;
      }

  -- the matrix from s to t where s is a face of t, and where it is not
  record Joined (s t : ℕ) : Type 0 where
    its_matrix : List (List ℕ)
    is : face_matrix K c blocks s t ≡ Some its_matrix
    shape : Matrix K (size t) (size s) its_matrix
    acts : (value : ℕ → List ℕ) → sum_into K (arrows_from W.arrows s) value (size t) t ≡ image_of K its_matrix (value s)

  joined : (s t : ℕ) → is_face c s t ≡ true → Joined s t
  joined s t h =
      let a = has_arrow c blocks sheaf.shapes.count s t h in
      let fit = restriction-fits K c blocks (from_stalks K F c stalks blocks complex sheaf) s t a.its_block h a.block_is
      in
      record {
        its_matrix = signed_matrix K a.its_sign (matrix_of a.its_block);
        is = ap₂ (λ g r. option_and_then (λ g. option_map (λ b. signed_matrix K g (matrix_of b)) r) g) a.sign_is
            a.block_is;
        shape = signed_matrix-matrix K F (size t) (size s) a.its_sign (matrix_of a.its_block)
            (block-matrix_at K a.its_block (size t) (size s) fit.rows fit.cols fit.scalars);
        acts = λ value. between-face K F s t (size t) value c.faces blocks sheaf.shapes.count complex.apart
            (rows K F c stalks blocks complex sheaf t)
            a.its_sign a.its_block a.sign_is a.block_is;
      }

  apart : (s t : ℕ) → is_face c s t ≡ false → face_matrix K c blocks s t ≡ None
  apart s t h =
      ap (λ o. option_and_then (λ g. option_map (λ b. signed_matrix K g (matrix_of b)) (restriction c blocks s t))
      (option_map (λ (f : Face). f.sign) o))
      (not-found (joins s t) c.faces h)

  abbrev zero_between : ℕ → ℕ → List (List ℕ)
  zero_between s t = zero_matrix (size_of v.live t) (size_of v.live s)

  matrix-apart : (s t : ℕ) → is_face c s t ≡ false → v.matrix s t ≡ zero_between s t
  matrix-apart s t h = start.matrices s t ∙ ap (λ o. or_zeros o (size_of v.live t) (size_of v.live s)) (apart s t h)

  matrix-joined : (s t : ℕ) (j : Joined s t) → v.matrix s t ≡ j.its_matrix
  matrix-joined s t j = start.matrices s t ∙ ap (λ o. or_zeros o (size_of v.live t) (size_of v.live s)) j.is

  shape_at : (s t : ℕ) → AreBothLive v.live s t → Matrix K (size_of v.live t) (size_of v.live s) (v.matrix s t)
  shape_at s t l = go (is_face c s t) refl
    where
      go : (b : Bool) → is_face c s t ≡ b → Matrix K (size_of v.live t) (size_of v.live s) (v.matrix s t)
      go false h =
          subst (Matrix K (size_of v.live t) (size_of v.live s)) (sym (matrix-apart s t h))
          (zero_matrix-matrix K F (size_of v.live t) (size_of v.live s))
      go true h =
          let j = joined s t h in
          subst (λ m. Matrix K m (size_of v.live s) (v.matrix s t)) (sym (alive t l.to).same_size)
          (subst (λ n. Matrix K (size t) n (v.matrix s t)) (sym (alive s l.from).same_size)
          (subst (Matrix K (size t) (size s)) (sym (matrix-joined s t j)) j.shape))

  is_block_complex : IsBlockComplex K v
  is_block_complex = record {
    rising = live_rises;
    sizes = subst (All (λ (l : ℕ × ℕ × ℕ). 1 ≤ l.2)) (sym start.live) (with_stalks-sizes c.dims stalks);
    matrices = λ s t l. from_matrix K (size_of v.live t) (size_of v.live s) (v.matrix s t) (shape_at s t l);
    apart = λ s t l n. apart_at s t l n (is_face c s t) refl;
  }
    where
      apart_at : (s t : ℕ) → AreBothLive v.live s t → degree_of v.live t ≢ degree_of v.live s + 1 → (b : Bool)
          → is_face c s t ≡ b → v.matrix s t ≡ zero_between s t
      apart_at s t l n false h = matrix-apart s t h
      apart_at s t l n true h =
          absurd (n ((alive t l.to).same_degree ∙ (incident_from_face c complex s t h).one_up
          ∙ ap (λ d. d + 1) (sym (alive s l.from).same_degree)))

  -- into a live cell
  module _ (k : ℕ) (z : List ℕ) (t : ℕ) (is_live : has t (cells v.live) ≡ true) where
    abbrev value : ℕ → List ℕ
    value = value_at (cells_of (complex_of v) k) z

    same_size : size_of v.live t ≡ size t
    same_size = (alive t is_live).same_size

    zero-rows : (s : ℕ) → length (zero_between s t) ≡ size t
    zero-rows s =
        matrix-size K (size_of v.live t) (size_of v.live s) (zero_between s t)
        (zero_matrix-matrix K F (size_of v.live t) (size_of v.live s)) ∙ same_size

    zero-acts : (s : ℕ) (w : List ℕ) → image_of K (zero_between s t) w ≡ zeros (size t)
    zero-acts s w = zero_matrix-image_of K F (size_of v.live t) (size_of v.live s) w ∙ ap zeros same_size

    matrix-rows_of : (s : ℕ) → length (v.matrix s t) ≡ size t
    matrix-rows_of s = go (is_face c s t) refl
      where
        go : (b : Bool) → is_face c s t ≡ b → length (v.matrix s t) ≡ size t
        go false h = ap length (matrix-apart s t h) ∙ zero-rows s
        go true h =
            let j = joined s t h in
            ap length (matrix-joined s t j) ∙ matrix-size K (size t) (size s) j.its_matrix j.shape

    acts : (s : ℕ) → image_of K (v.matrix s t) (value s) ≡ sum_into K (arrows_from W.arrows s) value (size t) t
    acts s = go (is_face c s t) refl
      where
        go : (b : Bool) → is_face c s t ≡ b → image_of K (v.matrix s t) (value s) ≡ sum_into K (arrows_from W.arrows s)
            value (size t) t
        go false h =
            ap (λ A. image_of K A (value s)) (matrix-apart s t h) ∙ zero-acts s (value s)
            ∙ sym (between-none K F s t (size t) value c.faces blocks h)
        go true h =
            let j = joined s t h in
            ap (λ A. image_of K A (value s)) (matrix-joined s t j) ∙ sym (j.acts value)

    no-value : (s : ℕ) → has s (cells v.live) ≡ false → image_of K (v.matrix s t) (value s) ≡ zeros (size t)
    no-value s h =
        ap (image_of K (v.matrix s t)) (value-absent k v.live z s h)
        ∙ nothing (v.matrix s t) (size t) (matrix-rows_of s)
      where
        nothing : (A : List (List ℕ)) (n : ℕ) → length A ≡ n → image_of K A [] ≡ zeros n
        nothing [] zero e = refl
        nothing [] (suc n) e = absurd (omega arith)
        nothing (r ∷ A) zero e = absurd (omega arith)
        nothing (r ∷ A) (suc n) e = ap₂ ◌∷◌ (dot-nil K r) (nothing A n (omega arith))

    into-same : sum_into K (complex_of v).arrows value (size t) t ≡ sum_into K W.arrows value (size t) t
    into-same =
        sum_into-live K F v value (size t) t matrix-rows_of live_rises is_live
        ∙ sym (sum_over-some K F (size t) (arriving K F v value (size t) t matrix-rows_of) (complexes.all_cells c)
        (cells v.live)
        (range-rising 0 (length c.dims)) live_rises (λ q h. range-has (length c.dims) q (alive q h).inside)
        (arriving-vector K F v value (size t) t matrix-rows_of) no-value)
        ∙ sum_over-same K F (size t) (arriving K F v value (size t) t matrix-rows_of)
        (λ s. sum_into K (arrows_from W.arrows s) value (size t) t) (complexes.all_cells c) acts
        ∙ sym (sum_into-by-source K F (complexes.all_cells c) W.arrows value (size t) t
        (rows K F c stalks blocks complex sheaf t) (from_cells K F c stalks blocks complex sheaf))

  same : Agree K (complex_of v) W
  same = record {
    sizes = λ k. ap (λ cs. coordinates (record { cells = cs; arrows = [] }) k) cells_are
        ∙ coordinates-without_empty K W rising k;
    maps = λ k z.
        joined-same (λ t. sum_into K (complex_of v).arrows (value_at (cells_of (complex_of v) k) z) t.size t.cell)
        (λ t. sum_into K W.arrows (value_at (cells_of (complex_of v) k) z) t.size t.cell)
        (cells_of (complex_of v) (suc k)) (each k z)
        ∙ ap (λ cs. coboundary K (record { cells = cs; arrows = W.arrows }) k z) cells_are
        ∙ coboundary-without_empty K W rising k z;
  }
    where
      rising : stalkless.HasRisingCells W.cells
      rising = numbered_cells-rising 0 c.dims stalks sheaf.one_each

      each : (k : ℕ) (z : List ℕ)
          → All (λ (t : Cell). sum_into K (complex_of v).arrows (value_at (cells_of (complex_of v) k) z) t.size t.cell
          ≡ sum_into K W.arrows (value_at (cells_of (complex_of v) k) z) t.size t.cell)
          (cells_of (complex_of v) (suc k))
      each k z = All-filter (λ (t : Cell). t.degree == suc k)
          (λ (t : Cell). sum_into K (complex_of v).arrows (value_at (cells_of (complex_of v) k) z) t.size t.cell
          ≡ sum_into K W.arrows (value_at (cells_of (complex_of v) k) z) t.size t.cell) (complex_of v).cells
          (All-map (λ (t : Cell). sum_into K (complex_of v).arrows (value_at (cells_of (complex_of v) k) z) t.size
          t.cell
          ≡ sum_into K W.arrows (value_at (cells_of (complex_of v) k) z) t.size t.cell) cell_of v.live
          (λ i d l. at (get_or v.live i d) (is_listed i d l) (all_alive i d l).1))
        where
          is_listed : (i : ℕ) (d : ℕ × ℕ × ℕ) → i < length v.live → has (get_or v.live i d).0 (cells v.live) ≡ true
          is_listed i d l =
              ap (λ q. has q (cells v.live)) (sym (get_or-map (λ (l : ℕ × ℕ × ℕ). l.0) v.live i d 0 l))
              ∙ has-at (cells v.live) i (omega (arith, l, length-cells v.live))

          at : (l : ℕ × ℕ × ℕ) → has l.0 (cells v.live) ≡ true → l.2 ≡ size l.0
              → sum_into K (complex_of v).arrows (value_at (cells_of (complex_of v) k) z) l.2 l.0 ≡ sum_into K W.arrows
              (value_at (cells_of (complex_of v) k) z) l.2 l.0
          at l h e =
              ap (λ n. sum_into K (complex_of v).arrows (value_at (cells_of (complex_of v) k) z) n l.0) e
              ∙ into-same k z l.0 h
              ∙ ap (λ n. sum_into K W.arrows (value_at (cells_of (complex_of v) k) z) n l.0) (sym e)

abbrev begun : (K : Ops) (F : IsField K) (c : CellComplex) (stalks : List ℕ) (blocks : List Block) → IsComplex c
    → IsSheaf K c stalks blocks
    → Agree K (complex_of (start_complex K c stalks blocks)) (cochain_complex_of K c stalks blocks)
begun K F c stalks blocks complex sheaf = same K F c stalks blocks (start_complex K c stalks blocks) complex sheaf
    (starts K c stalks blocks)

pub start_is_block_complex : StartIsBlockComplex
start_is_block_complex K c stalks blocks F complex sheaf =
    is_block_complex K F c stalks blocks (start_complex K c stalks blocks) complex sheaf (starts K c stalks blocks)

pub start_has_the_coboundary : StartHasTheCoboundary
start_has_the_coboundary K c stalks blocks F complex sheaf =
    let same = begun K F c stalks blocks complex sheaf in
    record { sizes = same.sizes; maps = same.maps }

pub start_is_cochain_complex : StartIsCochainComplex
start_is_cochain_complex K c stalks blocks F complex sheaf k z is_cochain =
    let C = cochain_complex_of K c stalks blocks in
    let D = complex_of (start_complex K c stalks blocks) in
    let same = begun K F c stalks blocks complex sheaf in
    same.maps (suc k) (coboundary K D k z)
    ∙ ap (coboundary K C (suc k)) (same.maps k z)
    ∙ dd_zero K c stalks blocks F complex sheaf k z (subst (λ n. IsVector K n z) (same.sizes k) is_cochain)
    ∙ ap zeros (sym (same.sizes (suc (suc k))))

pub start_has_the_cohomology : StartHasTheCohomology
start_has_the_cohomology K c stalks blocks F complex sheaf k B =
    let C = cochain_complex_of K c stalks blocks in
    let D = complex_of (start_complex K c stalks blocks) in
    let same = begun K F c stalks blocks complex sheaf in
    (basis_over K D C same k B, basis_over K C D (agree_back K D C same) k B)
