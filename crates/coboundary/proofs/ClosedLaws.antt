-- The coboundary of a coboundary of a sheaf is zero: between two all_cells are no paths of two faces, or two that
-- cancel.
use Rattle.std.proofs.Common.{◌≡◌, ℕ, zero, suc, ◌+◌, ◌<◌, ◌≤◌, Bool, true, false, cond, ◌&&◌, ◌⊎◌, ⊎_elim, eqb, List}
use Rattle.std.proofs.Common.{[], ◌∷◌, length, filter, get_or, slice_index, Some, All, refl, sym, ap, ap₂, ◌∙◌, subst}
use Rattle.std.proofs.Common.{IsTrue, arith}
use Rattle.std.specs.Prelude.{◌==◌}
use Rattle.std.specs.List.{range_with_len}
use Rattle.std.specs.Option.{option_map, option_and_then}
use Rattle.std.proofs.lemmas.Bool.{true≢false, and_cases, eqb-true, eqb-false, eq-eqb, ne_eqb}
use Rattle.std.proofs.lemmas.List.{length-map}
use Rattle.std.proofs.lemmas.List.Elements.{All-cons, All-filter, filter_passes}
use Rattle.cell_complex.specs.declared.face.Sign.{Sign}
use Rattle.cell_complex.specs.Complexes.{CellComplex, all_cells, is_face, middles}
use Rattle.cell_complex.specs.Invariants.{IsComplex}
use Rattle.cell_complex.proofs.Callers.{incident_from_face}
use Rattle.incidence_check.specs.Incidences.{are_opposite, are_opposite_pair, times}
use Rattle.incidence_check.specs.Answers.{HasOppositeMiddles}
use Rattle.incidence_check.proofs.Faults.{opposite_middles}
use Rattle.incidence_check.specs.Incidences as incidences
use Rattle.dense_blocks.specs.Field.{Ops}
use Rattle.dense_blocks.specs.FieldLaws.{IsField}
use Rattle.dense_blocks.specs.Vectors.{AllScalars, zeros, plus, combination}
use Rattle.dense_blocks.specs.Matrices.{image_of, product}
use Rattle.dense_blocks.specs.Blocks.{matrix_of}
use Rattle.dense_blocks.specs.declared.block.Block.{Block}
use Rattle.dense_blocks.proofs.Shapes.{Vector, matrix-size}
use Rattle.dense_blocks.proofs.VectorLaws.{plus-zeros}
use Rattle.dense_blocks.proofs.MatrixLaws.{image_of-zeros}
use Rattle.dense_blocks.proofs.BlockLaws.{block-matrix, block-matrix_at}
use Rattle.square_check.specs.Squares.{through}
use Rattle.square_check.specs.TouchedFaces.{AreRestrictions}
use Rattle.square_check.proofs.Placed.{restriction-fits, face-fits, some-same, all-at}
use Rattle.square_check.proofs.Commuting.{IsBetween, between-head, between-second, through-is}
use Rattle.cochain_vec.specs.declared.cell.Cell.{Cell}
use Rattle.cochain_vec.specs.Complexes.{Arrow, CellularComplex, cells_of, value_at, sum_into}
use Rattle.cochain_vec.specs.Shapes.{RowsFit}
use Rattle.cochain_vec.proofs.CoboundaryLaws.{size_at, RowsInto, image_of-rows, sum_into-vector}
use Rattle.cochain_vec.proofs.PathLaws.{sum_over, sum_over-filter, arrows_from, ComeFrom, after, AreSizes, rows_from}
use Rattle.cochain_vec.proofs.PathLaws.{coboundary-coboundary, coboundary-cocycle}
use Rattle.sheaf_data.specs.Sheaves.{IsSheaf}
use Rattle.sheaf_data.specs.Betti.{signed_matrix, cochain_complex_of}
use Rattle.sheaf_data.specs.Arrows.{numbered_cells}
use Rattle.coboundary.specs.Closed.{CoboundaryOfCoboundaryIsZero, CoboundariesAreCocycles}
use Rattle.coboundary.proofs.ArrowLaws.{between-none, between-face, all-arrows}
use Rattle.coboundary.proofs.MiddleLaws.{signed_vector, signed_matrix-matrix, signed_matrix-twice, opposite-cancel}
use Rattle.coboundary.proofs.MiddleLaws.{has_arrow}

-- what holds of the cell at each place holds of all numbered_cells all_cells
pub all-numbered_cells : (P : Cell → Type 0) (n : ℕ) (dims stalks : List ℕ) → length stalks ≡ length dims
    → ((i : ℕ) → i < length dims
    → P (record { cell = n + i; degree = slice_index dims i; size = slice_index stalks i }))
    → All P (numbered_cells n dims stalks)
all-numbered_cells P n [] stalks e h = λ k d l. absurd (omega arith)
all-numbered_cells P n (d ∷ dims) [] e h = absurd (omega arith)
all-numbered_cells P n (d ∷ dims) (size ∷ stalks) e h =
    let start : n + 0 ≡ n = omega arith in
    All-cons P (record { cell = n; degree = d; size = size }) (numbered_cells (n + 1) dims stalks)
    (subst (λ m. P (record { cell = m; degree = d; size = size })) start (h 0 (omega arith)))
    (all-numbered_cells P (n + 1) dims stalks (omega arith) (λ i l.
    let step : n + suc i ≡ (n + 1) + i = omega arith in
    subst (λ m. P (record { cell = m; degree = slice_index dims i; size = slice_index stalks i })) step
    (h (suc i) (omega arith))))

-- among the all_cells of its degree, a cell has its size
size-numbered_cells : (k n i : ℕ) (dims stalks : List ℕ) → length stalks ≡ length dims → i < length dims
    → slice_index dims i ≡ k
    → size_at (filter (λ c. c.degree == k) (numbered_cells n dims stalks)) (n + i) ≡ slice_index stalks i
unfolding size_at
size-numbered_cells k n i [] stalks e l is = absurd (omega arith)
size-numbered_cells k n i (d ∷ dims) [] e l is = absurd (omega arith)
size-numbered_cells k n zero (d ∷ dims) (size ∷ stalks) e l is =
    ap (λ b. size_at (cond b (record { cell = n; degree = d; size = size } ∷ rest) rest) (n + 0)) (eq-eqb d k is)
    ∙ ap (λ b. cond b size (size_at rest (n + 0))) (eq-eqb n (n + 0) (omega arith))
  where
    rest : List Cell
    rest = filter (λ c. c.degree == k) (numbered_cells (n + 1) dims stalks)
size-numbered_cells k n (suc i) (d ∷ dims) (size ∷ stalks) e l is =
    go (eqb d k)
    ∙ ap (size_at rest) step
    ∙ size-numbered_cells k (n + 1) i dims stalks (omega arith) (omega arith) is
  where
    rest : List Cell
    rest = filter (λ c. c.degree == k) (numbered_cells (n + 1) dims stalks)

    step : n + suc i ≡ (n + 1) + i
    step = omega arith

    go : (b : Bool) → size_at (cond b (record { cell = n; degree = d; size = size } ∷ rest) rest) (n + suc i)
        ≡ size_at rest (n + suc i)
    go true = ap (λ b. cond b size (size_at rest (n + suc i))) (ne_eqb n (n + suc i) (λ e. omega arith))
    go false = refl

-- a range has each of its numbers once
none-in-range : (s a n : ℕ) → s < a → length (filter (λ x. s == x) (range_with_len a n)) ≡ 0
none-in-range s a zero l = refl
none-in-range s a (suc n) l =
    let rest : List ℕ = filter (λ x. s == x) (range_with_len (a + 1) n) in
    ap (λ b. length (cond b (a ∷ rest) rest)) (ne_eqb s a (λ e. omega arith)) ∙ none-in-range s (a + 1) n (omega arith)

once-in-range : (s a n : ℕ) → a ≤ s → s < a + n → length (filter (λ x. s == x) (range_with_len a n)) ≡ 1
once-in-range s a zero l m = absurd (omega arith)
once-in-range s a (suc n) l m = go (eqb s a) refl (none-in-range s (a + 1) n) (once-in-range s (a + 1) n)
  where
    rest : List ℕ
    rest = filter (λ x. s == x) (range_with_len (a + 1) n)

    go : (b : Bool) → eqb s a ≡ b → (s < a + 1 → length rest ≡ 0) → (a + 1 ≤ s → s < (a + 1) + n → length rest ≡ 1)
        → length (cond b (a ∷ rest) rest) ≡ 1
    go true e none once = ap suc (none (omega (arith, eqb-true s a e)))
    go false e none once = once (omega (arith, eqb-false s a e)) (omega arith)

module _ (K : Ops) (F : IsField K) (c : CellComplex) (stalks : List ℕ) (blocks : List Block) (complex : IsComplex c)
    (sheaf : IsSheaf K c stalks blocks) where
  abbrev pub W : CellularComplex
  W = cochain_complex_of K c stalks blocks

  abbrev pub size : ℕ → ℕ
  size t = slice_index stalks t

  abbrev pub from_stalks : AreRestrictions K c blocks
  from_stalks = record { stalks = stalks; shapes = sheaf.shapes; scalars = sheaf.scalars }

  same : length blocks ≡ length c.faces
  same = sheaf.shapes.count

  pub rows : (t : ℕ) → RowsInto W.arrows (size t) t
  unfolding RowsInto
  rows t = all-arrows K (λ (a : Arrow). a.to ≡ t → length a.matrix ≡ size t) c.faces blocks
      (λ p f b is_f is_b e.
      let shapes = sheaf.shapes in
      let matrix = block-matrix_at K b (size f.t) (size f.s) (shapes.rows p f b is_f is_b) (shapes.cols p f b is_f is_b)
      (all-at (λ (b : Block). AllScalars K b.entries) blocks p b sheaf.scalars is_b) in
      matrix-size K (size f.t) (size f.s) (signed_matrix K f.sign (matrix_of b))
      (signed_matrix-matrix K F (size f.t) (size f.s) f.sign (matrix_of b) matrix) ∙ ap size e)

  pub from_cells : ComeFrom W.arrows (all_cells c)
  from_cells = all-arrows K (λ (a : Arrow). length (filter (λ s. a.from == s) (all_cells c)) ≡ 1) c.faces blocks
      (λ p f b is_f is_b. let fit = face-fits c complex p f is_f in once-in-range f.s 0 (length c.dims) (omega arith)
      (omega (arith, fit.s_is_cell)))

  sized : All (λ (u : Cell). (u.size ≡ size u.cell) × (u.degree ≡ slice_index c.dims u.cell)) W.cells
  sized = all-numbered_cells (λ (u : Cell). (u.size ≡ size u.cell) × (u.degree ≡ slice_index c.dims u.cell)) 0 c.dims
      stalks sheaf.one_each
      (λ i l. let start : i ≡ 0 + i = omega arith in (ap size start, ap (slice_index c.dims) start))

  fits : RowsFit W
  unfolding RowsInto
  fits i d l j e m same = rows (get_or W.cells i d).cell j e m same ∙ sym (sized i d l).0

  sizes : (k : ℕ) → AreSizes W k size
  sizes k = record {
    rows = rows;
    above = All-filter (λ (u : Cell). u.degree == suc (suc k)) (λ (u : Cell). u.size ≡ size u.cell) W.cells
        (λ i d l. (sized i d l).0);
    between = λ i d l. below (get_or (cells_of W (suc (suc k))) i d)
        (All-filter (λ (u : Cell). u.degree == suc (suc k)) (λ (u : Cell). u.degree ≡ slice_index c.dims u.cell) W.cells
        (λ i d l. (sized i d l).1) i d l)
        (eqb-true (get_or (cells_of W (suc (suc k))) i d).degree (suc (suc k))
        (filter_passes (λ (u : Cell). u.degree == suc (suc k)) W.cells i d l));
  }
    where
      below : (u : Cell) → u.degree ≡ slice_index c.dims u.cell → u.degree ≡ suc (suc k)
          → All (λ (a : Arrow). a.to ≡ u.cell → size_at (cells_of W (suc k)) a.from ≡ size a.from) W.arrows
      below u is degree = all-arrows K (λ (a : Arrow). a.to ≡ u.cell → size_at (cells_of W (suc k)) a.from
          ≡ size a.from) c.faces blocks
          (λ p f b is_f is_b e.
          let fit = face-fits c complex p f is_f in
          let start : f.s ≡ 0 + f.s = omega arith in
          ap (size_at (cells_of W (suc k))) start
          ∙ size-numbered_cells (suc k) 0 f.s c.dims stalks sheaf.one_each fit.s_is_cell
          (omega (arith, fit.one_up, ap (slice_index c.dims) e)))

  -- from the cell s to the cell u
  module _ (value : ℕ → List ℕ) (s u : ℕ) where
    -- what goes from s through the cell t to u
    abbrev at : ℕ → List ℕ
    at t = sum_into K (arrows_from W.arrows t) (after K W.arrows size value s) (size u) u

    at-vector : (t : ℕ) → Vector K (size u) (at t)
    at-vector t = sum_into-vector K F (arrows_from W.arrows t) (after K W.arrows size value s) (size u) u
        (rows_from K F W.arrows (size u) u t (rows u))

    -- nothing where t is not between
    at-elsewhere : (t : ℕ) → (is_face c s t && is_face c t u) ≡ false → at t ≡ zeros (size u)
    at-elsewhere t h = go (is_face c t u) refl (and_cases (is_face c s t) (is_face c t u) h)
      where
        low : ℕ → List ℕ
        low = after K W.arrows size value s

        go : (b : Bool) → is_face c t u ≡ b → (is_face c s t ≡ false) ⊎ (is_face c t u ≡ false) → at t ≡ zeros (size u)
        go false e either = between-none K F t u (size u) low c.faces blocks e
        go true e either =
            let a = has_arrow c blocks same t u e in
            let none : is_face c s t ≡ false = ⊎_elim (λ (h : is_face c s t ≡ false). h) (λ (h : is_face c t u ≡ false).
            absurd (true≢false (sym e ∙ h))) either in
            let fit = restriction-fits K c blocks from_stalks t u a.its_block e a.block_is in
            let A = signed_matrix K a.its_sign (matrix_of a.its_block) in
            between-face K F t u (size u) low c.faces blocks same complex.apart (rows u) a.its_sign a.its_block
            a.sign_is a.block_is
            ∙ ap (image_of K A) (between-none K F s t (size t) value c.faces blocks none)
            ∙ image_of-zeros K F (size t) (size u) (size t) A
            (signed_matrix-matrix K F (size u) (size t) a.its_sign (matrix_of a.its_block)
            (block-matrix_at K a.its_block (size u) (size t) fit.rows fit.cols fit.scalars))

    -- the product of the signs times the product of the restrictions where t is between
    record Passes (t : ℕ) : Type 0 where
      its_sign : Sign
      its_matrix : List (List ℕ)
      sign_is : incidences.sign_product c s t u ≡ Some its_sign
      matrix_is : through K c blocks s t u ≡ Some its_matrix
      vector : Vector K (size u) (image_of K its_matrix (value s))
      acts : at t ≡ signed_vector K its_sign (image_of K its_matrix (value s))

    passes : (t : ℕ) → IsBetween c s u t → Passes t
    passes t h =
        let low = has_arrow c blocks same s t h.lower in
        let up = has_arrow c blocks same t u h.upper in
        let low_fit = restriction-fits K c blocks from_stalks s t low.its_block h.lower low.block_is in
        let up_fit = restriction-fits K c blocks from_stalks t u up.its_block h.upper up.block_is in
        let A = matrix_of up.its_block in
        let B = matrix_of low.its_block in
        let n = low.its_block.cols in
        let size_is : length A ≡ size u = matrix-size K (size u) (size t) A
        (block-matrix_at K up.its_block (size u) (size t) up_fit.rows up_fit.cols up_fit.scalars) in
        let B_is = block-matrix K low.its_block low_fit.scalars in
        record {
          its_sign = times low.its_sign up.its_sign;
          its_matrix = product K n A B;
          sign_is = ap₂ (λ a b. option_and_then (λ x. option_map (times x) b) a) low.sign_is up.sign_is;
          matrix_is = through-is K c blocks s t u low.its_block up.its_block low.block_is up.block_is;
          vector = image_of-rows K F (size u) (product K n A B) (value s) (length-map A (λ row. combination K n row B)
              ∙ size_is);
          acts =
              between-face K F t u (size u) (after K W.arrows size value s) c.faces blocks same complex.apart (rows u)
              up.its_sign up.its_block up.sign_is up.block_is
              ∙ ap (image_of K (signed_matrix K up.its_sign A))
              (between-face K F s t (size t) value c.faces blocks same complex.apart (rows t) low.its_sign low.its_block
              low.sign_is low.block_is)
              ∙ signed_matrix-twice K F low.its_block.rows n low.its_sign up.its_sign A B (value s) B_is
              (image_of-rows K F (length A) A (image_of K B (value s)) refl);
        }

    two : (a b : ℕ) → Passes a → Passes b → are_opposite (incidences.sign_product c s a u)
        (incidences.sign_product c s b u) ≡ true
        → through K c blocks s a u ≡ through K c blocks s b u → sum_over K (size u) at (a ∷ b ∷ []) ≡ zeros (size u)
    two a b p q opposite e =
        let one : p.its_matrix ≡ q.its_matrix = some-same p.its_matrix q.its_matrix (sym p.matrix_is ∙ e ∙ q.matrix_is)
        in
        let v = image_of K p.its_matrix (value s) in
        ap₂ (plus K) p.acts (plus-zeros K F (size u) (at b) (at-vector b) ∙ q.acts
        ∙ ap (λ A. signed_vector K q.its_sign (image_of K A (value s))) (sym one))
        ∙ opposite-cancel K F (size u) p.its_sign q.its_sign v p.vector
        (ap₂ are_opposite (sym p.sign_is) (sym q.sign_is) ∙ opposite)

    both : HasOppositeMiddles c s u → sum_over K (size u) at (middles c s u) ≡ zeros (size u)
    both m =
        ap (sum_over K (size u) at) m.middles
        ∙ two m.first m.second (passes m.first (between-head c s u m.first (m.second ∷ []) m.middles))
        (passes m.second (between-second c s u m.first m.second [] m.middles)) m.opposite
        (subst (λ ts. All (λ t. All (λ v. through K c blocks s t u ≡ through K c blocks s v u) ts) ts) m.middles
        (sheaf.commutes s u) 0 0 (omega arith) 1 0 (omega arith))

    cancelled : sum_over K (size u) at (all_cells c) ≡ zeros (size u)
    cancelled =
        sum_over-filter K F (size u) at (λ t. is_face c s t && is_face c t u) (all_cells c) at-vector at-elsewhere
        ∙ go (middles c s u) refl
      where
        go : (ts : List ℕ) → middles c s u ≡ ts → sum_over K (size u) at (middles c s u) ≡ zeros (size u)
        go [] e = ap (sum_over K (size u) at) e
        go (t ∷ ts) e =
            let h = between-head c s u t ts e in
            let low = incident_from_face c complex s t h.lower in
            let up = incident_from_face c complex t u h.upper in
            ⊎_elim (λ (none : middles c s u ≡ []). ap (sum_over K (size u) at) none)
            (λ (m : IsTrue (are_opposite_pair (λ t. incidences.sign_product c s t u) (middles c s u))).
            both (opposite_middles c s u (middles c s u) refl m))
            (sheaf.regular.squares s u low.s_is_cell up.t_is_cell (omega (arith, low.one_up, up.one_up)))

pub dd_zero : CoboundaryOfCoboundaryIsZero
dd_zero K c stalks blocks F complex sheaf k z is_cochain =
    coboundary-coboundary K F (W K F c stalks blocks complex sheaf) (fits K F c stalks blocks complex sheaf) k
    (slice_index stalks) (sizes K F c stalks blocks complex sheaf k)
    (all_cells c) (from_cells K F c stalks blocks complex sheaf) z
    (cancelled K F c stalks blocks complex sheaf (value_at (cells_of (cochain_complex_of K c stalks blocks) k) z))

pub coboundaries_are_cocycles : CoboundariesAreCocycles
coboundaries_are_cocycles K c stalks blocks F complex sheaf =
    coboundary-cocycle K F (cochain_complex_of K c stalks blocks) (fits K F c stalks blocks complex sheaf)
    (dd_zero K c stalks blocks F complex sheaf)
