-- What a step's calls ask for: the shapes of its blocks, and of the rows at its cells.
use Rattle.std.proofs.Common.{◌≡◌, ◌≢◌, ◌≤◌, ◌<◌, ℕ, suc, ◌+◌, Bool, true, false, cond, ◌||◌, eqb, not}
use Rattle.std.proofs.Common.{refl, sym, ap, ap₂, ◌∙◌, subst, arith, List, [], ◌∷◌, length, take, drop}
use Rattle.std.proofs.Common.{get_or, All, take-append-drop, length-drop}
use Rattle.std.specs.Prelude.{◌==◌, filter}
use Rattle.std.proofs.lemmas.Bool.{eq-eqb, ne_eqb}
use Rattle.std.proofs.lemmas.List.{get_or-map, length-map}
use Rattle.dense_blocks.specs.Field.{Ops}
use Rattle.dense_blocks.specs.FieldLaws.{IsField}
use Rattle.dense_blocks.specs.Vectors.{AllScalars}
use Rattle.dense_blocks.specs.Matrices.{product}
use Rattle.dense_blocks.specs.MatrixFacts.{IsMatrix, matrix_negative}
use Rattle.dense_blocks.specs.Blocks.{matrix_of}
use Rattle.dense_blocks.specs.BlockFacts.{IsBlock}
use Rattle.dense_blocks.specs.declared.block.Block.{Block}
use Rattle.dense_blocks.proofs.Shapes.{Matrix, to_matrix, matrix-size, append-matrix}
use Rattle.dense_blocks.proofs.Cutting.{Sized, cut-size, flat-cut, flat-scalars}
use Rattle.cochain_vec.specs.Complexes.{CellularComplex, coordinates, total_size}
use Rattle.rising_lists.specs.Rising.{ByCell, IsRising, has, keys}
use Rattle.rising_lists.proofs.Keyed.{rising_tail, head-absent, has-at}
use Rattle.block_complexes.specs.BlockComplexes.{BlockComplex, IsBlockComplex, cells, degree_of, size_of}
use Rattle.block_complexes.specs.Cochains.{complex_of, of_degree}
use Rattle.removals.proofs.CornerLaws.{without-twice}
use Rattle.block_sparse.specs.StoredBlocks.{AreLive}
use Rattle.block_sparse.specs.Grids.{segment, width}
use Rattle.block_sparse.proofs.GridLaws.{sized-live}
use Rattle.block_sparse.proofs.Windows.{sized-cut}
use Rattle.reduce_step.specs.declared.record.Step.{Step}
use Rattle.reduce_step.specs.Differences.{listed_size}
use Rattle.reduce_step.proofs.JoinedParts.{listed_size-live}
use Rattle.reduce_step.proofs.DifferenceLaws.{live-size}
use Rattle.equivalence_laws.specs.RemovalMaps.{Removal}
use Rattle.equivalence_laws.specs.Composites.{rest_of}
use Rattle.equivalence_laws.specs.Transposes.{transpose}
use Rattle.equivalence_laws.specs.CellMaps.{CellMaps}
use Rattle.equivalence_laws.proofs.TransposeLaws.{transpose-matrix, transpose-length}
use Rattle.equivalence_laws.proofs.CompositeLaws.{last_is}
use Rattle.equivalences.specs.GradedBlocks.{IsBlockOver}
use Rattle.equivalences.specs.Rows.{cell_rows_of, with_product, with_products}
use Rattle.equivalences.specs.LogMaps.{IsNextStep}
use Rattle.equivalences.proofs.RowLaws.{width-known}
use Rattle.equivalences.proofs.BlockLaws.{matrix-scalars}
use Rattle.equivalences.proofs.LiveLaws.{degree-within, rest-coordinates}
use Rattle.equivalences.proofs.NextLaws as next_laws

-- a matrix is one of scalars where its part at each listed cell is
pub segments-matrix : (K : Ops) (n : ℕ) (ls : List (ℕ × ℕ)) (J : List (List ℕ)) → IsRising (keys ls)
    → length J ≡ width ls
    → ((c : ℕ) → has c (keys ls) ≡ true → Matrix K (listed_size ls c) n (segment ls J c))
    → Matrix K (width ls) n J
segments-matrix K n [] [] r e h = tt
segments-matrix K n [] (row ∷ J) r e h = let bad : suc (length J) ≡ 0 = e in absurd (omega arith)
segments-matrix K n (l ∷ ls) J r e h =
    subst (Matrix K (l.1 + width ls) n) (take-append-drop l.1 J)
    (append-matrix K l.1 (width ls) n (take l.1 J) (drop l.1 J)
    (here (eqb l.0 l.0) (eq-eqb l.0 l.0 refl) (h l.0 (ap (λ b. b || has l.0 (keys ls)) (eq-eqb l.0 l.0 refl))))
    (segments-matrix K n ls (drop l.1 J) (rising_tail l.0 (keys ls) r) (omega (arith, e, length-drop l.1 J)) later))
  where
    here : (b : Bool) → b ≡ true → Matrix K (cond b l.1 (listed_size ls l.0)) n
        (cond b (take l.1 J) (segment ls (drop l.1 J) l.0)) → Matrix K l.1 n (take l.1 J)
    here true e m = m
    here false e m = cc

    other : (c : ℕ) → has c (keys ls) ≡ true → l.0 ≢ c
    other c listed same =
        let bad : true ≡ false = sym listed ∙ ap (λ q. has q (keys ls)) (sym same) ∙ head-absent l.0 (keys ls) r in
        cc

    either : (b : Bool) → (b || true) ≡ true
    either true = refl
    either false = refl

    next : (c : ℕ) (b : Bool) → b ≡ false → Matrix K (cond b l.1 (listed_size ls c)) n
        (cond b (take l.1 J) (segment ls (drop l.1 J) c)) → Matrix K (listed_size ls c) n (segment ls (drop l.1 J) c)
    next c true e m = cc
    next c false e m = m

    later : (c : ℕ) → has c (keys ls) ≡ true → Matrix K (listed_size ls c) n (segment ls (drop l.1 J) c)
    later c listed = next c (eqb l.0 c) (ne_eqb l.0 c (other c listed))
        (h c (ap (λ b. eqb l.0 c || b) listed ∙ either (eqb l.0 c)))

-- the shape of a block, known by its matrix
pub block-over : (K : Ops) (m n : ℕ) (b : Block) → Matrix K m n (matrix_of b) → 1 ≤ m → IsBlockOver K m n b
block-over K m n b h l =
    let rows : b.rows ≡ m = sym (cut-size b.rows b.cols b.entries) ∙ matrix-size K m n (matrix_of b) h in
    let cols : b.cols ≡ n =
    width-known K m n b.cols (matrix_of b) (subst (λ k. Sized k b.cols (matrix_of b)) rows
    (sized-cut b.rows b.cols b.entries (omega (arith, b.full)))) h l in
    record {
      rows_are = rows;
      columns_are = cols;
      scalars = subst (AllScalars K) (flat-cut b.rows b.cols b.entries b.full) (flat-scalars K m n (matrix_of b) h);
    }

module _ (K : Ops) (F : IsField K) (v : BlockComplex) (rs : List Removal) (m : CellMaps) (step : Step)
    (w : BlockComplex) (next : IsNextStep K v rs m step w) (fits : AreLive m.live) where
  abbrev pub u : BlockComplex
  u = rest_of v rs

  abbrev C : CellularComplex
  C = complex_of v

  abbrev pub k : ℕ
  k = degree_of u.live step.x

  abbrev pub low : ℕ
  low = coordinates C k

  abbrev pub high : ℕ
  high = coordinates C (suc k)

  abbrev pub size : ℕ → ℕ
  size c = size_of u.live c

  is : IsBlockComplex K u
  is = last_is K F v rs next.block_complex next.removals

  h_rows : (j : ℕ) → IsMatrix K (coordinates C j) (coordinates C (suc j)) (m.h j)
  h_rows j = (next.maps.h_is j).shape

  pub x-live : has step.x (cells u.live) ≡ true
  x-live = next.removal.pair.from

  pub y-live : has step.y (cells u.live) ≡ true
  y-live = next.removal.pair.to

  still : (c : ℕ) → has c (cells u.live) ≡ true → has c (cells m.live) ≡ true
  still c h = subst (λ live. has c (cells live) ≡ true) (sym next.maps.live_is) h

  pub x-in : has step.x (cells m.live) ≡ true
  x-in = still step.x x-live

  pub degree-x : degree_of m.live step.x ≡ k
  degree-x = ap (λ live. degree_of live step.x) next.maps.live_is

  degree-y : degree_of u.live step.y ≡ suc k
  degree-y = omega (arith, next.removal.pair.degrees)

  pub some : (c : ℕ) → has c (cells u.live) ≡ true → 1 ≤ size c
  some c h = subst (λ live. 1 ≤ size_of live c) next.maps.live_is (live-size m.live c fits (still c h))

  y-shape : Matrix K (size step.y) high (m.pi step.y)
  y-shape = next_laws.y-shape K F C u w step is next.step_from next.removal m next.maps.live_is next.maps.pi_rows
      next.maps.iota_rows h_rows

  x-shape : Matrix K (size step.x) low (m.iota step.x)
  x-shape = next_laws.x-shape K F C u w step is next.step_from next.removal m next.maps.live_is next.maps.pi_rows
      next.maps.iota_rows h_rows

  pub rows-over : (b : Block) → matrix_of b ≡ m.pi step.y → IsBlockOver K (size step.y) high b
  rows-over b e = block-over K (size step.y) high b (subst (Matrix K (size step.y) high) (sym e) y-shape)
      (some step.y y-live)

  pub columns-over : (b : Block) → matrix_of b ≡ m.iota step.x → IsBlockOver K (size step.x) low b
  columns-over b e = block-over K (size step.x) low b (subst (Matrix K (size step.x) low) (sym e) x-shape)
      (some step.x x-live)

  pub inverse-over : IsBlockOver K (size step.x) (size step.y) step.inverse
  inverse-over = block-over K (size step.x) (size step.y) step.inverse
      (next_laws.a-shape K F C u w step is next.step_from next.removal m next.maps.live_is next.maps.pi_rows
      next.maps.iota_rows h_rows) (some step.x x-live)

  pub h-matrix : IsMatrix K low high (m.h k)
  h-matrix = h_rows k

  M-shape : (s t : ℕ) → has s (cells u.live) ≡ true → has t (cells u.live) ≡ true
      → Matrix K (size t) (size s) (u.matrix s t)
  M-shape s t hs ht = to_matrix K (size t) (size s) (u.matrix s t) (is.matrices s t (record { from = hs; to = ht }))

  below-live : (c : ℕ) → has c (keys step.below) ≡ true → has c (cells u.live) ≡ true
  below-live c h = sized-live u.live step.below next.step_from.below_sized c h

  left-live : (c : ℕ) → has c (keys step.left) ≡ true → has c (cells u.live) ≡ true
  left-live c h = sized-live u.live step.left next.step_from.left_sized c h

  -- the blocks of the step
  pub column-matrix : Matrix K (width step.below) (size step.x) (matrix_of step.column)
  column-matrix =
      segments-matrix K (size step.x) step.below (matrix_of step.column) step.parts.below_rises
      (cut-size step.column.rows step.column.cols step.column.entries ∙ step.parts.column_rows)
      (λ c h. subst (λ n. Matrix K n (size step.x) (segment step.below (matrix_of step.column) c))
      (sym (listed_size-live u.live step.below next.step_from.below_sized c h))
      (subst (Matrix K (size c) (size step.x))
      (sym (next_laws.column-at K F C u w step is next.step_from next.removal m next.maps.live_is next.maps.pi_rows
      next.maps.iota_rows h_rows c h))
      (M-shape step.x c x-live (below-live c h))))

  pub row-matrix : Matrix K (width step.left) (size step.y) (transpose step.row.cols (matrix_of step.row))
  row-matrix =
      segments-matrix K (size step.y) step.left (transpose step.row.cols (matrix_of step.row)) step.parts.left_rises
      (transpose-length step.row.cols (matrix_of step.row) ∙ step.parts.row_cols)
      (λ c h. subst (λ n. Matrix K n (size step.y)
      (segment step.left (transpose step.row.cols (matrix_of step.row)) c))
      (sym (listed_size-live u.live step.left next.step_from.left_sized c h))
      (subst (Matrix K (size c) (size step.y))
      (sym (next_laws.transposed-row-at K F C u w step is next.step_from next.removal m next.maps.live_is
      next.maps.pi_rows next.maps.iota_rows h_rows c h))
      (transpose-matrix K F (size step.y) (size c) (u.matrix c step.y) (M-shape c step.y (left-live c h) y-live))))

  pub column-scalars : AllScalars K step.column.entries
  column-scalars = matrix-scalars K (width step.below) (size step.x) step.column column-matrix

  pub row-scalars : (b : Block) → matrix_of b ≡ transpose step.row.cols (matrix_of step.row) → AllScalars K b.entries
  row-scalars b e = matrix-scalars K (width step.left) (size step.y) b
      (subst (Matrix K (width step.left) (size step.y)) (sym e) row-matrix)

  -- the rows at the listed cells
  pub rows-at-below : (c : ℕ) → has c (keys step.below) ≡ true → IsMatrix K (size c) high (m.pi c)
  rows-at-below c h =
      let up : degree_of u.live c ≡ suc k =
      next_laws.below-degree K F C u w step is next.step_from next.removal m next.maps.live_is next.maps.pi_rows
      next.maps.iota_rows h_rows c (below-live c h) h ∙ degree-y in
      subst (λ d. IsMatrix K (size c) (coordinates C d) (m.pi c)) up (next.maps.pi_rows c (below-live c h))

  pub columns-at-left : (c : ℕ) → has c (keys step.left) ≡ true → IsMatrix K (size c) low (m.iota c)
  columns-at-left c h =
      subst (λ d. IsMatrix K (size c) (coordinates C d) (m.iota c))
      (next_laws.left-degree-is K F C u w step is next.step_from next.removal m next.maps.live_is next.maps.pi_rows
      next.maps.iota_rows h_rows c (left-live c h) h)
      (next.maps.iota_rows c (left-live c h))

  -- what the calls that add ask of each listed cell, where the rows at x and y alone may have changed
  listed-all : (ls : List (ℕ × ℕ)) (but n : ℕ) (rows : ByCell (List (List ℕ))) (old : ℕ → List (List ℕ))
      → has but (keys ls) ≡ false
      → ((i : ℕ) (d : ℕ × ℕ) → i < length ls → (has (get_or ls i d).0 (cells u.live) ≡ true)
      × (size (get_or ls i d).0 ≡ (get_or ls i d).1))
      → ((c : ℕ) → has c (keys ls) ≡ true → IsMatrix K (size c) n (old c))
      → ((c : ℕ) → has c (cells m.live) ≡ true → has c rows.cells ≡ true)
      → ((q : ℕ) → q ≢ but → cell_rows_of rows q ≡ old q)
      → All (λ (l : ℕ × ℕ). (has l.0 rows.cells ≡ true) × (1 ≤ l.1) × IsMatrix K l.1 n (cell_rows_of rows l.0)) ls
  listed-all ls but n rows old absent sized shapes within same i d l =
      let c = get_or ls i d in
      let listed : has c.0 (keys ls) ≡ true =
      ap (λ k. has k (keys ls)) (sym (get_or-map (λ s. s.0) ls i d 0 l))
      ∙ has-at (keys ls) i (omega (arith, l, length-map ls (λ s. s.0))) in
      let is_size = (sized i d l).1 in
      let live = (sized i d l).0 in (
        within c.0 (still c.0 live),
        subst (λ n. 1 ≤ n) is_size (some c.0 live),
        subst (IsMatrix K c.1 n) (sym (same c.0 (λ e. let bad : true ≡ false = sym listed
            ∙ ap (λ q. has q (keys ls)) e ∙ absent in cc)))
            (subst (λ r. IsMatrix K r n (old c.0)) is_size (shapes c.0 listed)),
      )

  pub below-all : (rows : ByCell (List (List ℕ))) → ((c : ℕ) → has c (cells m.live) ≡ true → has c rows.cells ≡ true)
      → ((q : ℕ) → q ≢ step.y → cell_rows_of rows q ≡ m.pi q)
      → All (λ (l : ℕ × ℕ). (has l.0 rows.cells ≡ true) × (1 ≤ l.1) × IsMatrix K l.1 high (cell_rows_of rows l.0))
      step.below
  below-all rows within same = listed-all step.below step.y high rows m.pi step.parts.without_y
      next.step_from.below_sized rows-at-below within same

  pub left-all : (rows : ByCell (List (List ℕ))) → ((c : ℕ) → has c (cells m.live) ≡ true → has c rows.cells ≡ true)
      → ((q : ℕ) → q ≢ step.x → cell_rows_of rows q ≡ m.iota q)
      → All (λ (l : ℕ × ℕ). (has l.0 rows.cells ≡ true) × (1 ≤ l.1) × IsMatrix K l.1 low (cell_rows_of rows l.0))
      step.left
  left-all rows within same = listed-all step.left step.x low rows m.iota step.parts.without_x
      next.step_from.left_sized columns-at-left within same

  -- the degree of x has coordinates
  pub some-low : 1 ≤ low
  some-low =
      let own : 1 ≤ total_size (of_degree k u.live) =
      subst (λ live. 1 ≤ total_size (of_degree (degree_of live step.x) live)) next.maps.live_is
      (degree-within m.live step.x fits x-in).1 in
      omega (arith, own, rest-coordinates K v rs k next.removals)

  pub k-below : k ≤ 15
  k-below = subst (λ d. d ≤ 15) degree-x (degree-within m.live step.x fits x-in).0

  -- the blocks that the calls make give the update
  pub calls-update : (rows columns moved through row : Block) → matrix_of rows ≡ m.pi step.y
      → matrix_of columns ≡ m.iota step.x
      → IsBlock moved step.inverse.rows rows.cols (product K rows.cols (matrix_of step.inverse) (matrix_of rows))
      → IsBlock through step.inverse.cols columns.cols
      (product K columns.cols (transpose step.inverse.cols (matrix_of step.inverse)) (matrix_of columns))
      → matrix_of row ≡ transpose step.row.cols (matrix_of step.row)
      → (m' : CellMaps)
      → m'.live ≡ filter (λ l. not (l.0 == step.y)) (filter (λ l. not (l.0 == step.x)) m.live)
      → ((c : ℕ) → c ≢ step.x → c ≢ step.y → m'.pi c ≡ with_products K moved.cols step.below (matrix_of step.column)
      (matrix_negative K (matrix_of moved)) c (m.pi c))
      → ((c : ℕ) → c ≢ step.x → c ≢ step.y → m'.iota c ≡ with_products K through.cols step.left (matrix_of row)
      (matrix_negative K (matrix_of through)) c (m.iota c))
      → ((j : ℕ) → k ≢ j → m'.h j ≡ m.h j)
      → m'.h k ≡ with_product K moved.cols (m.h k) (transpose columns.cols (matrix_of columns)) (matrix_of moved)
      → next_laws.IsUpdate K k low high step m m'
  calls-update rows columns moved through row is_rows is_columns is_moved is_through is_row m' live pi iota h h_k =
      let row_width : rows.cols ≡ high = (rows-over rows is_rows).columns_are in
      let column_width : columns.cols ≡ low = (columns-over columns is_columns).columns_are in
      let pi_moved : matrix_of moved ≡ next_laws.moved_rows K high step m = is_moved.matrix_is
      ∙ ap₂ (λ n A. product K n (matrix_of step.inverse) A) row_width is_rows in
      let iota_moved : matrix_of through ≡ next_laws.moved_columns K low step m = is_through.matrix_is
      ∙ ap₂ (λ n A. product K n (transpose step.inverse.cols (matrix_of step.inverse)) A) column_width is_columns in
      let high_is : moved.cols ≡ high = is_moved.columns_are ∙ row_width in
      let low_is : through.cols ≡ low = is_through.columns_are ∙ column_width in
      record {
        live_is = live ∙ without-twice step.x step.y m.live;
        pi_is = λ c nx ny. pi c nx ny ∙ ap₂ (λ n A. with_products K n step.below (matrix_of step.column)
            (matrix_negative K A) c (m.pi c)) high_is pi_moved;
        iota_is = λ c nx ny.
            iota c nx ny
            ∙ ap (λ J. with_products K through.cols step.left J (matrix_negative K (matrix_of through)) c (m.iota c))
            is_row
            ∙ ap₂ (λ n A. with_products K n step.left (transpose step.row.cols (matrix_of step.row))
            (matrix_negative K A) c (m.iota c)) low_is iota_moved;
        h_same = h;
        h_next = h_k
            ∙ ap₂ (λ n A. with_product K moved.cols (m.h k) (transpose n A) (matrix_of moved)) column_width is_columns
            ∙ ap₂ (λ n A. with_product K n (m.h k) (transpose low (m.iota step.x)) A) high_is pi_moved;
      }
