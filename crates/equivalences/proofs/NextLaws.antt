-- What a step makes of the maps, by products added at listed cells, is what its removal makes of them.
use Rattle.std.specs.Prelude.{◌==◌, not}
use Rattle.std.specs.List.{list_all}
use Rattle.std.proofs.Common.{◌≡◌, ◌≢◌, ℕ, zero, suc, Bool, true, false, ◌&&◌, ◌||◌, eqb, inl, inr, refl, sym, ap}
use Rattle.std.proofs.Common.{ap₂, ◌∙◌, subst, arith, List, length}
use Rattle.std.proofs.lemmas.Bool.{cases_eq, cases_Bool, eq-eqb, ne_eqb}
use Rattle.dense_blocks.specs.Field.{Ops}
use Rattle.dense_blocks.specs.FieldLaws.{IsField}
use Rattle.dense_blocks.specs.Vectors.{zeros, plus, combination}
use Rattle.dense_blocks.specs.Matrices.{image_of, product}
use Rattle.dense_blocks.specs.MatrixFacts.{IsMatrix, negative, matrix_negative, zero_matrix}
use Rattle.dense_blocks.specs.Blocks.{matrix_of}
use Rattle.dense_blocks.proofs.Shapes.{Vector, Matrix, to_matrix, from_matrix, matrix-size}
use Rattle.dense_blocks.proofs.VectorLaws.{plus-zeros, negative-zeros, combination-vector, combination-combination}
use Rattle.dense_blocks.proofs.VectorLaws.{combination-zeros}
use Rattle.dense_blocks.proofs.Cutting.{cut-size}
use Rattle.block_complexes.proofs.Sums.{is_other}
use Rattle.dense_blocks.proofs.MatrixLaws.{image_of-vector, image_of-negative, image_of-zeros, product-matrix}
use Rattle.dense_blocks.proofs.MatrixLaws.{product-image_of, matrix_negative-matrix, matrix_negative-image_of}
use Rattle.dense_blocks.proofs.MatrixLaws.{combination-matrix_negative, zero_matrix-image_of}
use Rattle.cochain_vec.specs.Complexes.{CellularComplex, coordinates}
use Rattle.rising_lists.specs.Rising.{has, keys}
use Rattle.block_complexes.specs.BlockComplexes.{BlockComplex, IsBlockComplex, cells, degree_of, size_of}
use Rattle.removals.specs.Removals.{live_without}
use Rattle.block_sparse.specs.StoredBlocks.{is_zero}
use Rattle.block_sparse.specs.Grids.{segment, columns_of}
use Rattle.block_sparse.proofs.ScalarBlocks.{zero-is}
use Rattle.reduce_step.specs.declared.record.Step.{Step}
use Rattle.reduce_step.specs.Logs.{IsStepFrom}
use Rattle.reduce_step.proofs.JoinedParts.{listed_size-live}
use Rattle.reduce_step.proofs.PartLaws.{row-part, column-part}
use Rattle.equivalence_laws.specs.RemovalMaps.{IsRemovalFrom}
use Rattle.removals.proofs.CornerLaws as corners
use Rattle.equivalences.specs.Rows.{with_product, with_products}
use Rattle.equivalence_laws.specs.Transposes.{transpose}
use Rattle.equivalence_laws.specs.CellMaps.{CellMaps, AreRowsAt}
use Rattle.equivalences.specs.LogMaps.{step_removal}
use Rattle.equivalence_laws.proofs.TransposeLaws.{transpose-matrix, combination-transpose, image_of-transpose}
use Rattle.equivalences.proofs.ProductLaws.{products-absent, products-listed, segment-transpose, product-more-image_of}
use Rattle.equivalences.proofs.ProductLaws.{product-more-combination, product-more-matrix}
use Rattle.equivalence_laws.proofs.MapsLaws.{AreNextMaps}

zero_matrix-zero : (m n : ℕ) → is_zero (zero_matrix m n) ≡ true
zero_matrix-zero zero n = refl
zero_matrix-zero (suc m) n = ap₂ ◌&&◌ (row n) (zero_matrix-zero m n)
  where
    row : (n : ℕ) → list_all (λ a. eqb a 0) (zeros n) ≡ true
    row zero = refl
    row (suc n) = row n

-- the rows of pi at y, times the inverse; and the columns of iota at x, times the inverse
abbrev pub moved_rows : Ops → ℕ → Step → CellMaps → List (List ℕ)
moved_rows K n step m = product K n (matrix_of step.inverse) (m.pi step.y)

abbrev pub moved_columns : Ops → ℕ → Step → CellMaps → List (List ℕ)
moved_columns K n step m = product K n (transpose step.inverse.cols (matrix_of step.inverse)) (m.iota step.x)

-- what the step makes of the maps, where k is the degree of x, and cochains of degree k have `low` entries and those of
-- degree k + 1 `high`
pub record IsUpdate (K : Ops) (k low high : ℕ) (step : Step) (m m' : CellMaps) : Type 0 where
  pub live_is : m'.live ≡ live_without m.live step.x step.y
  pub pi_is : (c : ℕ) → c ≢ step.x → c ≢ step.y → m'.pi c ≡ with_products K high step.below (matrix_of step.column)
      (matrix_negative K (moved_rows K high step m)) c (m.pi c)
  pub iota_is : (c : ℕ) → c ≢ step.x → c ≢ step.y → m'.iota c ≡ with_products K low step.left
      (transpose step.row.cols (matrix_of step.row)) (matrix_negative K (moved_columns K low step m)) c (m.iota c)
  pub h_same : (j : ℕ) → k ≢ j → m'.h j ≡ m.h j
  pub h_next : m'.h k ≡ with_product K high (m.h k) (transpose low (m.iota step.x)) (moved_rows K high step m)

module _ (K : Ops) (F : IsField K) (C : CellularComplex) (u w : BlockComplex) (step : Step) (is : IsBlockComplex K u)
    (from : IsStepFrom K u step) (removal : IsRemovalFrom K u (step_removal step w)) (m : CellMaps)
    (live : m.live ≡ u.live) (pi_rows : AreRowsAt K C u m.pi) (iota_rows : AreRowsAt K C u m.iota)
    (h_rows : (k : ℕ) → IsMatrix K (coordinates C k) (coordinates C (suc k)) (m.h k)) where
  abbrev x : ℕ
  x = step.x

  abbrev y : ℕ
  y = step.y

  abbrev a : List (List ℕ)
  a = matrix_of step.inverse

  abbrev degree : ℕ → ℕ
  degree c = degree_of u.live c

  abbrev size : ℕ → ℕ
  size c = size_of u.live c

  abbrev pub k : ℕ
  k = degree x

  abbrev pub low : ℕ
  low = coordinates C k

  abbrev pub high : ℕ
  high = coordinates C (suc k)

  abbrev IsLive : ℕ → Type 0
  IsLive c = has c (cells u.live) ≡ true

  abbrev IsLeft : ℕ → Type 0
  IsLeft c = has c (cells w.live) ≡ true

  is_left-other : (c : ℕ) → IsLeft c → IsLive c × (is_other x y c ≡ true)
  is_left-other c h = corners.has-without x y u.live c (subst (λ live. has c (cells live) ≡ true) removal.live h)

  is-live : (c : ℕ) → IsLeft c → IsLive c
  is-live c h = (is_left-other c h).0

  not-x : (c : ℕ) → IsLeft c → c ≢ x
  not-x c h e = go (eqb c y) (eq-eqb c x e) (is_left-other c h).1
    where
      go : (q : Bool) → eqb c x ≡ true → not (eqb c x || q) ≡ true → ⊥
      go q p m = let bad : false ≡ true = sym (ap (λ b. not (b || q)) p) ∙ m in cc

  not-y : (c : ℕ) → IsLeft c → c ≢ y
  not-y c h e = go (eqb c x) (eq-eqb c y e) (is_left-other c h).1
    where
      either : (q : Bool) → not (q || true) ≡ false
      either true = refl
      either false = refl

      go : (q : Bool) → eqb c y ≡ true → not (q || eqb c y) ≡ true → ⊥
      go q p m = let bad : false ≡ true = sym (either q) ∙ sym (ap (λ b. not (q || b)) p) ∙ m in cc

  left-size : (c : ℕ) → IsLeft c → size_of w.live c ≡ size c
  left-size c h = ap (λ live. size_of live c) removal.live
      ∙ corners.of_cell-without x y (λ l. l.2) u.live c (is_left-other c h).1

  left-degree : (c : ℕ) → IsLeft c → degree_of w.live c ≡ degree c
  left-degree c h = ap (λ live. degree_of live c) removal.live
      ∙ corners.of_cell-without x y (λ l. l.1) u.live c (is_left-other c h).1

  M-shape : (s t : ℕ) → IsLive s → IsLive t → Matrix K (size t) (size s) (u.matrix s t)
  M-shape s t hs ht = to_matrix K (size t) (size s) (u.matrix s t) (is.matrices s t (record { from = hs; to = ht }))

  pub a-shape : Matrix K (size x) (size y) a
  a-shape = subst (λ n. Matrix K (size x) n a) (sym removal.square)
      (to_matrix K (size x) (size x) a removal.inverse.shape)

  pub up : degree y ≡ suc k
  up = omega (arith, removal.pair.degrees)

  rows-shape : (n : ℕ) (rows : ℕ → List (List ℕ)) → AreRowsAt K C u rows → (c : ℕ) → IsLive c → degree c ≡ n
      → Matrix K (size c) (coordinates C n) (rows c)
  rows-shape n rows h c l e = subst (λ d. Matrix K (size c) (coordinates C d) (rows c)) e
      (to_matrix K (size c) (coordinates C (degree c)) (rows c) (h c l))

  pub y-shape : Matrix K (size y) high (m.pi y)
  y-shape = rows-shape (suc k) m.pi pi_rows y removal.pair.to up

  pub x-shape : Matrix K (size x) low (m.iota x)
  x-shape = rows-shape k m.iota iota_rows x removal.pair.from refl

  -- the sizes of the step's blocks
  pub pivot-rows : step.pivot.rows ≡ size y
  pivot-rows = sym (cut-size step.pivot.rows step.pivot.cols step.pivot.entries) ∙ ap length from.pivot
      ∙ matrix-size K (size y) (size x) (u.matrix x y) (M-shape x y removal.pair.from removal.pair.to)

  pub pivot-cols : step.pivot.cols ≡ size x
  pivot-cols = sym step.parts.square ∙ pivot-rows ∙ removal.square

  pub inverse-cols : step.inverse.cols ≡ size y
  inverse-cols = step.inverse_cols ∙ pivot-cols ∙ sym removal.square

  -- the parts of the column and the row
  pub column-at : (c : ℕ) → has c (keys step.below) ≡ true → segment step.below (matrix_of step.column) c ≡ u.matrix x c
  column-at c h =
      sym (column-part x (size x) step.below step.column c (step.parts.column_cols ∙ pivot-cols))
      ∙ from.column x c (ap (λ b. b || false) (eq-eqb x x refl)) h

  row-at : (c : ℕ) → has c (keys step.left) ≡ true → columns_of step.left (matrix_of step.row) c ≡ u.matrix c y
  row-at c h =
      sym (row-part step.left y (size y) step.row c (step.parts.row_rows ∙ pivot-rows))
      ∙ from.row c y h (ap (λ b. b || false) (eq-eqb y y refl))

  pub transposed-row-at : (c : ℕ) → has c (keys step.left) ≡ true
      → segment step.left (transpose step.row.cols (matrix_of step.row)) c ≡ transpose (size c) (u.matrix c y)
  transposed-row-at c h =
      ap (λ n. segment step.left (transpose n (matrix_of step.row)) c) step.parts.row_cols
      ∙ segment-transpose step.left (matrix_of step.row) c
      ∙ ap₂ transpose (listed_size-live u.live step.left from.left_sized c h) (row-at c h)

  -- no matrix goes from x to a cell that is left and not listed, and from one to y
  both-true : (a b : Bool) → a ≡ true → b ≡ true → (p : Bool) → false ≡ (a && not p && b) → p ≡ true
  both-true a b ea eb true e = refl
  both-true a b ea eb false e = let bad : false ≡ true = e ∙ ap₂ (λ a b. a && true && b) ea eb in cc

  none-below : (c : ℕ) → IsLeft c → has c (keys step.below) ≡ false → u.matrix x c ≡ zero_matrix (size c) (size x)
  none-below c h absent =
      zero-is K (size c) (size x) (u.matrix x c) (M-shape x c removal.pair.from (is-live c h))
      (both-true (has c (cells u.live)) (not (c == y)) (is-live c h) (ap not (ne_eqb c y (not-y c h)))
      (is_zero (u.matrix x c)) (sym absent ∙ from.below c))

  none-left : (c : ℕ) → IsLeft c → has c (keys step.left) ≡ false → u.matrix c y ≡ zero_matrix (size y) (size c)
  none-left c h absent =
      zero-is K (size y) (size c) (u.matrix c y) (M-shape c y (is-live c h) removal.pair.to)
      (both-true (has c (cells u.live)) (not (c == x)) (is-live c h) (ap not (ne_eqb c x (not-x c h)))
      (is_zero (u.matrix c y)) (sym absent ∙ from.left c))

  -- a listed cell has the degree of y, or of x
  listed-nonzero : (a b p : Bool) → true ≡ (a && not p && b) → p ≡ false
  listed-nonzero true b true e = let bad : true ≡ false = e in cc
  listed-nonzero false b true e = let bad : true ≡ false = e in cc
  listed-nonzero a b false e = refl

  pub below-degree : (c : ℕ) → IsLive c → has c (keys step.below) ≡ true → degree c ≡ degree y
  below-degree c h listed = elim (cases_eq (degree c) (degree y)) [
    | inl e ↦ e
    | inr n ↦
        let zero = is.apart x c (record { from = removal.pair.from; to = h }) (λ q. n (omega (arith, q, up))) in
        absurd (let bad : true ≡ false = sym (ap is_zero zero ∙ zero_matrix-zero (size c) (size x))
        ∙ listed-nonzero (has c (cells u.live)) (not (c == y)) (is_zero (u.matrix x c)) (sym listed ∙ from.below c) in
        cc)
  ]

  pub left-degree-is : (c : ℕ) → IsLive c → has c (keys step.left) ≡ true → degree c ≡ degree x
  left-degree-is c h listed = elim (cases_eq (degree c) (degree x)) [
    | inl e ↦ e
    | inr n ↦
        let zero = is.apart c y (record { from = h; to = removal.pair.to })
        (λ q. n (omega (arith, q, removal.pair.degrees))) in
        absurd (let bad : true ≡ false = sym (ap is_zero zero ∙ zero_matrix-zero (size y) (size c))
        ∙ listed-nonzero (has c (cells u.live)) (not (c == x)) (is_zero (u.matrix c y)) (sym listed ∙ from.left c) in
        cc)
  ]

  not-below : (c : ℕ) → IsLeft c → degree c ≢ degree y → has c (keys step.below) ≡ false
  not-below c h n = elim (cases_Bool (has c (keys step.below))) [
    | inl e ↦ absurd (n (below-degree c (is-live c h) e))
    | inr e ↦ e
  ]

  not-left : (c : ℕ) → IsLeft c → degree c ≢ degree x → has c (keys step.left) ≡ false
  not-left c h n = elim (cases_Bool (has c (keys step.left))) [
    | inl e ↦ absurd (n (left-degree-is c (is-live c h) e))
    | inr e ↦ e
  ]

  -- pi
  abbrev moved : List (List ℕ)
  moved = moved_rows K high step m

  pub moved-shape : Matrix K (size x) high moved
  moved-shape = product-matrix K F (size x) (size y) high a (m.pi y) a-shape y-shape

  abbrev away : List (List ℕ)
  away = matrix_negative K (moved_rows K high step m)

  pub away-shape : Matrix K (size x) high away
  away-shape = matrix_negative-matrix K F (size x) high (moved_rows K high step m)
      (product-matrix K F (size x) (size y) high a (m.pi y) a-shape y-shape)

  away-image_of : (z : List ℕ) → image_of K away z ≡ negative K (image_of K a (image_of K (m.pi y) z))
  away-image_of z =
      matrix_negative-image_of K F (moved_rows K high step m) z
      ∙ ap (negative K) (product-image_of K F (size y) high a (m.pi y) z y-shape)

  -- iota
  abbrev through : List (List ℕ)
  through = matrix_negative K (moved_columns K low step m)

  pub transposed-inverse : Matrix K (size y) (size x) (transpose step.inverse.cols a)
  transposed-inverse = subst (λ n. Matrix K n (size x) (transpose step.inverse.cols a)) inverse-cols
      (transpose-matrix K F (size x) step.inverse.cols a
      (subst (λ n. Matrix K (size x) n a) (sym inverse-cols) a-shape))

  pub through-shape : Matrix K (size y) low through
  through-shape = matrix_negative-matrix K F (size y) low (moved_columns K low step m)
      (product-matrix K F (size y) (size x) low (transpose step.inverse.cols a) (m.iota x) transposed-inverse x-shape)

  through-combination : (z : List ℕ) → Vector K (size y) z
      → combination K low z through ≡ negative K (combination K low (image_of K a z) (m.iota x))
  through-combination z hz =
      let T = transpose step.inverse.cols a in
      combination-matrix_negative K F low z (moved_columns K low step m)
      ∙ ap (negative K)
      (sym (combination-combination K F (size y) (size x) low z T (m.iota x) transposed-inverse x-shape)
      ∙ ap (λ v. combination K low v (m.iota x))
      (ap (λ n. combination K (size x) z (transpose n a)) inverse-cols
      ∙ combination-transpose K F (size x) (size y) a z a-shape hz))

  pub column-shape : (c : ℕ) → IsLeft c → Matrix K (size c) (size y) (transpose (size c) (u.matrix c y))
  column-shape c h = transpose-matrix K F (size y) (size c) (u.matrix c y)
      (M-shape c y (is-live c h) removal.pair.to)

  -- h
  pub columns-shape : Matrix K low (size x) (transpose low (m.iota x))
  columns-shape = transpose-matrix K F (size x) low (m.iota x) x-shape

  -- the maps that the step makes
  module _ (m' : CellMaps) (update : IsUpdate K k low high step m m') where
    pi-unlisted : (c : ℕ) → IsLeft c → has c (keys step.below) ≡ false → m'.pi c ≡ m.pi c
    pi-unlisted c h absent =
        update.pi_is c (not-x c h) (not-y c h)
        ∙ products-absent K high step.below (matrix_of step.column) (matrix_negative K (moved_rows K high step m)) c
        (m.pi c) absent

    pi-listed : (c : ℕ) → IsLeft c → has c (keys step.below) ≡ true
        → m'.pi c ≡ with_product K high (m.pi c) (u.matrix x c) away
    pi-listed c h listed =
        update.pi_is c (not-x c h) (not-y c h)
        ∙ products-listed K high step.below (matrix_of step.column) (matrix_negative K (moved_rows K high step m)) c
        (m.pi c) step.parts.below_rises listed
        ∙ ap (λ J. with_product K high (m.pi c) J (matrix_negative K (moved_rows K high step m))) (column-at c listed)

    pi_next : (c : ℕ) → IsLeft c → degree c ≡ degree y → (z : List ℕ) → image_of K (m'.pi c) z
        ≡ plus K (image_of K (m.pi c) z) (negative K (image_of K (u.matrix x c) (image_of K a (image_of K (m.pi y) z))))
    pi_next c h e z =
        let M = u.matrix x c in
        let hM = M-shape x c removal.pair.from (is-live c h) in
        let back = image_of K a (image_of K (m.pi y) z) in
        let hc = rows-shape (suc k) m.pi pi_rows c (is-live c h) (e ∙ up) in
        elim (cases_Bool (has c (keys step.below))) [
          | inl listed ↦
              ap (λ A. image_of K A z) (pi-listed c h listed)
              ∙ product-more-image_of K F (size c) (size x) high (m.pi c) M away z hc hM away-shape
              ∙ ap (plus K (image_of K (m.pi c) z))
              (ap (image_of K M) (away-image_of z) ∙ image_of-negative K F M back)
          | inr absent ↦
              ap (λ A. image_of K A z) (pi-unlisted c h absent)
              ∙ sym (ap (λ v. plus K (image_of K (m.pi c) z) (negative K v))
              (ap (λ A. image_of K A back) (none-below c h absent) ∙ zero_matrix-image_of K F (size c) (size x) back)
              ∙ ap (plus K (image_of K (m.pi c) z)) (negative-zeros K F (size c))
              ∙ plus-zeros K F (size c) (image_of K (m.pi c) z) (image_of-vector K F (size c) high (m.pi c) z hc))
        ]

    pi_rows' : AreRowsAt K C w m'.pi
    pi_rows' c h =
        subst (λ n. IsMatrix K n (coordinates C (degree_of w.live c)) (m'.pi c)) (sym (left-size c h))
        (subst (λ d. IsMatrix K (size c) (coordinates C d) (m'.pi c)) (sym (left-degree c h))
        (elim (cases_Bool (has c (keys step.below))) [
          | inl listed ↦ elim (cases_eq (degree c) (degree y)) [
            | inl e ↦
                subst (λ d. IsMatrix K (size c) (coordinates C d) (m'.pi c)) (sym (e ∙ up))
                (subst (IsMatrix K (size c) high) (sym (pi-listed c h listed))
                (from_matrix K (size c) high (with_product K high (m.pi c) (u.matrix x c) away)
                (product-more-matrix K F (size c) (size x) high (m.pi c) (u.matrix x c) away
                (rows-shape (suc k) m.pi pi_rows c (is-live c h) (e ∙ up))
                (M-shape x c removal.pair.from (is-live c h)) away-shape)))
            | inr n ↦ absurd (let bad : true ≡ false = sym listed ∙ not-below c h n in cc)
          ]
          | inr absent ↦
              subst (IsMatrix K (size c) (coordinates C (degree c))) (sym (pi-unlisted c h absent))
              (pi_rows c (is-live c h))
        ]))

    iota-unlisted : (c : ℕ) → IsLeft c → has c (keys step.left) ≡ false → m'.iota c ≡ m.iota c
    iota-unlisted c h absent =
        update.iota_is c (not-x c h) (not-y c h)
        ∙ products-absent K low step.left (transpose step.row.cols (matrix_of step.row))
        (matrix_negative K (moved_columns K low step m)) c (m.iota c) absent

    iota-listed : (c : ℕ) → IsLeft c → has c (keys step.left) ≡ true
        → m'.iota c ≡ with_product K low (m.iota c) (transpose (size c) (u.matrix c y)) through
    iota-listed c h listed =
        update.iota_is c (not-x c h) (not-y c h)
        ∙ products-listed K low step.left (transpose step.row.cols (matrix_of step.row))
        (matrix_negative K (moved_columns K low step m)) c (m.iota c) step.parts.left_rises listed
        ∙ ap (λ J. with_product K low (m.iota c) J (matrix_negative K (moved_columns K low step m)))
        (transposed-row-at c listed)

    iota_next : (c : ℕ) → IsLeft c → degree c ≡ degree x → (z : List ℕ) → Vector K (size c) z
        → combination K low z (m'.iota c) ≡ plus K (combination K low z (m.iota c))
        (negative K (combination K low (image_of K a (image_of K (u.matrix c y) z)) (m.iota x)))
    iota_next c h e z hz =
        let M = u.matrix c y in
        let hM = M-shape c y (is-live c h) removal.pair.to in
        let hc = rows-shape k m.iota iota_rows c (is-live c h) e in
        elim (cases_Bool (has c (keys step.left))) [
          | inl listed ↦
              ap (combination K low z) (iota-listed c h listed)
              ∙ product-more-combination K F (size c) (size y) low (m.iota c) (transpose (size c) M) through z hc
              (column-shape c h) through-shape
              ∙ ap (plus K (combination K low z (m.iota c)))
              (ap (λ v. combination K low v through) (combination-transpose K F (size y) (size c) M z hM hz)
              ∙ through-combination (image_of K M z) (image_of-vector K F (size y) (size c) M z hM))
          | inr absent ↦
              ap (combination K low z) (iota-unlisted c h absent)
              ∙ sym (ap (λ v. plus K (combination K low z (m.iota c)) (negative K v))
              (ap (λ v. combination K low (image_of K a v) (m.iota x))
              (ap (λ A. image_of K A z) (none-left c h absent) ∙ zero_matrix-image_of K F (size y) (size c) z)
              ∙ ap (λ v. combination K low v (m.iota x)) (image_of-zeros K F (size y) (size x) (size y) a a-shape)
              ∙ combination-zeros K F (size x) (size x) low (m.iota x) x-shape)
              ∙ ap (plus K (combination K low z (m.iota c))) (negative-zeros K F low)
              ∙ plus-zeros K F low (combination K low z (m.iota c))
              (combination-vector K F (size c) low z (m.iota c) hc))
        ]

    iota_rows' : AreRowsAt K C w m'.iota
    iota_rows' c h =
        subst (λ n. IsMatrix K n (coordinates C (degree_of w.live c)) (m'.iota c)) (sym (left-size c h))
        (subst (λ d. IsMatrix K (size c) (coordinates C d) (m'.iota c)) (sym (left-degree c h))
        (elim (cases_Bool (has c (keys step.left))) [
          | inl listed ↦ elim (cases_eq (degree c) (degree x)) [
            | inl e ↦
                subst (λ d. IsMatrix K (size c) (coordinates C d) (m'.iota c)) (sym e)
                (subst (IsMatrix K (size c) low) (sym (iota-listed c h listed))
                (from_matrix K (size c) low (with_product K low (m.iota c) (transpose (size c) (u.matrix c y)) through)
                (product-more-matrix K F (size c) (size y) low (m.iota c) (transpose (size c) (u.matrix c y)) through
                (rows-shape k m.iota iota_rows c (is-live c h) e) (column-shape c h) through-shape)))
            | inr n ↦ absurd (let bad : true ≡ false = sym listed ∙ not-left c h n in cc)
          ]
          | inr absent ↦
              subst (IsMatrix K (size c) (coordinates C (degree c))) (sym (iota-unlisted c h absent))
              (iota_rows c (is-live c h))
        ]))

    h_shape : (j : ℕ) → IsMatrix K (coordinates C j) (coordinates C (suc j)) (m'.h j)
    h_shape j = elim (cases_eq k j) [
      | inl e ↦
          subst (λ j. IsMatrix K (coordinates C j) (coordinates C (suc j)) (m'.h j)) e
          (subst (IsMatrix K low high) (sym update.h_next)
          (from_matrix K low high
          (with_product K high (m.h k) (transpose low (m.iota x)) (moved_rows K high step m))
          (product-more-matrix K F low (size x) high (m.h k) (transpose low (m.iota x)) (moved_rows K high step m)
          (to_matrix K low high (m.h k) (h_rows k)) columns-shape moved-shape)))
      | inr n ↦ subst (IsMatrix K (coordinates C j) (coordinates C (suc j))) (sym (update.h_same j n)) (h_rows j)
    ]

    h_next : (z : List ℕ) → Vector K high z → image_of K (m'.h k) z ≡ plus K (image_of K (m.h k) z)
        (combination K low (image_of K a (image_of K (m.pi y) z)) (m.iota x))
    h_next z hz =
        let R = moved_rows K high step m in
        ap (λ A. image_of K A z) update.h_next
        ∙ product-more-image_of K F low (size x) high (m.h k) (transpose low (m.iota x)) R z
        (to_matrix K low high (m.h k) (h_rows k)) columns-shape moved-shape
        ∙ ap (plus K (image_of K (m.h k) z))
        (image_of-transpose K F (size x) low (m.iota x) (image_of K R z) x-shape
        (image_of-vector K F (size x) high R z moved-shape)
        ∙ ap (λ v. combination K low v (m.iota x)) (product-image_of K F (size y) high a (m.pi y) z y-shape))

    pub update_is_next : AreNextMaps K C u (step_removal step w) m m'
    update_is_next = record {
      live_is = update.live_is ∙ ap (λ l. live_without l x y) live ∙ sym removal.live;
      pi_rows = pi_rows';
      pi_same = λ c h n. pi-unlisted c h (not-below c h n);
      pi_next = pi_next;
      iota_rows = iota_rows';
      iota_same = λ c h n. iota-unlisted c h (not-left c h n);
      iota_next = iota_next;
      h_shape = h_shape;
      h_same = update.h_same;
      h_next = h_next;
    }
