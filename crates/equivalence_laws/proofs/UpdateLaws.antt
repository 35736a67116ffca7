-- Row and column operations make the matrices of one removal more.
use Rattle.std.specs.List.{flat_map}
use Rattle.std.proofs.Common.{◌≡◌, ◌≢◌, ℕ, zero, suc, ◌+◌, Bool, true, false, cond, ◌||◌, eqb, inl, inr, refl, sym, ap}
use Rattle.std.proofs.Common.{ap₂, ◌∙◌, subst, arith, List, [], ◌∷◌, ◌++◌, length, map, take, drop, All, zero-add}
use Rattle.std.proofs.Common.{suc-add, take-append-drop}
use Rattle.std.proofs.lemmas.List.{take-map, drop-map, map-append}
use Rattle.std.proofs.lemmas.List.Elements.{All-tail, All-head}
use Rattle.std.proofs.lemmas.Bool.{eq-eqb, ne_eqb, eqb-true, cases_eq}
use Rattle.dense_blocks.specs.Field.{Ops}
use Rattle.dense_blocks.specs.FieldLaws.{IsField}
use Rattle.dense_blocks.specs.Vectors.{zeros, plus, dot, combination}
use Rattle.dense_blocks.specs.MatrixFacts.{negative, IsMatrix, matrix_sum, matrix_negative}
use Rattle.dense_blocks.specs.Matrices.{image_of, product}
use Rattle.dense_blocks.specs.LinearMaps.{IsMatrixOf}
use Rattle.dense_blocks.proofs.Shapes.{Vector, Matrix, vector-size, vector-nil, to_vector, to_matrix, from_matrix}
use Rattle.dense_blocks.proofs.Shapes.{matrix-size, append-matrix}
use Rattle.dense_blocks.proofs.VectorLaws.{plus-vector, negative-vector, combination-vector, zeros-plus, plus-zeros}
use Rattle.dense_blocks.proofs.VectorLaws.{zeros-plus-zeros, plus-comm, negative-zeros, plus-dot, negative-dot}
use Rattle.dense_blocks.proofs.VectorLaws.{dot-append, combination-dot}
use Rattle.dense_blocks.proofs.MatrixLaws.{image_of-vector, image_of-plus, image_of-zeros, image_of-nil}
use Rattle.dense_blocks.proofs.MatrixLaws.{image_of-negative, product-matrix, product-image_of, matrix_sum-matrix}
use Rattle.dense_blocks.proofs.MatrixLaws.{matrix_negative-matrix, matrix_sum-image_of, matrix_negative-image_of}
use Rattle.cochain_vec.specs.declared.cell.Cell.{Cell}
use Rattle.cochain_vec.specs.Complexes.{CellularComplex, total_size, coordinates, value_at}
use Rattle.cochain_vec.proofs.CoboundaryLaws.{size_at, take-vector, drop-vector, value-vector, joined-vector}
use Rattle.cochain_vec.proofs.CoboundaryLaws.{joined-same}
use Rattle.cochain_vec.proofs.PathLaws.{sum_over, sum_over-vector, sum_over-zeros, sum_over-plus}
use Rattle.rising_lists.specs.Rising.{IsRising, has}
use Rattle.rising_lists.proofs.Keyed.{rising_tail, head-absent}
use Rattle.block_complexes.specs.BlockComplexes.{BlockComplex, cells, degree_of, size_of}
use Rattle.block_complexes.specs.Cochains.{complex_of, cell_of, of_degree}
use Rattle.block_complexes.proofs.Sums.{sum_over-equal, sum_over-negative, sum_over-apart}
use Rattle.block_complexes.proofs.ComplexLaws.{size-of_degree}
use Rattle.block_complexes.proofs.FullLaws.{filled, same-filled}
use Rattle.equivalence_laws.specs.Updates.{AreNextMatrices, cell_rows, rows_at, columns_at, next_pi, next_iota, next_h}
use Rattle.equivalence_laws.specs.Laws.{OperationsGiveNext}
use Rattle.equivalence_laws.specs.RemovalMaps.{Removal, cochain_value, removal_pi, removal_iota, removal_h}
use Rattle.equivalence_laws.proofs.CellEquations.{IsSetting}
use Rattle.equivalence_laws.proofs.CochainValues.{value-size, value-part}
use Rattle.equivalence_laws.proofs.CellEquations as at_cells
use Rattle.equivalence_laws.proofs.SameMaps as same_maps
use Rattle.equivalence_laws.proofs.RemovalEquations as on_cochains
use Rattle.equivalence_laws.proofs.CompositeLaws as composite_laws

map-twice : {A B C : Type 0} (f : B → C) (g : A → B) (xs : List A) → map f (map g xs) ≡ map (λ x. f (g x)) xs
map-twice f g [] = refl
map-twice f g (x ∷ xs) = ap (λ u. f (g x) ∷ u) (map-twice f g xs)

-- a cell that is not live has no coordinates
pub size-absent : (live : List (ℕ × ℕ × ℕ)) (k c : ℕ) → has c (cells live) ≡ false → size_at (of_degree k live) c ≡ 0
unfolding size_at
size-absent [] k c h = refl
size-absent (l ∷ ls) k c h = go (eqb l.1 k) (eqb l.0 c) refl h (size-absent ls k c)
  where
    others : List Cell
    others = of_degree k ls

    go : (b e : Bool) → eqb l.0 c ≡ e → (e || has c (cells ls)) ≡ false
        → (has c (cells ls) ≡ false → size_at others c ≡ 0)
        → size_at (cond b (cell_of l ∷ others) others) c ≡ 0
    go b true f m rest = cc
    go true false f m rest = rw f (rest m)
    go false false f m rest = rest m

-- rows
module _ (K : Ops) where
  pub value-image_of : (cs : List Cell) (A : List (List ℕ)) (z : List ℕ) (c : ℕ) → value_at cs (image_of K A z) c
      ≡ image_of K (cell_rows cs A c) z
  value-image_of [] A z c = refl
  value-image_of (t ∷ ts) A z c =
      elim (eqb t.cell c) as (λ b. cond b (take t.size (image_of K A z)) (value_at ts (drop t.size (image_of K A z)) c)
      ≡ image_of K (cond b (take t.size A) (cell_rows ts (drop t.size A) c)) z) [
        | true ↦ take-map (λ row. dot K row z) t.size A
        | false ↦ ap (λ u. value_at ts u c) (drop-map (λ row. dot K row z) t.size A)
            ∙ value-image_of ts (drop t.size A) z c
      ]

  take-matrix : (m k n : ℕ) (A : List (List ℕ)) → Matrix K (m + k) n A → Matrix K m n (take m A)
  take-matrix zero k n A h = tt
  take-matrix (suc m) k n [] h = subst (λ l. Matrix K l n []) (suc-add m k) h
  take-matrix (suc m) k n (r ∷ A) h = let g : Matrix K (suc (m + k)) n (r ∷ A) =
      subst (λ l. Matrix K l n (r ∷ A)) (suc-add m k) h in (g.0, take-matrix m k n A g.1)

  pub drop-matrix : (m k n : ℕ) (A : List (List ℕ)) → Matrix K (m + k) n A → Matrix K k n (drop m A)
  drop-matrix zero k n A h = subst (λ l. Matrix K l n A) (zero-add k) h
  drop-matrix (suc m) k n [] h = absurd (subst (λ l. Matrix K l n []) (suc-add m k) h)
  drop-matrix (suc m) k n (r ∷ A) h = let g : Matrix K (suc (m + k)) n (r ∷ A) =
      subst (λ l. Matrix K l n (r ∷ A)) (suc-add m k) h in drop-matrix m k n A g.1

  pub rows-matrix : (cs : List Cell) (n : ℕ) (A : List (List ℕ)) (c : ℕ) → Matrix K (total_size cs) n A
      → Matrix K (size_at cs c) n (cell_rows cs A c)
  unfolding size_at
  rows-matrix [] n A c h = tt
  rows-matrix (t ∷ ts) n A c h =
      elim (eqb t.cell c) as (λ b. Matrix K (cond b t.size (size_at ts c)) n
      (cond b (take t.size A) (cell_rows ts (drop t.size A) c))) [
        | true ↦ take-matrix t.size (total_size ts) n A h
        | false ↦ rows-matrix ts n (drop t.size A) c (drop-matrix t.size (total_size ts) n A h)
      ]

  pub image_of-joined : (g : Cell → List (List ℕ)) (cs : List Cell) (z : List ℕ) → image_of K (flat_map g cs) z
      ≡ flat_map (λ t. image_of K (g t) z) cs
  image_of-joined g [] z = refl
  image_of-joined g (t ∷ ts) z = map-append (λ row. dot K row z) (g t) (flat_map g ts)
      ∙ ap (λ u. image_of K (g t) z ++ u) (image_of-joined g ts z)

  pub joined-matrix : (g : Cell → List (List ℕ)) (n : ℕ) (cs : List Cell) → All (λ (t : Cell). Matrix K t.size n (g t)) cs
      → Matrix K (total_size cs) n (flat_map g cs)
  joined-matrix g n [] h = tt
  joined-matrix g n (t ∷ ts) h =
      append-matrix K t.size (total_size ts) n (g t) (flat_map g ts)
      (All-head (λ (t : Cell). Matrix K t.size n (g t)) t ts h)
      (joined-matrix g n ts (All-tail (λ (t : Cell). Matrix K t.size n (g t)) t ts h))

  module _ (F : IsField K) where
    -- a product has the rows of the left factor, whatever the right one has
    pub product-rows : (l m n : ℕ) (A B : List (List ℕ)) → length A ≡ l → Matrix K m n B → Matrix K l n (product K n A B)
    product-rows zero m n [] B e h = tt
    product-rows zero m n (a ∷ A) B e h = absurd (omega arith)
    product-rows (suc l) m n [] B e h = absurd (omega arith)
    product-rows (suc l) m n (a ∷ A) B e h = (combination-vector K F m n a B h, product-rows l m n A B (omega arith) h)

    -- columns
    pub columns-matrix : (cs : List Cell) (m : ℕ) (A : List (List ℕ)) (c : ℕ) → Matrix K m (total_size cs) A
        → Matrix K m (size_at cs c) (map (λ row. value_at cs row c) A)
    columns-matrix cs zero [] c h = tt
    columns-matrix cs zero (a ∷ A) c h = absurd h
    columns-matrix cs (suc m) [] c h = absurd h
    columns-matrix cs (suc m) (a ∷ A) c h = (value-vector K cs a c h.0, columns-matrix cs m A c h.1)

    split-image_of : (m n j : ℕ) (A : List (List ℕ)) (z : List ℕ) → Matrix K m (n + j) A → Vector K (n + j) z
        → image_of K A z ≡ plus K (image_of K (map (take n) A) (take n z)) (image_of K (map (drop n) A) (drop n z))
    split-image_of zero n j [] z h hz = refl
    split-image_of zero n j (r ∷ A) z h hz = absurd h
    split-image_of (suc m) n j [] z h hz = absurd h
    split-image_of (suc m) n j (r ∷ A) z h hz =
        ap₂ ◌∷◌
        (ap₂ (dot K) (sym (take-append-drop n r)) (sym (take-append-drop n z))
        ∙ dot-append K F (take n r) (take n z) (drop n r) (drop n z)
        (vector-size K n (take n r) (take-vector K n j r h.0)
        ∙ sym (vector-size K n (take n z) (take-vector K n j z hz))))
        (split-image_of m n j A z h.1 hz)

    -- a matrix at a cochain is the sum, over the live cells, of its columns at the cell at the value there
    pub live-sum : (live : List (ℕ × ℕ × ℕ)) → IsRising (cells live) → (k m : ℕ) (A : List (List ℕ)) (z : List ℕ)
        → Matrix K m (total_size (of_degree k live)) A → Vector K (total_size (of_degree k live)) z
        → image_of K A z ≡ sum_over K m (λ c. image_of K (map (λ row. value_at (of_degree k live) row c) A)
        (value_at (of_degree k live) z c)) (cells live)
    live-sum [] r k m A z h hz = ap (image_of K A) (vector-nil K z hz) ∙ image_of-nil K F m 0 A h
    live-sum (l ∷ ls) r k m A z h hz = go (eqb l.1 k) h hz (λ B u. live-sum ls (rising_tail l.0 (cells ls) r) k m B u)
      where
        rest : List Cell
        rest = of_degree k ls

        absent : has l.0 (cells ls) ≡ false
        absent = head-absent l.0 (cells ls) r

        go : (b : Bool) → Matrix K m (total_size (cond b (cell_of l ∷ rest) rest)) A
            → Vector K (total_size (cond b (cell_of l ∷ rest) rest)) z
            → ((B : List (List ℕ)) (u : List ℕ) → Matrix K m (total_size rest) B → Vector K (total_size rest) u
            → image_of K B u ≡ sum_over K m (λ c. image_of K (map (λ row. value_at rest row c) B) (value_at rest u c))
            (cells ls))
            → image_of K A z ≡ plus K (image_of K (map (λ row. value_at (cond b (cell_of l ∷ rest) rest) row l.0) A)
            (value_at (cond b (cell_of l ∷ rest) rest) z l.0))
            (sum_over K m (λ c. image_of K (map (λ row. value_at (cond b (cell_of l ∷ rest) rest) row c) A)
            (value_at (cond b (cell_of l ∷ rest) rest) z c)) (cells ls))
        go true h hz later =
            let n = l.2 in
            let term : Bool → ℕ → List ℕ =
            λ b c. image_of K (map (λ row. cond b (take n row) (value_at rest (drop n row) c)) A)
            (cond b (take n z) (value_at rest (drop n z) c)) in
            split-image_of m n (total_size rest) A z h hz
            ∙ ap₂ (plus K) (sym (ap (λ b. term b l.0) (eq-eqb l.0 l.0 refl)))
            (later (map (drop n) A) (drop n z) (drop-columns m n (total_size rest) A h)
            (drop-vector K n (total_size rest) z hz)
            ∙ sum_over-equal K F m (λ c. image_of K (map (λ row. value_at rest row c) (map (drop n) A))
            (value_at rest (drop n z) c)) (λ c. term (eqb l.0 c) c) (cells ls)
            (λ c hc. ap (λ B. image_of K B (value_at rest (drop n z) c))
            (map-twice (λ row. value_at rest row c) (drop n) A)
            ∙ sym (ap (λ b. term b c) (ne_eqb l.0 c (λ e. let bad : false ≡ true = sym absent
            ∙ ap (λ q. has q (cells ls)) e ∙ hc in cc)))))
          where
            drop-columns : (m n j : ℕ) (A : List (List ℕ)) → Matrix K m (n + j) A → Matrix K m j (map (drop n) A)
            drop-columns zero n j [] h = tt
            drop-columns zero n j (a ∷ A) h = absurd h
            drop-columns (suc m) n j [] h = absurd h
            drop-columns (suc m) n j (a ∷ A) h = (drop-vector K n j a h.0, drop-columns m n j A h.1)
        go false h hz later =
            let term : ℕ → List ℕ = λ c. image_of K (map (λ row. value_at rest row c) A) (value_at rest z c) in
            let shape : (c : ℕ) → Vector K m (term c) = λ c. image_of-vector K F m (size_at rest c)
            (map (λ row. value_at rest row c) A) (value_at rest z c) (columns-matrix rest m A c h) in
            let none : value_at rest z l.0 ≡ [] = vector-nil K (value_at rest z l.0)
            (subst (λ n. Vector K n (value_at rest z l.0)) (size-absent ls k l.0 absent)
            (value-vector K rest z l.0 hz)) in
            later A z h hz
            ∙ sym (zeros-plus K F m (sum_over K m term (cells ls)) (sum_over-vector K F m term (cells ls) shape))
            ∙ ap (λ u. plus K u (sum_over K m term (cells ls)))
            (sym (ap (image_of K (map (λ row. value_at rest row l.0) A)) none
            ∙ image_of-nil K F m (size_at rest l.0) (map (λ row. value_at rest row l.0) A)
            (columns-matrix rest m A l.0 h)))

    -- a sum comes out of a matrix of any number of columns
    pub image_of-sum : (m j n : ℕ) (A : List (List ℕ)) (f : ℕ → List ℕ) (ks : List ℕ) → Matrix K m j A
        → ((t : ℕ) → Vector K n (f t))
        → image_of K A (sum_over K n f ks) ≡ sum_over K m (λ t. image_of K A (f t)) ks
    image_of-sum m j n A f [] h v = image_of-zeros K F n m j A h
    image_of-sum m j n A f (k ∷ ks) h v =
        image_of-plus K F n A (f k) (sum_over K n f ks) (v k) (sum_over-vector K F n f ks v)
        ∙ ap (plus K (image_of K A (f k))) (image_of-sum m j n A f ks h v)

    -- a matrix without columns sends all to zero
    without_columns : (m : ℕ) (A : List (List ℕ)) (z : List ℕ) → Matrix K m 0 A → image_of K A z ≡ zeros m
    without_columns zero [] z h = refl
    without_columns zero (a ∷ A) z h = absurd h
    without_columns (suc m) [] z h = absurd h
    without_columns (suc m) (a ∷ A) z h = ap₂ ◌∷◌ (ap (λ r. dot K r z) (vector-nil K a h.0)) (without_columns m A z h.1)

-- a cell of another degree has no coordinates
pub size-other : (live : List (ℕ × ℕ × ℕ)) (k c : ℕ) → IsRising (cells live) → degree_of live c ≢ k → has c (cells live)
    ≡ true → size_at (of_degree k live) c ≡ 0
unfolding size_at
size-other [] k c r n h = refl
size-other (l ∷ ls) k c r n h = go (eqb l.0 c) (eqb l.1 k) refl refl n h
    (size-other ls k c (rising_tail l.0 (cells ls) r))
  where
    rest : List Cell
    rest = of_degree k ls

    go : (e b : Bool) → eqb l.0 c ≡ e → eqb l.1 k ≡ b → (cond e l.1 (degree_of ls c) ≡ k → ⊥) → (e || has c (cells ls))
        ≡ true
        → ((degree_of ls c ≡ k → ⊥) → has c (cells ls) ≡ true → size_at rest c ≡ 0)
        → size_at (cond b (cell_of l ∷ rest) rest) c ≡ 0
    go true true f g n m later = absurd (n (eqb-true l.1 k g))
    go true false f g n m later = size-absent ls k c
        (ap (λ q. has q (cells ls)) (sym (eqb-true l.0 c f)) ∙ head-absent l.0 (cells ls) r)
    go false true f g n m later = rw f (later n m)
    go false false f g n m later = later n m

module _ (K : Ops) (u : BlockComplex) (r : Removal) (p : IsSetting K u r) (k : ℕ) where
  open p use {full, removal}

  abbrev F : IsField K
  F = p.field

  abbrev x : ℕ
  x = r.x

  abbrev y : ℕ
  y = r.y

  abbrev a : List (List ℕ)
  a = r.inverse

  abbrev w : BlockComplex
  w = r.rest

  abbrev B : CellularComplex
  B = complex_of u

  abbrev D : CellularComplex
  D = complex_of w

  abbrev size : ℕ → ℕ
  size c = size_of u.live c

  abbrev degree : ℕ → ℕ
  degree c = degree_of u.live c

  abbrev M : ℕ → ℕ → List (List ℕ)
  M s t = u.matrix s t

  abbrev IsLeft : ℕ → Type 0
  IsLeft c = has c (cells w.live) ≡ true

  abbrev cs : List Cell
  cs = of_degree k u.live

  M-shape : (s t : ℕ) → Matrix K (size t) (size s) (M s t)
  M-shape s t = at_cells.M-shape K u r p s t

  a-shape : Matrix K (size x) (size y) a
  a-shape = at_cells.a-shape K u r p

  size-here : (c : ℕ) → IsLeft c → degree c ≡ k → size_at cs c ≡ size c
  size-here c h e = size-of_degree u.live k c (on_cochains.left-live K u r p c h) e

  -- pi
  module _ (n : ℕ) (A : List (List ℕ)) (hA : Matrix K (coordinates B k) n A) where
    rows-y : Matrix K (size_at cs y) n (rows_at u k A y)
    rows-y = rows-matrix K cs n A y hA

    back : Matrix K (size x) n (product K n a (rows_at u k A y))
    back = product-rows K F (size x) (size_at cs y) n a (rows_at u k A y)
        (matrix-size K (size x) (size y) a a-shape) rows-y

    abbrev part : Cell → List (List ℕ)
    part t = matrix_sum K (rows_at u k A t.cell) (matrix_negative K
        (product K n (M x t.cell) (product K n a (rows_at u k A y))))

    away-shape : (t : Cell) → size t.cell ≡ t.size
        → Matrix K t.size n (product K n (M x t.cell) (product K n a (rows_at u k A y)))
    away-shape t is = product-rows K F t.size (size x) n (M x t.cell) (product K n a (rows_at u k A y))
        (matrix-size K (size t.cell) (size x) (M x t.cell) (M-shape x t.cell) ∙ is) back

    rows-shape : (t : Cell) → IsLeft t.cell → degree t.cell ≡ k → size t.cell ≡ t.size
        → Matrix K t.size n (rows_at u k A t.cell)
    rows-shape t h e is = subst (λ m. Matrix K m n (rows_at u k A t.cell)) (size-here t.cell h e ∙ is)
        (rows-matrix K cs n A t.cell hA)

    next_pi-matrix : Matrix K (coordinates D k) n (next_pi K u r k n A)
    next_pi-matrix =
        joined-matrix K part n (of_degree k w.live)
        (on_cochains.each-left K u r p k (λ (t : Cell). Matrix K t.size n (part t))
        (λ t h e is.
        let away = product K n (M x t.cell) (product K n a (rows_at u k A y)) in
        matrix_sum-matrix K F t.size n (rows_at u k A t.cell) (matrix_negative K away) (rows-shape t h e is)
        (matrix_negative-matrix K F t.size n away (away-shape t is))))

    next_pi-image_of : (z : List ℕ) → image_of K (next_pi K u r k n A) z ≡ removal_pi K u r k (image_of K A z)
    next_pi-image_of z =
        let image = image_of K A z in
        image_of-joined K part (of_degree k w.live) z
        ∙ joined-same (λ t. image_of K (part t) z)
        (λ t. plus K (cochain_value u k image t.cell) (negative K
        (image_of K (M x t.cell) (image_of K a (cochain_value u k image y))))) (of_degree k w.live)
        (on_cochains.each-left K u r p k
        (λ (t : Cell). image_of K (part t) z ≡ plus K (cochain_value u k image t.cell)
        (negative K (image_of K (M x t.cell) (image_of K a (cochain_value u k image y)))))
        (λ t h e is.
        let away = product K n (M x t.cell) (product K n a (rows_at u k A y)) in
        matrix_sum-image_of K F t.size n (rows_at u k A t.cell) (matrix_negative K away) z (rows-shape t h e is)
        (matrix_negative-matrix K F t.size n away (away-shape t is))
        ∙ ap₂ (plus K) (sym (value-image_of K cs A z t.cell))
        (matrix_negative-image_of K F away z
        ∙ ap (negative K)
        (product-image_of K F (size x) n (M x t.cell) (product K n a (rows_at u k A y)) z back
        ∙ ap (image_of K (M x t.cell))
        (product-image_of K F (size_at cs y) n a (rows_at u k A y) z rows-y
        ∙ ap (image_of K a) (sym (value-image_of K cs A z y)))))))

  -- iota, row by row
  abbrev entry : List ℕ → ℕ → ℕ → List ℕ
  entry row n c = plus K (cochain_value u k row c)
      (negative K (combination K n (cochain_value u k row x) (product K n a (M c y))))

  abbrev new_row : List ℕ → List ℕ
  new_row row = flat_map (λ s. entry row s.size s.cell) (of_degree k w.live)

  module _ (row : List ℕ) (hr : Vector K (coordinates B k) row) where
    through-shape : (c : ℕ) → Matrix K (size x) (size c) (product K (size c) a (M c y))
    through-shape c = product-matrix K F (size x) (size y) (size c) a (M c y) a-shape (M-shape c y)

    away-vector : (c : ℕ) → Vector K (size c) (combination K (size c) (cochain_value u k row x)
        (product K (size c) a (M c y)))
    away-vector c = combination-vector K F (size x) (size c) (cochain_value u k row x) (product K (size c) a (M c y))
        (through-shape c)

    value-vector-here : (c : ℕ) → IsLeft c → degree c ≡ k → Vector K (size c) (cochain_value u k row c)
    value-vector-here c h e = value-size u full.rising k K row c hr (on_cochains.left-live K u r p c h) e

    entry-vector : (c : ℕ) → IsLeft c → degree c ≡ k → Vector K (size c) (entry row (size c) c)
    entry-vector c h e =
        let away = combination K (size c) (cochain_value u k row x) (product K (size c) a (M c y)) in
        plus-vector K F (size c) (cochain_value u k row c) (negative K away) (value-vector-here c h e)
        (negative-vector K F (size c) away (away-vector c))

    entries : All (λ (s : Cell). Vector K s.size (entry row s.size s.cell)) (of_degree k w.live)
    entries =
        on_cochains.each-left K u r p k (λ (s : Cell). Vector K s.size (entry row s.size s.cell))
        (λ s h e is. subst (λ n. Vector K n (entry row n s.cell)) is (entry-vector s.cell h e))

    new_row-vector : Vector K (coordinates D k) (new_row row)
    new_row-vector = joined-vector K F (λ (s : Cell). entry row s.size s.cell) (of_degree k w.live) entries

    new_row-dot : (c : ℕ) → IsLeft c → degree c ≡ k → (g : List ℕ)
        → dot K (cochain_value w k (new_row row) c) g ≡ K.add (dot K (cochain_value u k row c) g)
        (K.neg (dot K (cochain_value u k row x) (image_of K a (image_of K (M c y) g))))
    new_row-dot c h e g =
        let away = combination K (size c) (cochain_value u k row x) (product K (size c) a (M c y)) in
        ap (λ q. dot K q g)
        (value-part w (on_cochains.rises_rest K u r p) k K (λ (s : Cell). entry row s.size s.cell) c
        (entry row (size c) c) entries h (on_cochains.left-degree K u r p c h ∙ e)
        (subst (λ n. Vector K n (entry row (size c) c)) (sym (on_cochains.left-size K u r p c h)) (entry-vector c h e))
        (λ s is same. ap₂ (entry row) (sym same ∙ ap (size_of w.live) is ∙ on_cochains.left-size K u r p c h) is))
        ∙ plus-dot K F (size c) (cochain_value u k row c) (negative K away) g (value-vector-here c h e)
        (negative-vector K F (size c) away (away-vector c))
        ∙ ap (K.add (dot K (cochain_value u k row c) g))
        (negative-dot K F away g
        ∙ ap K.neg
        (combination-dot K F (size x) (size c) (cochain_value u k row x) (product K (size c) a (M c y)) g
        (through-shape c)
        ∙ ap (dot K (cochain_value u k row x)) (product-image_of K F (size y) (size c) a (M c y) g (M-shape c y))))

  next_iota-matrix : (m : ℕ) (A : List (List ℕ)) → Matrix K m (coordinates B k) A
      → Matrix K m (coordinates D k) (next_iota K u r k A)
  next_iota-matrix zero [] h = tt
  next_iota-matrix zero (row ∷ A) h = absurd h
  next_iota-matrix (suc m) [] h = absurd h
  next_iota-matrix (suc m) (row ∷ A) h = (new_row-vector row h.0, next_iota-matrix m A h.1)

  next_iota-columns : (m : ℕ) (A : List (List ℕ)) → Matrix K m (coordinates B k) A → (c : ℕ) → IsLeft c → degree c ≡ k
      → (g : List ℕ)
      → image_of K (columns_at w k (next_iota K u r k A) c) g
      ≡ plus K (image_of K (columns_at u k A c) g) (negative K
      (image_of K (columns_at u k A x) (image_of K a (image_of K (M c y) g))))
  next_iota-columns zero [] h c hc e g = refl
  next_iota-columns zero (row ∷ A) h c hc e g = absurd h
  next_iota-columns (suc m) [] h c hc e g = absurd h
  next_iota-columns (suc m) (row ∷ A) h c hc e g =
      ap₂ ◌∷◌ (new_row-dot row h.0 c hc e g) (next_iota-columns m A h.1 c hc e g)

  -- a matrix with a column for each coordinate of degree k, at a family that is right at the cells of degree k
  module _ (m : ℕ) (A : List (List ℕ)) (hA : Matrix K m (coordinates B k) A) where
    abbrev columns : ℕ → List (List ℕ)
    columns c = columns_at u k A c

    columns-shape : (c : ℕ) → Matrix K m (size_at cs c) (columns c)
    columns-shape c = columns-matrix K F cs m A c hA

    no_columns : (c : ℕ) → has c (cells u.live) ≡ true → degree c ≢ k → (g : List ℕ) → image_of K (columns c) g
        ≡ zeros m
    no_columns c h n g = without_columns K F m (columns c) g
        (subst (λ j. Matrix K m j (columns c)) (size-other u.live k c full.rising n h) (columns-shape c))

    image_of-family : (z : List ℕ) → Vector K (coordinates B k) z → (g : ℕ → List ℕ)
        → ((c : ℕ) → has c (cells u.live) ≡ true → degree c ≡ k → cochain_value u k z c ≡ g c)
        → image_of K (columns y) (g y) ≡ zeros m
        → image_of K A z ≡ plus K (image_of K (columns x) (g x))
        (sum_over K m (λ c. image_of K (columns c) (g c)) (cells w.live))
    image_of-family z hz g same none =
        let term : ℕ → List ℕ = λ c. image_of K (columns c) (g c) in
        live-sum K F u.live full.rising k m A z hA hz
        ∙ sum_over-equal K F m (λ c. image_of K (columns c) (cochain_value u k z c)) term (cells u.live) here
        ∙ sum_over-apart K F m term (λ c. image_of-vector K F m (size_at cs c) (columns c) (g c) (columns-shape c)) x y
        none (cells u.live) full.rising removal.pair.from
        ∙ ap (λ ks. plus K (term x) (sum_over K m term ks)) (sym (at_cells.cells-left K u r p))
      where
        here : (c : ℕ) → has c (cells u.live) ≡ true → image_of K (columns c) (cochain_value u k z c)
            ≡ image_of K (columns c) (g c)
        here c h = elim (cases_eq (degree c) k) [
          | inl e ↦ ap (image_of K (columns c)) (same c h e)
          | inr n ↦ no_columns c h n (cochain_value u k z c) ∙ sym (no_columns c h n (g c))
        ]

    next_iota-image_of : (z : List ℕ) → Vector K (coordinates D k) z → image_of K (next_iota K u r k A) z
        ≡ image_of K A (removal_iota K u r k z)
    next_iota-image_of z hz =
        live-sum K F w.live (on_cochains.rises_rest K u r p) k m (next_iota K u r k A) z (next_iota-matrix m A hA) hz
        ∙ sum_over-equal K F m (λ c. image_of K (columns_at w k (next_iota K u r k A) c) (g c))
        (λ c. plus K (first c) (negative K (second c))) (cells w.live) here
        ∙ sum_over-plus K F m first (λ c. negative K (second c)) (cells w.live)
        ∙ ap (plus K (sum_over K m first (cells w.live)))
        (sum_over-negative K F m second (cells w.live)
        ∙ ap (negative K)
        (sym (ap (image_of K (columns x)) (image_of-sum K F (size x) (size y) (size y) a (λ c. image_of K (M c y) (g c))
        (cells w.live) a-shape (λ c. at_cells.M-vector K u r p c y (g c)))
        ∙ image_of-sum K F m (size_at cs x) (size x) (columns x) (λ c. image_of K a (image_of K (M c y) (g c)))
        (cells w.live) (columns-shape x)
        (λ c. at_cells.a-vector K u r p (image_of K (M c y) (g c))))))
        ∙ plus-comm K F (sum_over K m first (cells w.live))
        (negative K (image_of K (columns x) (image_of K a (at_cells.rest K u r p g y))))
        ∙ sym
        (image_of-family (removal_iota K u r k z) (on_cochains.iota-cochain K u r p k z hz) (at_cells.ext K u r p g)
        (λ c h e. on_cochains.iota-value K u r p k z hz c h e)
        (ap (image_of K (columns y)) (at_cells.ext-y K u r p g)
        ∙ image_of-zeros K F (size y) m (size_at cs y) (columns y) (columns-shape y))
        ∙ ap₂ (plus K)
        (ap (image_of K (columns x)) (at_cells.ext-x K u r p g)
        ∙ image_of-negative K F (columns x) (image_of K a (at_cells.rest K u r p g y)))
        (sum_over-equal K F m (λ c. image_of K (columns c) (at_cells.ext K u r p g c)) first (cells w.live)
        (λ c hc. ap (image_of K (columns c)) (at_cells.ext-left K u r p g c hc))))
      where
        g : ℕ → List ℕ
        g c = cochain_value w k z c

        first : ℕ → List ℕ
        first c = image_of K (columns c) (g c)

        second : ℕ → List ℕ
        second c = image_of K (columns x) (image_of K a (image_of K (M c y) (g c)))

        here : (c : ℕ) → IsLeft c → image_of K (columns_at w k (next_iota K u r k A) c) (g c)
            ≡ plus K (first c) (negative K (second c))
        here c hc = elim (cases_eq (degree c) k) [
          | inl e ↦ next_iota-columns m A hA c hc e (g c)
          | inr n ↦
              let live = on_cochains.left-live K u r p c hc in
              let none : g c ≡ [] =
              vector-nil K (g c)
              (subst (λ j. Vector K j (g c)) (size-other w.live k c (on_cochains.rises_rest K u r p)
              (λ e. n (sym (on_cochains.left-degree K u r p c hc) ∙ e)) hc)
              (value-vector K (of_degree k w.live) z c hz)) in
              let new = columns_at w k (next_iota K u r k A) c in
              ap (image_of K new) none ∙ image_of-nil K F m (size_at (of_degree k w.live) c) new
              (columns-matrix K F (of_degree k w.live) m (next_iota K u r k A) c (next_iota-matrix m A hA))
              ∙ sym (ap₂ (λ s t. plus K s (negative K t)) (no_columns c live n (g c))
              (ap (λ s. image_of K (columns x) (image_of K a s))
              (ap (image_of K (M c y)) none ∙ image_of-nil K F (size y) (size c) (M c y) (M-shape c y))
              ∙ ap (image_of K (columns x)) (image_of-zeros K F (size y) (size x) (size y) a a-shape)
              ∙ image_of-zeros K F (size x) m (size_at cs x) (columns x) (columns-shape x))
              ∙ ap (plus K (zeros m)) (negative-zeros K F m) ∙ zeros-plus-zeros K F m)
        ]

    -- h of the removal, under the matrix
    h-image_of : (z : List ℕ) → Vector K (coordinates B (suc k)) z
        → image_of K A (removal_h K u r k z) ≡ image_of K (columns x) (image_of K a (cochain_value u (suc k) z y))
    h-image_of z hz =
        image_of-family (removal_h K u r k z) (on_cochains.h-cochain K u r p k z hz) lower
        (λ c h e. on_cochains.h-value K u r p k z hz c h e)
        (ap (image_of K (columns y)) (at_cells.lower-other K u r p f hf y (at_cells.distinct K u r p))
        ∙ image_of-zeros K F (size y) m (size_at cs y) (columns y) (columns-shape y))
        ∙ ap₂ (plus K) (ap (image_of K (columns x)) (at_cells.lower-x K u r p f hf))
        (sum_over-equal K F m (λ c. image_of K (columns c) (lower c)) (λ c. zeros m) (cells w.live)
        (λ c hc. ap (image_of K (columns c)) (at_cells.lower-other K u r p f hf c
        (at_cells.left-not_x K u r p f hf c hc))
        ∙ image_of-zeros K F (size c) m (size_at cs c) (columns c) (columns-shape c))
        ∙ sum_over-zeros K F m (λ c. zeros m) (cells w.live) (λ c. refl))
        ∙ plus-zeros K F m (image_of K (columns x) (image_of K a (f y)))
        (image_of-vector K F m (size_at cs x) (columns x) (image_of K a (f y)) (columns-shape x))
        ∙ elim (cases_eq (degree x) k) [
          | inl e ↦ ap (λ q. image_of K (columns x) (image_of K a q))
              (on_cochains.spread-here K u r p (suc k) z hz y (omega (arith, removal.pair.degrees, e)))
          | inr n ↦ no_columns x removal.pair.from n (image_of K a (f y))
              ∙ sym (no_columns x removal.pair.from n (image_of K a (cochain_value u (suc k) z y)))
        ]
      where
        f : ℕ → List ℕ
        f c = on_cochains.spread K u r p (suc k) z hz c

        hf : (c : ℕ) → has c (cells u.live) ≡ true → Vector K (size c) (f c)
        hf = on_cochains.spread-vector K u r p (suc k) z hz

        lower : ℕ → List ℕ
        lower c = at_cells.lower K u r p f hf c

    -- h
    module _ (n : ℕ) (H P : List (List ℕ)) (hH : Matrix K m n H) (hP : Matrix K (coordinates B (suc k)) n P) where
      abbrev above : List Cell
      above = of_degree (suc k) u.live

      abbrev inner : List (List ℕ)
      inner = product K n a (rows_at u (suc k) P y)

      above-shape : Matrix K (size_at above y) n (rows_at u (suc k) P y)
      above-shape = rows-matrix K above n P y hP

      inner-shape : Matrix K (size x) n inner
      inner-shape = product-rows K F (size x) (size_at above y) n a (rows_at u (suc k) P y)
          (matrix-size K (size x) (size y) a a-shape) above-shape

      summand-shape : Matrix K m n (product K n (columns x) inner)
      summand-shape = product-rows K F m (size x) n (columns x) inner
          (matrix-size K m (size_at cs x) (columns x) (columns-shape x)) inner-shape

      next_h-matrix : Matrix K m n (next_h K u r k n H A P)
      next_h-matrix = matrix_sum-matrix K F m n H (product K n (columns x) inner) hH summand-shape

      next_h-image_of : (z : List ℕ) → image_of K (next_h K u r k n H A P) z
          ≡ plus K (image_of K H z) (image_of K A (removal_h K u r k (image_of K P z)))
      next_h-image_of z =
          matrix_sum-image_of K F m n H (product K n (columns x) inner) z hH summand-shape
          ∙ ap (plus K (image_of K H z))
          (product-image_of K F (size x) n (columns x) inner z inner-shape
          ∙ ap (image_of K (columns x))
          (product-image_of K F (size_at above y) n a (rows_at u (suc k) P y) z above-shape
          ∙ ap (image_of K a) (sym (value-image_of K above P z y)))
          ∙ sym (h-image_of (image_of K P z) (image_of-vector K F (coordinates B (suc k)) n P z hP)))

-- from full block complexes
full-next : (K : Ops) (v u : BlockComplex) (r : Removal) (pi iota h : ℕ → List (List ℕ)) → IsSetting K u r
    → ((k : ℕ) → IsMatrix K (coordinates (complex_of u) k) (coordinates (complex_of v) k) (pi k))
    → ((k : ℕ) → IsMatrix K (coordinates (complex_of v) k) (coordinates (complex_of u) k) (iota k))
    → ((k : ℕ) → IsMatrix K (coordinates (complex_of v) k) (coordinates (complex_of v) (suc k)) (h k))
    → AreNextMatrices K v u r pi iota h
    (λ k. next_pi K u r k (coordinates (complex_of v) k) (pi k))
    (λ k. next_iota K u r k (iota k))
    (λ k. next_h K u r k (coordinates (complex_of v) (suc k)) (h k) (iota k) (pi (suc k)))
full-next K v u r pi iota h p pi_shape iota_shape h_shape =
    let C = complex_of v in
    let B = complex_of u in
    let D = complex_of r.rest in
    record {
      pi_is = λ k.
          let n = coordinates C k in
          let hA = to_matrix K (coordinates B k) n (pi k) (pi_shape k) in record {
            shape = from_matrix K (coordinates D k) n (next_pi K u r k n (pi k)) (next_pi-matrix K u r p k n (pi k) hA);
            sends = λ z hz. next_pi-image_of K u r p k n (pi k) hA z;
          };
      iota_is = λ k.
          let m = coordinates C k in
          let hA = to_matrix K m (coordinates B k) (iota k) (iota_shape k) in record {
            shape = from_matrix K m (coordinates D k) (next_iota K u r k (iota k))
                (next_iota-matrix K u r p k m (iota k) hA);
            sends = λ z hz. next_iota-image_of K u r p k m (iota k) hA z (to_vector K (coordinates D k) z hz);
          };
      h_is = λ k.
          let m = coordinates C k in
          let n = coordinates C (suc k) in
          let hA = to_matrix K m (coordinates B k) (iota k) (iota_shape k) in
          let hH = to_matrix K m n (h k) (h_shape k) in
          let hP = to_matrix K (coordinates B (suc k)) n (pi (suc k)) (pi_shape (suc k)) in record {
            shape = from_matrix K m n (next_h K u r k n (h k) (iota k) (pi (suc k)))
                (next_h-matrix K u r p k m (iota k) hA n (h k) (pi (suc k)) hH hP);
            sends = λ z hz. next_h-image_of K u r p k m (iota k) hA n (h k) (pi (suc k)) hH hP z;
          };
    }

matrix-same : (K : Ops) (m n : ℕ) (f g : List ℕ → List ℕ) (A B : List (List ℕ)) → ((z : List ℕ) → f z ≡ g z) → A ≡ B
    → IsMatrixOf K m n f A → IsMatrixOf K m n g B
matrix-same K m n f g A B same e is = record {
  shape = subst (IsMatrix K m n) e is.shape;
  sends = λ z hz. ap (λ A. image_of K A z) (sym e) ∙ is.sends z hz ∙ same z;
}

-- and from all, by the full ones
pub operations_give_next : OperationsGiveNext
operations_give_next K u F is closed v r pi iota h removal pi_shape iota_shape h_shape =
    let C = complex_of v in
    let D = complex_of r.rest in
    let u' = filled u in
    let q = composite_laws.filled_removal r in
    let same = same-filled u in
    let removal' = composite_laws.filled-removal K F u r is removal in
    let rising = (composite_laws.rest_is K F u r is removal).rising in
    let s =
    full-next K v u' q pi iota h (composite_laws.setting K F u r is removal closed) pi_shape iota_shape h_shape in
    record {
      pi_is = λ k.
          let n = coordinates C k in
          matrix-same K (coordinates D k) n (λ z. removal_pi K u' q k (image_of K (pi k) z))
          (λ z. removal_pi K u r k (image_of K (pi k) z))
          (next_pi K u' q k n (pi k)) (next_pi K u r k n (pi k))
          (λ z. sym (same_maps.same-pi K u u' same r.x r.y r.inverse r.rest q.rest removal removal' rising k
          (image_of K (pi k) z)))
          (sym (same_maps.same-next_pi K u u' same r.x r.y r.inverse r.rest q.rest removal removal' rising k n (pi k)))
          (s.pi_is k);
      iota_is = λ k.
          matrix-same K (coordinates C k) (coordinates D k) (λ z. image_of K (iota k) (removal_iota K u' q k z))
          (λ z. image_of K (iota k) (removal_iota K u r k z))
          (next_iota K u' q k (iota k)) (next_iota K u r k (iota k))
          (λ z. ap (image_of K (iota k)) (sym (same_maps.same-iota K u u' same r.x r.y r.inverse r.rest q.rest removal
          removal' rising k z)))
          (sym (same_maps.same-next_iota K u u' same r.x r.y r.inverse r.rest q.rest removal removal' rising k
          (iota k)))
          (s.iota_is k);
      h_is = λ k.
          let n = coordinates C (suc k) in
          let made : (List ℕ → List ℕ) → List ℕ → List ℕ =
          λ step z. plus K (image_of K (h k) z) (image_of K (iota k) (step (image_of K (pi (suc k)) z))) in
          matrix-same K (coordinates C k) n (made (removal_h K u' q k)) (made (removal_h K u r k))
          (next_h K u' q k n (h k) (iota k) (pi (suc k))) (next_h K u r k n (h k) (iota k) (pi (suc k)))
          (λ z. ap (λ w. plus K (image_of K (h k) z) (image_of K (iota k) w))
          (sym (same_maps.same-h K u u' same r.x r.y r.inverse r.rest q.rest removal removal' rising k
          (image_of K (pi (suc k)) z))))
          (sym (same_maps.same-next_h K u u' same r.x r.y r.inverse r.rest q.rest removal removal' rising k n (h k)
          (iota k) (pi (suc k))))
          (s.h_is k);
    }
