-- The coboundary is linear, and gives cochains of the next degree.
use Rattle.std.proofs.Common.{◌≡◌, ℕ, zero, suc, ◌+◌, List, [], ◌∷◌, ◌++◌, length, get_or, take, drop, map, cond, eqb}
use Rattle.std.proofs.Common.{Bool, true, false, All, refl, sym, ap, ap₂, ◌∙◌, subst, arith, suc-add, zero-add}
use Rattle.std.specs.Prelude.{◌==◌}
use Rattle.std.specs.List.{flat_map}
use Rattle.std.proofs.lemmas.List.{take-map, drop-map}
use Rattle.std.proofs.lemmas.List.Elements.{All-tail, All-head, All-filter}
use Rattle.std.proofs.lemmas.Bool.{eqb-true}
use Rattle.dense_blocks.specs.Field.{Ops}
use Rattle.dense_blocks.specs.FieldLaws.{IsField}
use Rattle.dense_blocks.specs.Vectors.{zeros, plus, multiple, combination}
use Rattle.dense_blocks.specs.Matrices.{image_of}
use Rattle.dense_blocks.specs.MatrixFacts.{identity}
use Rattle.dense_blocks.proofs.Shapes.{Vector, Matrix, vector-size, append-vector}
use Rattle.dense_blocks.proofs.VectorLaws.{zeros-vector, plus-vector, multiple-vector, plus-append, multiple-append}
use Rattle.dense_blocks.proofs.VectorLaws.{plus-cross, multiple-plus, multiple-zeros, zeros-plus-zeros, dot-below}
use Rattle.dense_blocks.proofs.VectorLaws.{combination-vector, multiple-zero}
use Rattle.dense_blocks.proofs.Cutting.{take-plus, drop-plus}
use Rattle.dense_blocks.proofs.MatrixLaws.{image_of-plus, image_of-multiple, identity-matrix, combination-identity}
use Rattle.cochain_vec.specs.declared.cell.Cell.{Cell}
use Rattle.cochain_vec.specs.Complexes.{Arrow, CellularComplex, cells_of, total_size, coordinates, value_at, sum_into}
use Rattle.cochain_vec.specs.Complexes.{coboundary}
use Rattle.cochain_vec.specs.Shapes.{RowsFit}

-- a vector cut in two
pub take-vector : (K : Ops) (m n : ℕ) (z : List ℕ) → Vector K (m + n) z → Vector K m (take m z)
take-vector K zero n z h = tt
take-vector K (suc m) n [] h = subst (λ k. Vector K k []) (suc-add m n) h
take-vector K (suc m) n (a ∷ z) h = let g : Vector K (suc (m + n)) (a ∷ z) =
    subst (λ k. Vector K k (a ∷ z)) (suc-add m n) h in (g.0, take-vector K m n z g.1)

pub drop-vector : (K : Ops) (m n : ℕ) (z : List ℕ) → Vector K (m + n) z → Vector K n (drop m z)
drop-vector K zero n z h = subst (λ k. Vector K k z) (zero-add n) h
drop-vector K (suc m) n [] h = absurd (subst (λ k. Vector K k []) (suc-add m n) h)
drop-vector K (suc m) n (a ∷ z) h = let g : Vector K (suc (m + n)) (a ∷ z) =
    subst (λ k. Vector K k (a ∷ z)) (suc-add m n) h in drop-vector K m n z g.1

-- how many coordinates the cell s has among these cells
unfoldable pub size_at : List Cell → ℕ → ℕ
size_at [] s = 0
size_at (c ∷ cs) s = cond (eqb c.cell s) c.size (size_at cs s)

pub value-vector : (K : Ops) (cs : List Cell) (z : List ℕ) (s : ℕ) → Vector K (total_size cs) z
    → Vector K (size_at cs s) (value_at cs z s)
unfolding size_at
value-vector K [] z s h = tt
value-vector K (c ∷ cs) z s h =
    elim (eqb c.cell s) as (λ b. Vector K (cond b c.size (size_at cs s))
    (cond b (take c.size z) (value_at cs (drop c.size z) s))) [
      | true ↦ take-vector K c.size (total_size cs) z h
      | false ↦ value-vector K cs (drop c.size z) s (drop-vector K c.size (total_size cs) z h)
    ]

pub value-plus : (K : Ops) (cs : List Cell) (u v : List ℕ) (s : ℕ)
    → value_at cs (plus K u v) s ≡ plus K (value_at cs u s) (value_at cs v s)
value-plus K [] u v s = refl
value-plus K (c ∷ cs) u v s =
    elim (eqb c.cell s) as (λ b. cond b (take c.size (plus K u v)) (value_at cs (drop c.size (plus K u v)) s)
    ≡ plus K (cond b (take c.size u) (value_at cs (drop c.size u) s))
    (cond b (take c.size v) (value_at cs (drop c.size v) s))) [
      | true ↦ take-plus K c.size u v
      | false ↦ ap (λ t. value_at cs t s) (drop-plus K c.size u v) ∙ value-plus K cs (drop c.size u) (drop c.size v) s
    ]

pub value-multiple : (K : Ops) (cs : List Cell) (k : ℕ) (v : List ℕ) (s : ℕ) → value_at cs (multiple K k v) s
    ≡ multiple K k (value_at cs v s)
value-multiple K [] k v s = refl
value-multiple K (c ∷ cs) k v s =
    elim (eqb c.cell s) as (λ b. cond b (take c.size (multiple K k v)) (value_at cs (drop c.size (multiple K k v)) s)
    ≡ multiple K k (cond b (take c.size v) (value_at cs (drop c.size v) s))) [
      | true ↦ take-map (K.mul k) c.size v
      | false ↦ ap (λ t. value_at cs t s) (drop-map (K.mul k) c.size v) ∙ value-multiple K cs k (drop c.size v) s
    ]

-- parts that are the same at each cell are the same joined
pub joined-same : {A : Type 0} (f g : Cell → List A) (cs : List Cell) → All (λ (u : Cell). f u ≡ g u) cs
    → flat_map f cs ≡ flat_map g cs
joined-same f g [] h = refl
joined-same f g (c ∷ cs) h =
    ap₂ ◌++◌ (All-head (λ (u : Cell). f u ≡ g u) c cs h)
    (joined-same f g cs (All-tail (λ (u : Cell). f u ≡ g u) c cs h))

-- matrices into the cell t have n rows
unfoldable pub RowsInto : List Arrow → ℕ → ℕ → Type 0
RowsInto arrows n t = All (λ (a : Arrow). a.to ≡ t → length a.matrix ≡ n) arrows

module _ (K : Ops) (F : IsField K) where
  pub image_of-rows : (n : ℕ) (A : List (List ℕ)) (v : List ℕ) → length A ≡ n → Vector K n (image_of K A v)
  image_of-rows zero [] v e = tt
  image_of-rows zero (r ∷ A) v e = absurd (omega arith)
  image_of-rows (suc n) [] v e = absurd (omega arith)
  image_of-rows (suc n) (r ∷ A) v e = (dot-below K F r v, image_of-rows n A v (omega arith))

  pub sum_into-vector : (arrows : List Arrow) (value : ℕ → List ℕ) (n t : ℕ) → RowsInto arrows n t
      → Vector K n (sum_into K arrows value n t)
  unfolding RowsInto
  sum_into-vector [] value n t h = zeros-vector K F n
  sum_into-vector (a ∷ others) value n t h =
      go (eqb a.to t) refl (sum_into-vector others value n t (All-tail (λ (a : Arrow). a.to ≡ t → length a.matrix ≡ n) a
      others h))
    where
      go : (b : Bool) → eqb a.to t ≡ b → Vector K n (sum_into K others value n t)
          → Vector K n (cond b (plus K (image_of K a.matrix (value a.from)) (sum_into K others value n t))
          (sum_into K others value n t))
      go true e rest = plus-vector K F n (image_of K a.matrix (value a.from)) (sum_into K others value n t)
          (image_of-rows n a.matrix (value a.from) (All-head (λ (a : Arrow). a.to ≡ t → length a.matrix ≡ n) a others h
          (eqb-true a.to t e))) rest
      go false e rest = rest

  pub sum_into-plus : (arrows : List Arrow) (size : ℕ → ℕ) (x y z : ℕ → List ℕ) (n t : ℕ)
      → ((s : ℕ) → Vector K (size s) (x s)) → ((s : ℕ) → Vector K (size s) (y s))
      → ((s : ℕ) → z s ≡ plus K (x s) (y s)) → sum_into K arrows z n t ≡ plus K (sum_into K arrows x n t)
      (sum_into K arrows y n t)
  sum_into-plus [] size x y z n t hx hy e = sym (zeros-plus-zeros K F n)
  sum_into-plus (a ∷ others) size x y z n t hx hy e =
      let rest = sum_into-plus others size x y z n t hx hy e in
      elim (eqb a.to t) as (λ b. cond b (plus K (image_of K a.matrix (z a.from)) (sum_into K others z n t))
      (sum_into K others z n t)
      ≡ plus K (cond b (plus K (image_of K a.matrix (x a.from)) (sum_into K others x n t)) (sum_into K others x n t))
      (cond b (plus K (image_of K a.matrix (y a.from)) (sum_into K others y n t)) (sum_into K others y n t))) [
        | true ↦
            ap₂ (plus K) (ap (image_of K a.matrix) (e a.from) ∙ image_of-plus K F (size a.from) a.matrix (x a.from)
            (y a.from) (hx a.from) (hy a.from)) rest
            ∙ plus-cross K F (image_of K a.matrix (x a.from)) (image_of K a.matrix (y a.from)) (sum_into K others x n t)
            (sum_into K others y n t)
        | false ↦ rest
      ]

  pub sum_into-multiple : (arrows : List Arrow) (k : ℕ) (x z : ℕ → List ℕ) (n t : ℕ)
      → ((s : ℕ) → z s ≡ multiple K k (x s))
      → sum_into K arrows z n t ≡ multiple K k (sum_into K arrows x n t)
  sum_into-multiple [] k x z n t e = sym (multiple-zeros K F k n)
  sum_into-multiple (a ∷ others) k x z n t e =
      let rest = sum_into-multiple others k x z n t e in
      elim (eqb a.to t) as (λ b. cond b (plus K (image_of K a.matrix (z a.from)) (sum_into K others z n t))
      (sum_into K others z n t)
      ≡ multiple K k (cond b (plus K (image_of K a.matrix (x a.from)) (sum_into K others x n t))
      (sum_into K others x n t))) [
        | true ↦
            ap₂ (plus K) (ap (image_of K a.matrix) (e a.from) ∙ image_of-multiple K F k a.matrix (x a.from)) rest
            ∙ sym (multiple-plus K F k (image_of K a.matrix (x a.from)) (sum_into K others x n t))
        | false ↦ rest
      ]

  -- what is true of the part at each cell is true of the parts joined
  pub joined-vector : (piece : Cell → List ℕ) (ts : List Cell) → All (λ (t : Cell). Vector K t.size (piece t)) ts
      → Vector K (total_size ts) (flat_map piece ts)
  joined-vector piece [] h = tt
  joined-vector piece (t ∷ ts) h =
      append-vector K t.size (total_size ts) (piece t) (flat_map piece ts)
      (All-head (λ (t : Cell). Vector K t.size (piece t)) t ts h)
      (joined-vector piece ts (All-tail (λ (t : Cell). Vector K t.size (piece t)) t ts h))

  pub joined-plus : (x y z : Cell → List ℕ) (ts : List Cell) → All (λ (t : Cell). Vector K t.size (x t)) ts
      → All (λ (t : Cell). Vector K t.size (y t)) ts
      → ((t : Cell) → z t ≡ plus K (x t) (y t)) → flat_map z ts ≡ plus K (flat_map x ts) (flat_map y ts)
  joined-plus x y z [] hx hy e = refl
  joined-plus x y z (t ∷ ts) hx hy e =
      let xt = All-head (λ (t : Cell). Vector K t.size (x t)) t ts hx in
      let yt = All-head (λ (t : Cell). Vector K t.size (y t)) t ts hy in
      ap₂ ◌++◌ (e t) (joined-plus x y z ts (All-tail (λ (t : Cell). Vector K t.size (x t)) t ts hx)
      (All-tail (λ (t : Cell). Vector K t.size (y t)) t ts hy) e)
      ∙ sym (plus-append K (x t) (y t) (flat_map x ts) (flat_map y ts) (vector-size K t.size (x t) xt
      ∙ sym (vector-size K t.size (y t) yt)))

  pub joined-multiple : (k : ℕ) (x z : Cell → List ℕ) (ts : List Cell) → ((t : Cell) → z t ≡ multiple K k (x t))
      → flat_map z ts ≡ multiple K k (flat_map x ts)
  joined-multiple k x z [] e = refl
  joined-multiple k x z (t ∷ ts) e = ap₂ ◌++◌ (e t) (joined-multiple k x z ts e)
      ∙ sym (multiple-append K k (x t) (flat_map x ts))

  module _ (C : CellularComplex) (fits : RowsFit C) (k : ℕ) where
    -- the part of a coboundary at a cell
    unfoldable pub piece : List ℕ → Cell → List ℕ
    piece z t = sum_into K C.arrows (value_at (cells_of C k) z) t.size t.cell

    pub pieces : (z : List ℕ) → All (λ (t : Cell). Vector K t.size (piece z t)) (cells_of C (suc k))
    unfolding piece RowsInto
    pieces z =
        All-filter (λ (c : Cell). c.degree == suc k) (λ (t : Cell). Vector K t.size (piece z t)) C.cells
        (λ i d l. let t = get_or C.cells i d in sum_into-vector C.arrows (value_at (cells_of C k) z) t.size t.cell
        (fits i d l))

    pub coboundary-cochain : (z : List ℕ) → Vector K (coordinates C (suc k)) (coboundary K C k z)
    unfolding piece
    coboundary-cochain z = joined-vector (piece z) (cells_of C (suc k)) (pieces z)

    pub coboundary-plus : (u v : List ℕ) → Vector K (coordinates C k) u → Vector K (coordinates C k) v
        → coboundary K C k (plus K u v) ≡ plus K (coboundary K C k u) (coboundary K C k v)
    unfolding piece
    coboundary-plus u v hu hv =
        joined-plus (piece u) (piece v) (piece (plus K u v)) (cells_of C (suc k)) (pieces u) (pieces v)
        (λ t. sum_into-plus C.arrows (size_at (cells_of C k)) (value_at (cells_of C k) u) (value_at (cells_of C k) v)
        (value_at (cells_of C k) (plus K u v)) t.size t.cell
        (λ s. value-vector K (cells_of C k) u s hu) (λ s. value-vector K (cells_of C k) v s hv)
        (value-plus K (cells_of C k) u v))

    pub coboundary-multiple : (c : ℕ) (v : List ℕ) → coboundary K C k (multiple K c v)
        ≡ multiple K c (coboundary K C k v)
    unfolding piece
    coboundary-multiple c v =
        joined-multiple c (piece v) (piece (multiple K c v)) (cells_of C (suc k))
        (λ t. sum_into-multiple C.arrows c (value_at (cells_of C k) v) (value_at (cells_of C k) (multiple K c v)) t.size
        t.cell (value-multiple K (cells_of C k) c v))

    pub coboundary-zeros : coboundary K C k (zeros (coordinates C k)) ≡ zeros (coordinates C (suc k))
    coboundary-zeros =
        let n = coordinates C k in
        ap (coboundary K C k) (sym (multiple-zero K F n (zeros n) (zeros-vector K F n)))
        ∙ coboundary-multiple 0 (zeros n)
        ∙ multiple-zero K F (coordinates C (suc k)) (coboundary K C k (zeros n)) (coboundary-cochain (zeros n))

    pub coboundary-combination : (m : ℕ) (cs : List ℕ) (vs : List (List ℕ)) → Matrix K m (coordinates C k) vs
        → coboundary K C k (combination K (coordinates C k) cs vs) ≡ combination K (coordinates C (suc k)) cs
        (map (coboundary K C k) vs)
    coboundary-combination m [] vs h = coboundary-zeros
    coboundary-combination m (c ∷ cs) [] h = coboundary-zeros
    coboundary-combination zero (c ∷ cs) (v ∷ vs) h = absurd h
    coboundary-combination (suc m) (c ∷ cs) (v ∷ vs) h =
        let n = coordinates C k in
        coboundary-plus (multiple K c v) (combination K n cs vs) (multiple-vector K F n c v h.0)
        (combination-vector K F m n cs vs h.1)
        ∙ ap₂ (plus K) (coboundary-multiple c v) (coboundary-combination m cs vs h.1)

    -- the coboundary of a cochain, from those of the unit cochains
    pub coboundary-columns : (z : List ℕ) → Vector K (coordinates C k) z
        → coboundary K C k z ≡ combination K (coordinates C (suc k)) z
        (map (coboundary K C k) (identity (coordinates C k)))
    coboundary-columns z h =
        let n = coordinates C k in
        ap (coboundary K C k) (sym (combination-identity K F n z h)) ∙ coboundary-combination n z (identity n)
        (identity-matrix K F n)
