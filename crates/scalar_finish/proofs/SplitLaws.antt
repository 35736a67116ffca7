-- A block complex that is split into its coordinates keeps its coboundary; the same one is split into the same.
use Rattle.std.proofs.Common.{◌≡◌, ◌≢◌, ℕ, zero, suc, ◌<◌, ◌≤◌, ◌+◌, true, refl, sym, ap, ap₂, ◌∙◌, subst}
use Rattle.std.proofs.Common.{subst₂, arith, zero-add, List, [], ◌∷◌, length, get_or}
use Rattle.std.proofs.lemmas.List.{get_or-map}
use Rattle.dense_blocks.specs.Field.{Ops}
use Rattle.dense_blocks.specs.FieldLaws.{IsField}
use Rattle.dense_blocks.specs.Vectors.{dot, zeros}
use Rattle.dense_blocks.specs.Matrices.{image_of}
use Rattle.dense_blocks.specs.MatrixFacts.{IsMatrix, zero_matrix}
use Rattle.dense_blocks.proofs.Shapes.{Vector, Matrix, matrix-size, row-vector, vector-size, vector-scalars, to_matrix}
use Rattle.dense_blocks.proofs.Shapes.{from_matrix}
use Rattle.dense_blocks.proofs.VectorLaws.{dot-below}
use Rattle.dense_blocks.proofs.MatrixLaws.{image_of-vector}
use Rattle.cochain_vec.specs.declared.cell.Cell.{Cell}
use Rattle.cochain_vec.specs.Complexes.{coordinates, coboundary, cells_of, value_at, sum_into}
use Rattle.cochain_vec.proofs.PathLaws.{sum_over-vector}
use Rattle.rising_lists.specs.Rising.{IsRising, has}
use Rattle.block_complexes.specs.BlockComplexes.{BlockComplex, AreBothLive, IsBlockComplex, HaveSameMatrices, cells}
use Rattle.block_complexes.specs.BlockComplexes.{degree_of, size_of, live_size}
use Rattle.block_complexes.specs.Cochains.{complex_of}
use Rattle.block_complexes.proofs.FullLaws.{IsFull, filled, filled-full, same-filled}
use Rattle.block_complexes.proofs.SameLaws.{with-live, same-complex}
use Rattle.block_complexes.proofs.SumLaws.{sum_into-live}
use Rattle.scalar_finish.specs.Splits.{coordinate_cells, first_coordinate, entry_at, IsSplit}
use Rattle.scalar_finish.specs.Laws.{SplitKeepsAll, SplitsAreSame}
use Rattle.scalar_finish.proofs.NumberLaws.{IsNumber, Coordinate, coordinate_of, numbered, number-live, number-within}
use Rattle.scalar_finish.proofs.NumberLaws.{cells-coordinates, coordinates-rise, all-coordinates}
use Rattle.scalar_finish.proofs.SumLaws.{sum_over-at, values, total-values, values-coordinates}
use Rattle.scalar_finish.proofs.SumLaws.{joined-coordinates, coordinates-size}

-- the matrix between two coordinates
split-at : (v w : BlockComplex) → IsSplit v w → (s p i t q j : ℕ) → IsNumber 0 v.live s p i → IsNumber 0 v.live t q j
    → w.matrix i j ≡ (entry_at (v.matrix s t) q p ∷ []) ∷ []
split-at v w h s p i t q j a b =
    ap₂ w.matrix (a.number ∙ zero-add (first_coordinate v.live s + p)) (b.number ∙ zero-add (first_coordinate v.live t + q))
    ∙ h.matrices s t p q (record { from = a.is_live; to = b.is_live }) a.place b.place

coordinate-in : (live : List (ℕ × ℕ × ℕ)) (i : ℕ) → IsRising (cells live) → has i (cells (coordinate_cells 0 live)) ≡ true
    → Coordinate 0 live i
coordinate-in live i r h =
    let w = number-within 0 (live_size live) i (subst (λ ks. has i ks ≡ true) (cells-coordinates 0 live) h) in
    coordinate_of 0 live i r w.0 w.1

pub splits_are_same : SplitsAreSame
splits_are_same K v v' w w' is same one two =
    let other = subst (λ l. IsSplit (record { live = l; matrix = v'.matrix }) w') same.live two in record {
      live = other.live ∙ sym one.live;
      matrices = λ i j l.
          let in_w : (c : ℕ) → has c (cells w.live) ≡ true → Coordinate 0 v.live c =
          λ c h. coordinate-in v.live c is.rising (subst (λ l. has c (cells l) ≡ true) one.live h) in
          let a = in_w i l.from in
          let b = in_w j l.to in
          let both : AreBothLive v.live a.cell b.cell = record { from = a.is.is_live; to = b.is.is_live } in
          split-at (record { live = v.live; matrix = v'.matrix }) w' other a.cell a.place i b.cell b.place j a.is b.is
          ∙ ap (λ A. (entry_at A b.place a.place ∷ []) ∷ []) (same.matrices a.cell b.cell both)
          ∙ sym (split-at v w one a.cell a.place i b.cell b.place j a.is b.is);
    }

-- ---- over a field

entry-below : (K : Ops) (m n : ℕ) (A : List (List ℕ)) (q p : ℕ) → Matrix K m n A → q < m → p < n
    → entry_at A q p < K.order
entry-below K m n A q p h i j =
    let row = row-vector K m n A q h i in
    vector-scalars K n (get_or A q []) row p 0 (subst (λ k. p < k) (sym (vector-size K n (get_or A q []) row)) j)

pub zero-entry : (m n q p : ℕ) → entry_at (zero_matrix m n) q p ≡ 0
zero-entry zero n q p = refl
zero-entry (suc m) n zero p = zero-at n p
  where
    zero-at : (n p : ℕ) → get_or (zeros n) p 0 ≡ 0
    zero-at zero p = refl
    zero-at (suc n) zero = refl
    zero-at (suc n) (suc p) = zero-at n p
zero-entry (suc m) n (suc q) p = zero-entry m n q p

one-entry : (K : Ops) (e : ℕ) → e < K.order → IsMatrix K 1 1 ((e ∷ []) ∷ [])
one-entry K e l = from_matrix K 1 1 ((e ∷ []) ∷ []) ((l, tt), tt)

-- the same of block complexes with the same matrices
split-over : (v v' w w' : BlockComplex) → HaveSameMatrices v v' → HaveSameMatrices w w' → IsRising (cells v.live)
    → IsSplit v w → IsSplit v' w'
split-over v v' w w' before after rises h =
    with-live (λ v. IsSplit v w') v' v.live before.live (record {
      live = after.live ∙ h.live;
      matrices = λ s t p q l i j.
          let a : IsNumber 0 v.live s p (first_coordinate v.live s + p) = record {
            is_live = l.from;
            place = i;
            number = sym (zero-add (first_coordinate v.live s + p));
          } in
          let b : IsNumber 0 v.live t q (first_coordinate v.live t + q) = record {
            is_live = l.to;
            place = j;
            number = sym (zero-add (first_coordinate v.live t + q));
          } in
          after.matrices (first_coordinate v.live s + p) (first_coordinate v.live t + q) (record {
            from = subst (λ l. has (first_coordinate v.live s + p) (cells l) ≡ true) (sym h.live)
                (number-live 0 v.live s p (first_coordinate v.live s + p) a);
            to = subst (λ l. has (first_coordinate v.live t + q) (cells l) ≡ true) (sym h.live)
                (number-live 0 v.live t q (first_coordinate v.live t + q) b);
          })
          ∙ h.matrices s t p q l i j
          ∙ ap (λ A. (entry_at A q p ∷ []) ∷ []) (sym (before.matrices s t l));
    })

module _ (K : Ops) (F : IsField K) (v : BlockComplex) (is : IsBlockComplex K v) where
  cells-are : List (ℕ × ℕ × ℕ)
  cells-are = coordinate_cells 0 v.live

  -- with the cells written out
  block_complex-at : (M : ℕ → ℕ → List (List ℕ)) → IsSplit v (record { live = coordinate_cells 0 v.live; matrix = M })
      → IsBlockComplex K (record { live = coordinate_cells 0 v.live; matrix = M })
  block_complex-at M h = record {
    rising = coordinates-rise 0 v.live;
    sizes = all-coordinates (λ l. 1 ≤ l.2) (λ l. 1 ≤ l.2) (λ l j q. omega arith) 0 v.live is.sizes;
    matrices = λ i j l.
        let a = coordinate-in v.live i is.rising l.from in
        let b = coordinate-in v.live j is.rising l.to in
        let both : AreBothLive v.live a.cell b.cell = record { from = a.is.is_live; to = b.is.is_live } in
        let e : ℕ = entry_at (v.matrix a.cell b.cell) b.place a.place in
        let low = entry-below K (size_of v.live b.cell) (size_of v.live a.cell) (v.matrix a.cell b.cell) b.place a.place
        (to_matrix K (size_of v.live b.cell) (size_of v.live a.cell) (v.matrix a.cell b.cell)
        (is.matrices a.cell b.cell both)) b.is.place a.is.place in
        subst₂ (λ m n. IsMatrix K m n (M i j)) (sym (numbered (λ l. l.2) 0 v.live b.cell b.place j b.is))
        (sym (numbered (λ l. l.2) 0 v.live a.cell a.place i a.is))
        (subst (IsMatrix K 1 1) (sym (split-at v (record { live = coordinate_cells 0 v.live; matrix = M }) h a.cell
        a.place i b.cell b.place j a.is b.is)) (one-entry K e low));
    apart = λ i j l n.
        let a = coordinate-in v.live i is.rising l.from in
        let b = coordinate-in v.live j is.rising l.to in
        let both : AreBothLive v.live a.cell b.cell = record { from = a.is.is_live; to = b.is.is_live } in
        let up : degree_of v.live b.cell ≢ degree_of v.live a.cell + 1 = λ e. n
        (numbered (λ l. l.1) 0 v.live b.cell b.place j b.is ∙ e
        ∙ ap (λ d. d + 1) (sym (numbered (λ l. l.1) 0 v.live a.cell a.place i a.is))) in
        split-at v (record { live = coordinate_cells 0 v.live; matrix = M }) h a.cell a.place i b.cell b.place j a.is b.is
        ∙ ap (λ A. (entry_at A b.place a.place ∷ []) ∷ []) (is.apart a.cell b.cell both up)
        ∙ ap (λ e. (e ∷ []) ∷ []) (zero-entry (size_of v.live b.cell) (size_of v.live a.cell) b.place a.place)
        ∙ sym (ap₂ zero_matrix (numbered (λ l. l.2) 0 v.live b.cell b.place j b.is)
        (numbered (λ l. l.2) 0 v.live a.cell a.place i a.is));
  }

  split-block_complex : (w : BlockComplex) → IsSplit v w → IsBlockComplex K w
  split-block_complex w h = with-live (IsBlockComplex K) w (coordinate_cells 0 v.live) h.live
      (block_complex-at w.matrix (subst (λ l. IsSplit v (record { live = l; matrix = w.matrix })) h.live h))

single : (K : Ops) (x : List ℕ) → Vector K 1 x → x ≡ get_or x 0 0 ∷ []
single K [] h = absurd h
single K (a ∷ []) h = refl
single K (a ∷ b ∷ x) h = absurd h.1

-- the coboundary, where all matrices have their shapes
module _ (K : Ops) (F : IsField K) (v : BlockComplex) (full : IsFull K v) (M : ℕ → ℕ → List (List ℕ))
    (w-full : IsFull K (record { live = coordinate_cells 0 v.live; matrix = M }))
    (split : IsSplit v (record { live = coordinate_cells 0 v.live; matrix = M })) (k : ℕ) (z : List ℕ) where
  abbrev w : BlockComplex
  w = record { live = coordinate_cells 0 v.live; matrix = M }

  abbrev value_in : BlockComplex → ℕ → List ℕ
  value_in u s = value_at (cells_of (complex_of u) k) z s

  abbrev piece : BlockComplex → Cell → List ℕ
  piece u t = sum_into K (complex_of u).arrows (value_in u) t.size t.cell

  -- a coordinate of the value at a cell
  coordinate-at : (u : BlockComplex) (full : IsFull K u) (t n q : ℕ) → has t (cells u.live) ≡ true → size_of u.live t ≡ n
      → q < n
      → get_or (sum_into K (complex_of u).arrows (value_in u) n t) q 0 ≡ values K
      (λ s x. dot K (get_or (u.matrix s t) q []) x) k u.live z
  coordinate-at u full t n q m size l =
      let shape : (s : ℕ) → Matrix K n (size_of u.live s) (u.matrix s t) =
      λ s. subst (λ n. Matrix K n (size_of u.live s) (u.matrix s t)) size (full.shape s t) in
      let rows : (s : ℕ) → length (u.matrix s t) ≡ n = λ s. matrix-size K n (size_of u.live s) (u.matrix s t) (shape s) in
      ap (λ x. get_or x q 0) (sum_into-live K F u (value_in u) n t rows full.rising m)
      ∙ sum_over-at K F n q (λ s. image_of K (u.matrix s t) (value_in u s))
      (λ s. dot K (get_or (u.matrix s t) q []) (value_in u s)) (cells u.live) l
      (λ s. image_of-vector K F n (size_of u.live s) (u.matrix s t) (value_in u s) (shape s))
      (λ s. get_or-map (λ row. dot K row (value_in u s)) (u.matrix s t) q [] 0 (subst (λ k. q < k) (sym (rows s)) l))
      ∙ total-values K (λ s x. dot K (get_or (u.matrix s t) q []) x) k u.live z full.rising

  piece-vector : (u : BlockComplex) (full : IsFull K u) (t n : ℕ) → has t (cells u.live) ≡ true → size_of u.live t ≡ n
      → Vector K n (sum_into K (complex_of u).arrows (value_in u) n t)
  piece-vector u full t n m size =
      let shape : (s : ℕ) → Matrix K n (size_of u.live s) (u.matrix s t) =
      λ s. subst (λ n. Matrix K n (size_of u.live s) (u.matrix s t)) size (full.shape s t) in
      let rows : (s : ℕ) → length (u.matrix s t) ≡ n = λ s. matrix-size K n (size_of u.live s) (u.matrix s t) (shape s) in
      subst (Vector K n) (sym (sum_into-live K F u (value_in u) n t rows full.rising m))
      (sum_over-vector K F n (λ s. image_of K (u.matrix s t) (value_in u s)) (cells u.live)
      (λ s. image_of-vector K F n (size_of u.live s) (u.matrix s t) (value_in u s) (shape s)))

  -- the value at a coordinate
  at_coordinate : (t q j : ℕ) → IsNumber 0 v.live t q j
      → sum_into K (complex_of w).arrows (value_in w) 1 j
      ≡ get_or (sum_into K (complex_of v).arrows (value_in v) (size_of v.live t) t) q 0 ∷ []
  at_coordinate t q j b =
      let m = number-live 0 v.live t q j b in
      let one : size_of (coordinate_cells 0 v.live) j ≡ 1 = numbered (λ l. l.2) 0 v.live t q j b in
      let row : ℕ → List ℕ = λ s. get_or (v.matrix s t) q [] in
      single K (sum_into K (complex_of w).arrows (value_in w) 1 j) (piece-vector w w-full j 1 m one)
      ∙ ap (λ x. x ∷ [])
      (coordinate-at w w-full j 1 0 m one (omega arith)
      ∙ values-coordinates K F (λ i x. dot K (get_or (M i j) 0 []) x) k (λ i x. dot-below K F (get_or (M i j) 0 []) x)
      row 0 v.live z full.rising
      (λ s h. vector-size K (size_of v.live s) (row s) (row-vector K (size_of v.live t) (size_of v.live s)
      (v.matrix s t) q (full.shape s t) b.place))
      (λ s p x h l. ap (λ A. dot K (get_or A 0 []) x) (split-at v w split s p (0 + (first_coordinate v.live s + p)) t q j
      (record { is_live = h; place = l; number = refl }) b))
      ∙ sym (coordinate-at v full t (size_of v.live t) q b.is_live refl b.place))

  coboundary-same : coboundary K (complex_of w) k z ≡ coboundary K (complex_of v) k z
  coboundary-same = joined-coordinates (piece w) (piece v) (suc k) 0 v.live full.rising
      (λ t h d. vector-size K (size_of v.live t) (sum_into K (complex_of v).arrows (value_in v) (size_of v.live t) t)
      (piece-vector v full t (size_of v.live t) h refl))
      (λ t q h d l. at_coordinate t q (0 + (first_coordinate v.live t + q))
      (record { is_live = h; place = l; number = refl }))

module _ (K : Ops) (F : IsField K) (v w : BlockComplex) (is : IsBlockComplex K v) (h : IsSplit v w) where
  w-is : IsBlockComplex K w
  w-is = split-block_complex K F v is w h

  over : IsSplit (filled v) (filled w)
  over = split-over v (filled v) w (filled w) (same-filled v) (same-filled w) is.rising h

  split-coboundary : (k : ℕ) (z : List ℕ) → coboundary K (complex_of w) k z ≡ coboundary K (complex_of v) k z
  split-coboundary k z =
      let at : BlockComplex → Type 0 = λ u. IsFull K u → IsSplit (filled v) u
      → coboundary K (complex_of u) k z ≡ coboundary K (complex_of (filled v)) k z in
      ap (λ C. coboundary K C k z) (sym (same-complex w (filled w) (same-filled w)))
      ∙ with-live at (filled w) (coordinate_cells 0 v.live) h.live
      (λ full split. coboundary-same K F (filled v) (filled-full K F v is) (filled w).matrix full split k z)
      (filled-full K F w w-is) over
      ∙ ap (λ C. coboundary K C k z) (same-complex v (filled v) (same-filled v))

  split-size : (k : ℕ) → coordinates (complex_of w) k ≡ coordinates (complex_of v) k
  split-size k = with-live (λ u. coordinates (complex_of u) k ≡ coordinates (complex_of v) k) w
      (coordinate_cells 0 v.live) h.live (coordinates-size k 0 v.live)

pub split_keeps_all : SplitKeepsAll
split_keeps_all K v w F is h = record {
  block_complex = split-block_complex K F v is w h;
  sizes = split-size K F v w is h;
  coboundaries = split-coboundary K F v w is h;
}
