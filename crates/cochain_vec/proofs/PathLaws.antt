-- Paths of two arrows: the coboundary of a coboundary, as a sum over the cells where its paths begin and those that
-- they pass.
use Rattle.std.proofs.Common.{◌≡◌, ℕ, zero, suc, List, [], ◌∷◌, ◌++◌, length, get_or, take, drop, filter, cond, eqb}
use Rattle.std.proofs.Common.{Bool, true, false, All, refl, sym, ap, ap₂, ◌∙◌, subst, arith}
use Rattle.std.specs.Prelude.{◌==◌}
use Rattle.std.specs.List.{flat_map}
use Rattle.std.proofs.lemmas.List.Elements.{All-tail, All-head, All-filter}
use Rattle.std.proofs.Math.Seq.{take-append_seam, drop-append_seam}
use Rattle.std.proofs.lemmas.Bool.{eqb-true}
use Rattle.dense_blocks.specs.Field.{Ops}
use Rattle.dense_blocks.specs.FieldLaws.{IsField}
use Rattle.dense_blocks.specs.Vectors.{IsVector, zeros, plus, multiple}
use Rattle.dense_blocks.specs.Matrices.{image_of}
use Rattle.dense_blocks.proofs.Shapes.{Vector, vector-size, from_vector}
use Rattle.dense_blocks.proofs.VectorLaws.{zeros-append, zeros-vector, plus-vector, plus-cross, zeros-plus, plus-zeros}
use Rattle.dense_blocks.proofs.VectorLaws.{zeros-plus-zeros, multiple-zero, multiple-plus, multiple-zeros}
use Rattle.cochain_vec.specs.declared.cell.Cell.{Cell}
use Rattle.cochain_vec.specs.Complexes.{Arrow, CellularComplex, cells_of, total_size, coordinates, value_at, sum_into}
use Rattle.cochain_vec.specs.Complexes.{coboundary}
use Rattle.cochain_vec.specs.Shapes.{RowsFit}
use Rattle.cochain_vec.specs.Cohomology.{IsCocycle, IsCoboundary}
use Rattle.cochain_vec.specs.CochainComplexes.{IsCochainComplex}
use Rattle.cochain_vec.proofs.CoboundaryLaws.{coboundary-cochain, coboundary-zeros, size_at, RowsInto, image_of-rows}
use Rattle.cochain_vec.proofs.CoboundaryLaws.{sum_into-vector, sum_into-plus, sum_into-multiple, piece, pieces}
use Rattle.cochain_vec.proofs.StalklessLaws.{sum_into-none, sum_into-same}

-- the sum of vectors of n coordinates, one for each number of a list
abbrev pub sum_over : Ops → ℕ → (ℕ → List ℕ) → List ℕ → List ℕ
sum_over K n f [] = zeros n
sum_over K n f (x ∷ xs) = plus K (f x) (sum_over K n f xs)

-- the arrows that come from the cell s
abbrev pub arrows_from : List Arrow → ℕ → List Arrow
arrows_from arrows s = filter (λ a. a.from == s) arrows

-- the sum into each cell t over the arrows from the cell s alone
abbrev pub after : Ops → List Arrow → (ℕ → ℕ) → (ℕ → List ℕ) → ℕ → ℕ → List ℕ
after K arrows size value s t = sum_into K (arrows_from arrows s) value (size t) t

-- what comes along an arrow, at the cell t of n coordinates
abbrev along : Ops → Arrow → (ℕ → List ℕ) → ℕ → ℕ → List ℕ
along K a value n t = cond (eqb a.to t) (image_of K a.matrix (value a.from)) (zeros n)

-- each arrow comes from a cell that the list has once
abbrev pub ComeFrom : List Arrow → List ℕ → Type 0
ComeFrom arrows cells = All (λ (a : Arrow). length (filter (λ s. a.from == s) cells) ≡ 1) arrows

module _ (K : Ops) (F : IsField K) where
  pub sum_over-vector : (n : ℕ) (f : ℕ → List ℕ) (xs : List ℕ) → ((x : ℕ) → Vector K n (f x))
      → Vector K n (sum_over K n f xs)
  sum_over-vector n f [] h = zeros-vector K F n
  sum_over-vector n f (x ∷ xs) h = plus-vector K F n (f x) (sum_over K n f xs) (h x) (sum_over-vector n f xs h)

  pub sum_over-same : (n : ℕ) (f g : ℕ → List ℕ) (xs : List ℕ) → ((x : ℕ) → f x ≡ g x)
      → sum_over K n f xs ≡ sum_over K n g xs
  sum_over-same n f g [] e = refl
  sum_over-same n f g (x ∷ xs) e = ap₂ (plus K) (e x) (sum_over-same n f g xs e)

  pub sum_over-zeros : (n : ℕ) (f : ℕ → List ℕ) (xs : List ℕ) → ((x : ℕ) → f x ≡ zeros n) → sum_over K n f xs ≡ zeros n
  sum_over-zeros n f [] e = refl
  sum_over-zeros n f (x ∷ xs) e = ap₂ (plus K) (e x) (sum_over-zeros n f xs e) ∙ zeros-plus-zeros K F n

  pub sum_over-plus : (n : ℕ) (f g : ℕ → List ℕ) (xs : List ℕ) → sum_over K n (λ x. plus K (f x) (g x)) xs
      ≡ plus K (sum_over K n f xs) (sum_over K n g xs)
  sum_over-plus n f g [] = sym (zeros-plus-zeros K F n)
  sum_over-plus n f g (x ∷ xs) =
      ap (plus K (plus K (f x) (g x))) (sum_over-plus n f g xs) ∙ plus-cross K F (f x) (g x) (sum_over K n f xs)
      (sum_over K n g xs)

  -- members whose vector is zero may be left out
  pub sum_over-multiple : (n k : ℕ) (f : ℕ → List ℕ) (xs : List ℕ) → sum_over K n (λ x. multiple K k (f x)) xs
      ≡ multiple K k (sum_over K n f xs)
  sum_over-multiple n k f [] = sym (multiple-zeros K F k n)
  sum_over-multiple n k f (x ∷ xs) = ap (plus K (multiple K k (f x))) (sum_over-multiple n k f xs)
      ∙ sym (multiple-plus K F k (f x) (sum_over K n f xs))

  pub sum_over-filter : (n : ℕ) (f : ℕ → List ℕ) (p : ℕ → Bool) (xs : List ℕ) → ((x : ℕ) → Vector K n (f x))
      → ((x : ℕ) → p x ≡ false → f x ≡ zeros n)
      → sum_over K n f xs ≡ sum_over K n f (filter p xs)
  sum_over-filter n f p [] h none = refl
  sum_over-filter n f p (x ∷ xs) h none = go (p x) refl (sum_over-filter n f p xs h none)
    where
      go : (b : Bool) → p x ≡ b → sum_over K n f xs ≡ sum_over K n f (filter p xs)
          → plus K (f x) (sum_over K n f xs) ≡ sum_over K n f (cond b (x ∷ filter p xs) (filter p xs))
      go true e rest = ap (plus K (f x)) rest
      go false e rest =
          ap₂ (plus K) (none x e) rest ∙ zeros-plus K F n (sum_over K n f (filter p xs))
          (sum_over-vector n f (filter p xs) h)

  -- a vector that stands at one number of a list
  at_none : (n s : ℕ) (w : List ℕ) (xs : List ℕ) → length (filter (λ x. s == x) xs) ≡ 0
      → sum_over K n (λ x. cond (eqb s x) w (zeros n)) xs ≡ zeros n
  at_none n s w [] e = refl
  at_none n s w (x ∷ xs) e = go (eqb s x) e (at_none n s w xs)
    where
      found : List ℕ
      found = filter (λ x. s == x) xs

      rest : List ℕ
      rest = sum_over K n (λ x. cond (eqb s x) w (zeros n)) xs

      go : (b : Bool) → length (cond b (x ∷ found) found) ≡ 0 → (length found ≡ 0 → rest ≡ zeros n)
          → plus K (cond b w (zeros n)) rest ≡ zeros n
      go true e r = absurd (omega arith)
      go false e r = ap (plus K (zeros n)) (r (omega arith)) ∙ zeros-plus-zeros K F n

  at_one : (n s : ℕ) (w : List ℕ) (xs : List ℕ) → Vector K n w → length (filter (λ x. s == x) xs) ≡ 1
      → sum_over K n (λ x. cond (eqb s x) w (zeros n)) xs ≡ w
  at_one n s w [] h e = absurd (omega arith)
  at_one n s w (x ∷ xs) h e = go (eqb s x) e (at_none n s w xs) (at_one n s w xs h)
    where
      found : List ℕ
      found = filter (λ x. s == x) xs

      rest : List ℕ
      rest = sum_over K n (λ x. cond (eqb s x) w (zeros n)) xs

      go : (b : Bool) → length (cond b (x ∷ found) found) ≡ 1 → (length found ≡ 0 → rest ≡ zeros n)
          → (length found ≡ 1 → rest ≡ w) → plus K (cond b w (zeros n)) rest ≡ w
      go true e none one = ap (plus K w) (none (omega arith)) ∙ plus-zeros K F n w h
      go false e none one = ap (plus K (zeros n)) (one (omega arith)) ∙ zeros-plus K F n w h

  along-vector : (a : Arrow) (value : ℕ → List ℕ) (n t : ℕ) → (a.to ≡ t → length a.matrix ≡ n)
      → Vector K n (along K a value n t)
  along-vector a value n t h = go (eqb a.to t) (eqb-true a.to t)
    where
      go : (b : Bool) → (b ≡ true → a.to ≡ t) → Vector K n (cond b (image_of K a.matrix (value a.from)) (zeros n))
      go true e = image_of-rows K F n a.matrix (value a.from) (h (e refl))
      go false e = zeros-vector K F n

  -- one arrow more
  sum_into-more : (a : Arrow) (others : List Arrow) (value : ℕ → List ℕ) (n t : ℕ) → RowsInto others n t
      → sum_into K (a ∷ others) value n t ≡ plus K (along K a value n t) (sum_into K others value n t)
  sum_into-more a others value n t h =
      elim (eqb a.to t) as (λ b. cond b (plus K (image_of K a.matrix (value a.from)) (sum_into K others value n t))
      (sum_into K others value n t)
      ≡ plus K (cond b (image_of K a.matrix (value a.from)) (zeros n)) (sum_into K others value n t)) [
        | true ↦ refl
        | false ↦ sym (zeros-plus K F n (sum_into K others value n t) (sum_into-vector K F others value n t h))
      ]

  pub rows_from : (arrows : List Arrow) (n t s : ℕ) → RowsInto arrows n t → RowsInto (arrows_from arrows s) n t
  unfolding RowsInto
  rows_from arrows n t s h = All-filter (λ (a : Arrow). a.from == s) (λ (a : Arrow). a.to ≡ t → length a.matrix ≡ n)
      arrows h

  -- the sum over the arrows into a cell, by the cells where they come from
  pub sum_into-by-source : (cells : List ℕ) (arrows : List Arrow) (value : ℕ → List ℕ) (n t : ℕ) → RowsInto arrows n t
      → ComeFrom arrows cells
      → sum_into K arrows value n t ≡ sum_over K n (λ s. sum_into K (arrows_from arrows s) value n t) cells
  unfolding RowsInto
  sum_into-by-source cells [] value n t h from = sym (sum_over-zeros n (λ s. zeros n) cells (λ s. refl))
  sum_into-by-source cells (a ∷ others) value n t h from =
      let Rows : Arrow → Type 0 = λ (b : Arrow). b.to ≡ t → length b.matrix ≡ n in
      let rest = All-tail Rows a others h in
      let w : List ℕ = along K a value n t in
      let shape : Vector K n w = along-vector a value n t (All-head Rows a others h) in
      sum_into-more a others value n t rest
      ∙ ap₂ (plus K)
      (sym (at_one n a.from w cells shape (All-head (λ (a : Arrow). length (filter (λ s. a.from == s) cells) ≡ 1) a
      others from)))
      (sum_into-by-source cells others value n t rest
      (All-tail (λ (a : Arrow). length (filter (λ s. a.from == s) cells) ≡ 1) a others from))
      ∙ sym (sum_over-plus n (λ s. cond (eqb a.from s) w (zeros n)) (λ s. sum_into K (arrows_from others s) value n t)
      cells)
      ∙ sum_over-same n (λ s. plus K (cond (eqb a.from s) w (zeros n)) (sum_into K (arrows_from others s) value n t))
      (λ s. sum_into K (arrows_from (a ∷ others) s) value n t) cells (λ s. here s (rows_from others n t s rest))
    where
      here : (s : ℕ) → RowsInto (arrows_from others s) n t
          → plus K (cond (eqb a.from s) (along K a value n t) (zeros n)) (sum_into K (arrows_from others s) value n t)
          ≡ sum_into K (arrows_from (a ∷ others) s) value n t
      here s r =
          elim (eqb a.from s) as (λ b. plus K (cond b (along K a value n t) (zeros n))
          (sum_into K (arrows_from others s) value n t)
          ≡ sum_into K (cond b (a ∷ arrows_from others s) (arrows_from others s)) value n t) [
            | true ↦ sym (sum_into-more a (arrows_from others s) value n t r)
            | false ↦ zeros-plus K F n (sum_into K (arrows_from others s) value n t)
                (sum_into-vector K F (arrows_from others s) value n t r)
          ]

  -- the sum into a cell is linear in the values
  sum_into-zeros : (arrows : List Arrow) (size : ℕ → ℕ) (n u : ℕ) → RowsInto arrows n u
      → sum_into K arrows (λ t. zeros (size t)) n u ≡ zeros n
  sum_into-zeros arrows size n u h =
      sum_into-multiple K F arrows 0 (λ t. zeros (size t)) (λ t. zeros (size t)) n u
      (λ t. sym (multiple-zero K F (size t) (zeros (size t)) (zeros-vector K F (size t))))
      ∙ multiple-zero K F n (sum_into K arrows (λ t. zeros (size t)) n u)
      (sum_into-vector K F arrows (λ t. zeros (size t)) n u h)

  sum_into-sum_over : (arrows : List Arrow) (size : ℕ → ℕ) (f : ℕ → ℕ → List ℕ) (n u : ℕ) (cells : List ℕ)
      → RowsInto arrows n u
      → ((s t : ℕ) → Vector K (size t) (f s t))
      → sum_into K arrows (λ t. sum_over K (size t) (λ s. f s t) cells) n u
      ≡ sum_over K n (λ s. sum_into K arrows (f s) n u) cells
  sum_into-sum_over arrows size f n u [] rows h = sum_into-zeros arrows size n u rows
  sum_into-sum_over arrows size f n u (s ∷ cells) rows h =
      let rest : ℕ → List ℕ = λ t. sum_over K (size t) (λ s. f s t) cells in
      sum_into-plus K F arrows size (f s) rest (λ t. plus K (f s t) (rest t)) n u (h s)
      (λ t. sum_over-vector (size t) (λ s. f s t) cells (λ s. h s t)) (λ t. refl)
      ∙ ap (plus K (sum_into K arrows (f s) n u)) (sum_into-sum_over arrows size f n u cells rows h)

  -- the sum over the paths of two arrows into u, by where they begin and what they pass
  pub sum_into-by-paths : (cells : List ℕ) (arrows : List Arrow) (size : ℕ → ℕ) (value : ℕ → List ℕ) (u : ℕ)
      → ((t : ℕ) → RowsInto arrows (size t) t) → ComeFrom arrows cells
      → sum_into K arrows (λ t. sum_into K arrows value (size t) t) (size u) u
      ≡ sum_over K (size u) (λ s.
      sum_over K (size u) (λ t. sum_into K (arrows_from arrows t) (after K arrows size value s) (size u) u) cells)
      cells
  sum_into-by-paths cells arrows size value u rows from =
      sum_into-same K arrows (λ t. sum_into K arrows value (size t) t)
      (λ t. sum_over K (size t) (λ s. after K arrows size value s t) cells) (size u) u
      (λ t. sum_into-by-source cells arrows value (size t) t (rows t) from)
      ∙ sum_into-sum_over arrows size (after K arrows size value) (size u) u cells (rows u)
      (λ s t. sum_into-vector K F (arrows_from arrows s) value (size t) t (rows_from arrows (size t) t s (rows t)))
      ∙ sum_over-same (size u) (λ s. sum_into K arrows (after K arrows size value s) (size u) u)
      (λ s. sum_over K (size u) (λ t. sum_into K (arrows_from arrows t) (after K arrows size value s) (size u) u) cells)
      cells
      (λ s. sum_into-by-source cells arrows (after K arrows size value s) (size u) u (rows u) from)

  -- the value of a coboundary at a cell
  pub value-joined : (arrows : List Arrow) (value : ℕ → List ℕ) (cs : List Cell) (s : ℕ)
      → All (λ (t : Cell). Vector K t.size (sum_into K arrows value t.size t.cell)) cs
      → value_at cs (flat_map (λ (t : Cell). sum_into K arrows value t.size t.cell) cs) s ≡ sum_into K arrows value
      (size_at cs s) s
  unfolding size_at
  value-joined arrows value [] s h = sym (sum_into-none K arrows value s)
  value-joined arrows value (c ∷ cs) s h =
      go (eqb c.cell s) (eqb-true c.cell s)
      (vector-size K c.size (part c) (All-head (λ (t : Cell). Vector K t.size (part t)) c cs h))
      (value-joined arrows value cs s (All-tail (λ (t : Cell). Vector K t.size (part t)) c cs h))
    where
      part : Cell → List ℕ
      part t = sum_into K arrows value t.size t.cell

      go : (b : Bool) → (b ≡ true → c.cell ≡ s) → length (sum_into K arrows value c.size c.cell) ≡ c.size
          → value_at cs (flat_map (λ (t : Cell). sum_into K arrows value t.size t.cell) cs) s ≡ sum_into K arrows value
          (size_at cs s) s
          → cond b (take c.size (sum_into K arrows value c.size c.cell
          ++ flat_map (λ (t : Cell). sum_into K arrows value t.size t.cell) cs))
          (value_at cs (drop c.size (sum_into K arrows value c.size c.cell
          ++ flat_map (λ (t : Cell). sum_into K arrows value t.size t.cell) cs)) s)
          ≡ sum_into K arrows value (cond b c.size (size_at cs s)) s
      go true e l r =
          let here : List ℕ = sum_into K arrows value c.size c.cell in
          let rest : List ℕ = flat_map (λ (t : Cell). sum_into K arrows value t.size t.cell) cs in
          ap (λ n. take n (here ++ rest)) (sym l) ∙ take-append_seam here rest
          ∙ ap (sum_into K arrows value c.size) (e refl)
      go false e l r =
          let here : List ℕ = sum_into K arrows value c.size c.cell in
          let rest : List ℕ = flat_map (λ (t : Cell). sum_into K arrows value t.size t.cell) cs in
          ap (λ n. value_at cs (drop n (here ++ rest)) s) (sym l)
          ∙ ap (λ v. value_at cs v s) (drop-append_seam here rest) ∙ r

  -- the same values at the cells where the arrows into a cell come from
  sum_into-same_into : (arrows : List Arrow) (x y : ℕ → List ℕ) (n t : ℕ)
      → All (λ (a : Arrow). a.to ≡ t → x a.from ≡ y a.from) arrows
      → sum_into K arrows x n t ≡ sum_into K arrows y n t
  sum_into-same_into [] x y n t h = refl
  sum_into-same_into (a ∷ others) x y n t h =
      go (eqb a.to t) (eqb-true a.to t)
      (sum_into-same_into others x y n t (All-tail (λ (a : Arrow). a.to ≡ t → x a.from ≡ y a.from) a others h))
    where
      go : (b : Bool) → (b ≡ true → a.to ≡ t) → sum_into K others x n t ≡ sum_into K others y n t
          → cond b (plus K (image_of K a.matrix (x a.from)) (sum_into K others x n t)) (sum_into K others x n t)
          ≡ cond b (plus K (image_of K a.matrix (y a.from)) (sum_into K others y n t)) (sum_into K others y n t)
      go true e r = ap₂ (plus K)
          (ap (image_of K a.matrix) (All-head (λ (a : Arrow). a.to ≡ t → x a.from ≡ y a.from) a others h (e refl))) r
      go false e r = r

-- a count of coordinates for each number that is right at the cells of degree k + 2 and at those below them, and that
-- all matrices fit
pub record AreSizes (C : CellularComplex) (k : ℕ) (size : ℕ → ℕ) : Type 0 where
  pub rows : (t : ℕ) → RowsInto C.arrows (size t) t
  pub above : All (λ (u : Cell). u.size ≡ size u.cell) (cells_of C (suc (suc k)))
  pub between : All (λ (u : Cell). All (λ (a : Arrow). a.to ≡ u.cell → size_at (cells_of C (suc k)) a.from
      ≡ size a.from) C.arrows) (cells_of C (suc (suc k)))

pub joined-zeros : (f : Cell → List ℕ) (cs : List Cell) → All (λ (u : Cell). f u ≡ zeros u.size) cs
    → flat_map f cs ≡ zeros (total_size cs)
joined-zeros f [] h = refl
joined-zeros f (c ∷ cs) h =
    ap₂ ◌++◌ (All-head (λ (u : Cell). f u ≡ zeros u.size) c cs h)
    (joined-zeros f cs (All-tail (λ (u : Cell). f u ≡ zeros u.size) c cs h))
    ∙ sym (zeros-append c.size (total_size cs))

-- where the paths of two arrows cancel, the coboundary of a coboundary is zero
module _ (K : Ops) (F : IsField K) (C : CellularComplex) (fits : RowsFit C) (k : ℕ) (size : ℕ → ℕ)
    (sizes : AreSizes C k size) (cells : List ℕ) (from : ComeFrom C.arrows cells) where
  pub coboundary-coboundary : (z : List ℕ)
      → ((s u : ℕ) → sum_over K (size u)
      (λ t. sum_into K (arrows_from C.arrows t) (after K C.arrows size (value_at (cells_of C k) z) s) (size u) u)
      cells ≡ zeros (size u))
      → coboundary K C (suc k) (coboundary K C k z) ≡ zeros (coordinates C (suc (suc k)))
  unfolding piece
  coboundary-coboundary z cancel =
      joined-zeros (λ u. sum_into K C.arrows (value_at (cells_of C (suc k)) (coboundary K C k z)) u.size u.cell)
      (cells_of C (suc (suc k)))
      (λ i d l. at_cell (get_or (cells_of C (suc (suc k))) i d) (sizes.above i d l) (sizes.between i d l))
    where
      value : ℕ → List ℕ
      value = value_at (cells_of C k) z

      at_cell : (u : Cell) → u.size ≡ size u.cell
          → All (λ (a : Arrow). a.to ≡ u.cell → size_at (cells_of C (suc k)) a.from ≡ size a.from) C.arrows
          → sum_into K C.arrows (value_at (cells_of C (suc k)) (coboundary K C k z)) u.size u.cell ≡ zeros u.size
      at_cell u same below =
          sum_into-same_into K F C.arrows (value_at (cells_of C (suc k)) (coboundary K C k z))
          (λ t. sum_into K C.arrows value (size t) t) u.size u.cell
          (λ i d l e. let a = get_or C.arrows i d in
          value-joined K F C.arrows value (cells_of C (suc k)) a.from (pieces K F C fits k z)
          ∙ ap (λ n. sum_into K C.arrows value n a.from) (below i d l e))
          ∙ ap (λ n. sum_into K C.arrows (λ t. sum_into K C.arrows value (size t) t) n u.cell) same
          ∙ sum_into-by-paths K F cells C.arrows size value u.cell sizes.rows from
          ∙ sum_over-zeros K F (size u.cell)
          (λ s. sum_over K (size u.cell) (λ t. sum_into K (arrows_from C.arrows t) (after K C.arrows size value s)
          (size u.cell) u.cell) cells) cells
          (λ s. cancel s u.cell)
          ∙ ap zeros (sym same)

-- in a cochain complex a coboundary is a cocycle
pub coboundary-cocycle : (K : Ops) (F : IsField K) (C : CellularComplex) → RowsFit C → IsCochainComplex K C
    → (k : ℕ) (z : List ℕ) → IsCoboundary K C k z → IsCocycle K C k z
coboundary-cocycle K F C fits closed zero z e = record {
  cochain = subst (IsVector K (coordinates C 0)) (sym e) (from_vector K (coordinates C 0) (zeros (coordinates C 0))
      (zeros-vector K F (coordinates C 0)));
  closed = ap (coboundary K C 0) e ∙ coboundary-zeros K F C fits 0;
}
coboundary-cocycle K F C fits closed (suc k) z of = record {
  cochain = subst (IsVector K (coordinates C (suc k))) (sym of.2)
      (from_vector K (coordinates C (suc k)) (coboundary K C k of.0) (coboundary-cochain K F C fits k of.0));
  closed = ap (coboundary K C (suc k)) of.2 ∙ closed k of.0 of.1;
}
