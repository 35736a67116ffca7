-- A cell without coordinates changes neither cochains nor coboundaries, and so no basis.
use Rattle.std.proofs.Common.{◌≡◌, ℕ, zero, suc, ◌+◌, ◌<◌, List, [], ◌∷◌, ◌++◌, get_or, take, drop, filter, cond, eqb}
use Rattle.std.proofs.Common.{Bool, true, false, All, refl, sym, ap, ap₂, ◌∙◌, subst, arith}
use Rattle.std.specs.Prelude.{◌==◌, not}
use Rattle.std.specs.List.{flat_map}
use Rattle.std.proofs.lemmas.List.Elements.{All-tail, All-head, All-filter}
use Rattle.std.proofs.lemmas.Bool.{eqb-true}
use Rattle.dense_blocks.specs.Field.{Ops}
use Rattle.dense_blocks.specs.Vectors.{IsVector, zeros, plus, combination}
use Rattle.dense_blocks.specs.Matrices.{image_of}
use Rattle.dense_blocks.proofs.VectorLaws.{plus-nil}
use Rattle.cochain_vec.specs.declared.cell.Cell.{Cell}
use Rattle.cochain_vec.specs.Complexes.{Arrow, CellularComplex, cells_of, total_size, coordinates, value_at, sum_into}
use Rattle.cochain_vec.specs.Complexes.{coboundary}
use Rattle.cochain_vec.specs.Cohomology.{IsCocycle, IsCoboundary, IsRepresented, IsBasis}
use Rattle.cochain_vec.specs.Stalkless.{HasRisingCells, without_empty, EmptyCellsChangeNothing}

-- what the lists of cells do
abbrev pub has_coordinates : Cell → Bool
has_coordinates c = not (c.size == 0)

filter-swap : (p q : Cell → Bool) (cs : List Cell) → filter p (filter q cs) ≡ filter q (filter p cs)
filter-swap p q [] = refl
filter-swap p q (c ∷ cs) = go (p c) (q c) refl refl (filter-swap p q cs)
  where
    go : (x y : Bool) → p c ≡ x → q c ≡ y → filter p (filter q cs) ≡ filter q (filter p cs)
        → filter p (cond (q c) (c ∷ filter q cs) (filter q cs)) ≡ filter q (cond (p c) (c ∷ filter p cs) (filter p cs))
    go true true e f r = rw (f, e, f) (ap (λ t. c ∷ t) r)
    go true false e f r = rw (f, e, f) r
    go false true e f r = rw (f, e) r
    go false false e f r = rw (f, e) r

pub rising-filter : (p : Cell → Bool) (cs : List Cell) → HasRisingCells cs → HasRisingCells (filter p cs)
rising-filter p [] h = tt
rising-filter p (c ∷ cs) h =
    elim (p c) as (λ b. HasRisingCells (cond b (c ∷ filter p cs) (filter p cs))) [
      | true ↦ (All-filter p (λ (d : Cell). c.cell < d.cell) cs h.0, rising-filter p cs h.1)
      | false ↦ rising-filter p cs h.1
    ]

not_false : (b : Bool) → not b ≡ false → b ≡ true
not_false true e = refl
not_false false e = sym e

not_zero : (n : ℕ) → not (n == 0) ≡ false → n ≡ 0
not_zero n e = eqb-true n 0 (not_false (n == 0) e)

total_size-filter : (cs : List Cell) → total_size (filter has_coordinates cs) ≡ total_size cs
total_size-filter [] = refl
total_size-filter (c ∷ cs) = go (has_coordinates c) refl (total_size-filter cs)
  where
    go : (b : Bool) → has_coordinates c ≡ b → total_size (filter has_coordinates cs) ≡ total_size cs
        → total_size (cond b (c ∷ filter has_coordinates cs) (filter has_coordinates cs)) ≡ c.size + total_size cs
    go true e r = ap (λ t. c.size + t) r
    go false e r = let none : c.size ≡ 0 = not_zero c.size e in omega arith

-- a cell with a smaller number than all of these is none of them
value-absent : (cs : List Cell) (z : List ℕ) (s : ℕ) → All (λ (d : Cell). s < d.cell) cs → value_at cs z s ≡ []
value-absent [] z s h = refl
value-absent (c ∷ cs) z s h =
    go (eqb c.cell s) refl (value-absent cs (drop c.size z) s (All-tail (λ (d : Cell). s < d.cell) c cs h))
  where
    go : (b : Bool) → eqb c.cell s ≡ b → value_at cs (drop c.size z) s ≡ []
        → cond b (take c.size z) (value_at cs (drop c.size z) s) ≡ []
    go true e r = let same : c.cell ≡ s = eqb-true c.cell s e in let less = All-head (λ (d : Cell). s < d.cell) c cs h
        in absurd (omega arith)
    go false e r = r

value-filter : (cs : List Cell) (z : List ℕ) (s : ℕ) → HasRisingCells cs → value_at (filter has_coordinates cs) z s
    ≡ value_at cs z s
value-filter [] z s h = refl
value-filter (c ∷ cs) z s h = go (has_coordinates c) (eqb c.cell s) refl refl (λ y. value-filter cs y s h.1)
  where
    go : (b e : Bool) → has_coordinates c ≡ b → eqb c.cell s ≡ e
        → ((y : List ℕ) → value_at (filter has_coordinates cs) y s ≡ value_at cs y s)
        → value_at (cond b (c ∷ filter has_coordinates cs) (filter has_coordinates cs)) z s ≡ cond e (take c.size z)
        (value_at cs (drop c.size z) s)
    go true true f g r = rw g refl
    go true false f g r = rw g (r (drop c.size z))
    go false true f g r =
        let none : c.size ≡ 0 = not_zero c.size f in
        let same : c.cell ≡ s = eqb-true c.cell s g in
        r z ∙ value-absent cs z s (subst (λ k. All (λ (d : Cell). k < d.cell) cs) same h.0)
        ∙ ap (λ n. take n z) (sym none)
    go false false f g r = let none : c.size ≡ 0 = not_zero c.size f in r z
        ∙ ap (λ n. value_at cs (drop n z) s) (sym none)

module _ (K : Ops) where
  -- the same values give the same sums
  pub sum_into-same : (arrows : List Arrow) (x y : ℕ → List ℕ) (n t : ℕ) → ((s : ℕ) → x s ≡ y s)
      → sum_into K arrows x n t ≡ sum_into K arrows y n t
  sum_into-same [] x y n t e = refl
  sum_into-same (a ∷ others) x y n t e =
      let rest = sum_into-same others x y n t e in
      elim (eqb a.to t) as (λ b. cond b (plus K (image_of K a.matrix (x a.from)) (sum_into K others x n t))
      (sum_into K others x n t)
      ≡ cond b (plus K (image_of K a.matrix (y a.from)) (sum_into K others y n t)) (sum_into K others y n t)) [
        | true ↦ ap₂ (plus K) (ap (image_of K a.matrix) (e a.from)) rest
        | false ↦ rest
      ]

  -- a sum into a cell without coordinates has none
  pub sum_into-none : (arrows : List Arrow) (x : ℕ → List ℕ) (t : ℕ) → sum_into K arrows x 0 t ≡ []
  sum_into-none [] x t = refl
  sum_into-none (a ∷ others) x t =
      let rest = sum_into-none others x t in
      elim (eqb a.to t) as (λ b. cond b (plus K (image_of K a.matrix (x a.from)) (sum_into K others x 0 t))
      (sum_into K others x 0 t) ≡ []) [
        | true ↦ ap (plus K (image_of K a.matrix (x a.from))) rest ∙ plus-nil K (image_of K a.matrix (x a.from))
        | false ↦ rest
      ]

  joined-filter : (x y : Cell → List ℕ) (ts : List Cell) → ((t : Cell) → x t ≡ y t)
      → ((t : Cell) → t.size ≡ 0 → y t ≡ [])
      → flat_map x (filter has_coordinates ts) ≡ flat_map y ts
  joined-filter x y [] e none = refl
  joined-filter x y (t ∷ ts) e none = go (has_coordinates t) refl (joined-filter x y ts e none)
    where
      go : (b : Bool) → has_coordinates t ≡ b → flat_map x (filter has_coordinates ts) ≡ flat_map y ts
          → flat_map x (cond b (t ∷ filter has_coordinates ts) (filter has_coordinates ts)) ≡ y t ++ flat_map y ts
      go true f r = ap₂ ◌++◌ (e t) r
      go false f r = r ∙ ap (λ u. u ++ flat_map y ts) (sym (none t (not_zero t.size f)))

  module _ (F : CellularComplex) (rising : HasRisingCells F.cells) where
    cells-without_empty : (k : ℕ) → cells_of (without_empty F) k ≡ filter has_coordinates (cells_of F k)
    cells-without_empty k = filter-swap (λ c. c.degree == k) has_coordinates F.cells

    pub coordinates-without_empty : (k : ℕ) → coordinates (without_empty F) k ≡ coordinates F k
    coordinates-without_empty k = ap total_size (cells-without_empty k) ∙ total_size-filter (cells_of F k)

    pub coboundary-without_empty : (k : ℕ) (z : List ℕ) → coboundary K (without_empty F) k z ≡ coboundary K F k z
    coboundary-without_empty k z =
        let here : (cs : List Cell) → Cell → List ℕ = λ cs t. sum_into K F.arrows (value_at cs z) t.size t.cell in
        ap (λ cs. flat_map (here cs) (cells_of (without_empty F) (suc k))) (cells-without_empty k)
        ∙ ap (flat_map (here (filter has_coordinates (cells_of F k)))) (cells-without_empty (suc k))
        ∙ joined-filter (here (filter has_coordinates (cells_of F k))) (here (cells_of F k)) (cells_of F (suc k))
        (λ t. sum_into-same F.arrows (value_at (filter has_coordinates (cells_of F k)) z) (value_at (cells_of F k) z)
        t.size t.cell
        (λ s. value-filter (cells_of F k) z s (rising-filter (λ c. c.degree == k) F.cells rising)))
        (λ t e. ap (λ n. sum_into K F.arrows (value_at (cells_of F k) z) n t.cell) e
        ∙ sum_into-none F.arrows (value_at (cells_of F k) z) t.cell)

-- two complexes with the same coordinates and the same coboundary have the same bases
pub record Agree (K : Ops) (F G : CellularComplex) : Type 0 where
  pub sizes : (k : ℕ) → coordinates F k ≡ coordinates G k
  pub maps : (k : ℕ) (z : List ℕ) → coboundary K F k z ≡ coboundary K G k z

module _ (K : Ops) (F G : CellularComplex) (same : Agree K F G) where
  cocycle_over : (k : ℕ) (z : List ℕ) → IsCocycle K F k z → IsCocycle K G k z
  cocycle_over k z c = record {
    cochain = subst (λ n. IsVector K n z) (same.sizes k) c.cochain;
    closed = sym (same.maps k z) ∙ c.closed ∙ ap zeros (same.sizes (suc k));
  }

  coboundary_over : (k : ℕ) (z : List ℕ) → IsCoboundary K F k z → IsCoboundary K G k z
  coboundary_over zero z e = e ∙ ap zeros (same.sizes 0)
  coboundary_over (suc k) z c = (c.0, subst (λ n. IsVector K n c.0) (same.sizes k) c.1, c.2 ∙ same.maps k c.0)

  represented_over : (k : ℕ) (B : List (List ℕ)) (z : List ℕ) → IsRepresented K F k B z → IsRepresented K G k B z
  represented_over k B z r = record {
    coefficients = r.coefficients;
    one_each = r.one_each;
    rest = r.rest;
    is_coboundary = coboundary_over k r.rest r.is_coboundary;
    sum = r.sum ∙ ap (λ n. plus K (combination K n r.coefficients B) r.rest) (same.sizes k);
  }

pub agree_back : (K : Ops) (F G : CellularComplex) → Agree K F G → Agree K G F
agree_back K F G same = record { sizes = λ k. sym (same.sizes k); maps = λ k z. sym (same.maps k z) }

pub basis_over : (K : Ops) (F G : CellularComplex) → Agree K F G → (k : ℕ) (B : List (List ℕ)) → IsBasis K F k B
    → IsBasis K G k B
basis_over K F G same k B b = record {
  cocycles = λ i d l. cocycle_over K F G same k (get_or B i d) (b.cocycles i d l);
  spans = λ z c. represented_over K F G same k B z (b.spans z (cocycle_over K G F (agree_back K F G same) k z c));
  independent = λ c h e. b.independent c h
      (subst (IsCoboundary K F k) (ap (λ n. combination K n c B) (sym (same.sizes k)))
      (coboundary_over K G F (agree_back K F G same) k (combination K (coordinates G k) c B) e));
}

pub empty_cells_change_nothing : EmptyCellsChangeNothing
empty_cells_change_nothing K F rising k B =
    let same : Agree K F (without_empty F) = record {
      sizes = λ j. sym (coordinates-without_empty K F rising j);
      maps = λ j z. sym (coboundary-without_empty K F rising j z);
    } in (
      basis_over K F (without_empty F) same k B,
      basis_over K (without_empty F) F (agree_back K F (without_empty F) same)
          k B,
    )
