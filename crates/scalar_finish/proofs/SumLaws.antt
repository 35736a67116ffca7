-- Sums over the live cells and their coordinates: a value of a cochain, taken cell by cell or coordinate by coordinate.
use Rattle.std.proofs.Common.{◌≡◌, ℕ, zero, suc, ◌<◌, ◌+◌, Bool, true, false, cond, refl, sym, ap, ap₂}
use Rattle.std.proofs.Common.{◌∙◌, subst, arith, List, [], ◌∷◌, ◌++◌, length, get_or, take, drop, eqb}
use Rattle.std.proofs.Math.Seq.{take-nil, drop-nil}
use Rattle.std.specs.List.{flat_map}
use Rattle.std.proofs.lemmas.Bool.{eq-eqb, ne_eqb, eqb-true}
use Rattle.dense_blocks.specs.Field.{Ops}
use Rattle.dense_blocks.specs.FieldLaws.{IsField}
use Rattle.dense_blocks.specs.Vectors.{dot}
use Rattle.dense_blocks.proofs.Shapes.{Vector}
use Rattle.dense_blocks.proofs.ScalarLaws.{zero_below, zero_add}
use Rattle.dense_blocks.proofs.VectorLaws.{dot-nil}
use Rattle.dense_blocks.proofs.Reductions.{zeros-at}
use Rattle.dense_blocks.proofs.Leading.{plus-at}
use Rattle.cochain_vec.specs.declared.cell.Cell.{Cell}
use Rattle.cochain_vec.specs.Complexes.{total_size, value_at}
use Rattle.cochain_vec.proofs.PathLaws.{sum_over, sum_over-vector}
use Rattle.rising_lists.specs.Rising.{IsRising, has}
use Rattle.rising_lists.proofs.Keyed.{rising_tail, head-absent}
use Rattle.block_complexes.specs.BlockComplexes.{cells, degree_of, size_of}
use Rattle.block_complexes.specs.Cochains.{cell_of, of_degree}
use Rattle.block_complexes.proofs.DegreeLaws.{value-absent}
use Rattle.block_complexes.proofs.Sums.{Each, has-head, has-tail}
use Rattle.scalar_finish.specs.Splits.{unit_cells, coordinate_cells, first_coordinate}

-- a cell of a rising list is not one of those after it
apart : (l : ℕ × ℕ × ℕ) (ls : List (ℕ × ℕ × ℕ)) (s : ℕ) → IsRising (cells (l ∷ ls)) → has s (cells ls) ≡ true
    → eqb l.0 s ≡ false
apart l ls s r h = ne_eqb l.0 s (λ e.
    let f : true ≡ false = sym h ∙ ap (λ k. has k (cells ls)) (sym e) ∙ head-absent l.0 (cells ls) r in cc)

-- ---- sums of scalars

abbrev pub total : Ops → (ℕ → ℕ) → List ℕ → ℕ
total K h [] = 0
total K h (s ∷ ss) = K.add (h s) (total K h ss)

total-same : (K : Ops) (g h : ℕ → ℕ) (ss : List ℕ) → Each (λ s. g s ≡ h s) ss → total K g ss ≡ total K h ss
total-same K g h [] e = refl
total-same K g h (s ∷ ss) e =
    ap₂ K.add (e s (has-head s ss)) (total-same K g h ss (λ c l. e c (has-tail c s ss l)))

-- a coordinate of a sum of vectors
pub sum_over-at : (K : Ops) (F : IsField K) (n q : ℕ) (f : ℕ → List ℕ) (h : ℕ → ℕ) (ss : List ℕ) → q < n
    → ((s : ℕ) → Vector K n (f s)) → ((s : ℕ) → get_or (f s) q 0 ≡ h s) → get_or (sum_over K n f ss) q 0 ≡ total K h ss
sum_over-at K F n q f h [] l shape e = zeros-at K F n q
sum_over-at K F n q f h (s ∷ ss) l shape e =
    plus-at K n q (f s) (sum_over K n f ss) (shape s) (sum_over-vector K F n f ss shape) l
    ∙ ap₂ K.add (e s) (sum_over-at K F n q f h ss l shape e)

-- what g makes of the parts of z, one for each cell of degree k and none for the others
abbrev pub values : Ops → (ℕ → List ℕ → ℕ) → ℕ → List (ℕ × ℕ × ℕ) → List ℕ → ℕ
values K g k [] z = 0
values K g k (l ∷ ls) z =
    cond (eqb l.1 k) (K.add (g l.0 (take l.2 z)) (values K g k ls (drop l.2 z)))
    (K.add (g l.0 []) (values K g k ls z))

pub total-values : (K : Ops) (g : ℕ → List ℕ → ℕ) (k : ℕ) (live : List (ℕ × ℕ × ℕ)) (z : List ℕ)
    → IsRising (cells live)
    → total K (λ s. g s (value_at (of_degree k live) z s)) (cells live) ≡ values K g k live z
total-values K g k [] z r = refl
total-values K g k (l ∷ ls) z r =
    go (eqb l.1 k) (λ y. total-values K g k ls y (rising_tail l.0 (cells ls) r))
  where
    R : List Cell
    R = of_degree k ls

    go : (b : Bool) → ((y : List ℕ) → total K (λ s. g s (value_at R y s)) (cells ls) ≡ values K g k ls y)
        → K.add (g l.0 (value_at (cond b (cell_of l ∷ R) R) z l.0))
        (total K (λ s. g s (value_at (cond b (cell_of l ∷ R) R) z s)) (cells ls))
        ≡ cond b (K.add (g l.0 (take l.2 z)) (values K g k ls (drop l.2 z)))
        (K.add (g l.0 []) (values K g k ls z))
    go true later =
        ap₂ K.add
        (ap (λ b. g l.0 (cond b (take l.2 z) (value_at R (drop l.2 z) l.0))) (eq-eqb l.0 l.0 refl))
        (total-same K (λ s. g s (value_at (cell_of l ∷ R) z s)) (λ s. g s (value_at R (drop l.2 z) s)) (cells ls)
        (λ s h. ap (λ b. g s (cond b (take l.2 z) (value_at R (drop l.2 z) s))) (apart l ls s r h))
        ∙ later (drop l.2 z))
    go false later = ap₂ K.add (ap (g l.0) (value-absent k ls z l.0 (head-absent l.0 (cells ls) r))) (later z)

module _ (K : Ops) (F : IsField K) (g : ℕ → List ℕ → ℕ) (k : ℕ) where
  -- sums are scalars
  module _ (below : (s : ℕ) (x : List ℕ) → g s x < K.order) where
    values-below : (ls : List (ℕ × ℕ × ℕ)) (z : List ℕ) → values K g k ls z < K.order
    values-below [] z = zero_below K F
    values-below (l ∷ ls) z = go (eqb l.1 k)
      where
        go : (b : Bool) → cond b (K.add (g l.0 (take l.2 z)) (values K g k ls (drop l.2 z)))
            (K.add (g l.0 []) (values K g k ls z)) < K.order
        go true = F.add_below (g l.0 (take l.2 z)) (values K g k ls (drop l.2 z))
        go false = F.add_below (g l.0 []) (values K g k ls z)

    -- the coordinates of a cell of degree k give the product of a row with the cell's part
    module _ (d : ℕ) (rest : List (ℕ × ℕ × ℕ)) where
      units-values : eqb d k ≡ true → (r : List ℕ) (n : ℕ) (z : List ℕ)
          → ((p : ℕ) (x : List ℕ) → p < length r → g (n + p) x ≡ dot K (get_or r p 0 ∷ []) x)
          → values K g k (unit_cells n d (length r) ++ rest) z
          ≡ K.add (dot K r (take (length r) z)) (values K g k rest (drop (length r) z))
      units-values e [] n z h = sym (zero_add K F (values K g k rest z) (values-below rest z))
      units-values e (a ∷ r) n z h =
          ap (λ b. cond b (K.add (g n (take 1 z)) (values K g k more (drop 1 z)))
          (K.add (g n []) (values K g k more z))) e
          ∙ ap₂ K.add (first (take 1 z)) (units-values e r (n + 1) (drop 1 z) later)
          ∙ joined z
        where
          m : ℕ
          m = length r

          more : List (ℕ × ℕ × ℕ)
          more = unit_cells (n + 1) d (length r) ++ rest

          first : (x : List ℕ) → g n x ≡ dot K (a ∷ []) x
          first x = let f : n ≡ n + 0 = omega arith in ap (λ j. g j x) f ∙ h 0 x (omega arith)

          later : (p : ℕ) (x : List ℕ) → p < length r → g (n + 1 + p) x ≡ dot K (get_or r p 0 ∷ []) x
          later p x l =
              let f : n + 1 + p ≡ n + suc p = omega arith in ap (λ j. g j x) f ∙ h (suc p) x (omega arith)

          joined : (z : List ℕ)
              → K.add (dot K (a ∷ []) (take 1 z))
              (K.add (dot K r (take (length r) (drop 1 z))) (values K g k rest (drop (length r) (drop 1 z))))
              ≡ K.add (dot K (a ∷ r) (take (suc (length r)) z)) (values K g k rest (drop (suc (length r)) z))
          joined [] =
              let X : ℕ = values K g k rest [] in
              ap₂ (λ u v. K.add 0 (K.add (dot K r u) (values K g k rest v))) (take-nil {A = ℕ} (length r)) (drop-nil {A = ℕ} (length r))
              ∙ ap (λ t. K.add 0 (K.add t X)) (dot-nil K r)
              ∙ zero_add K F (K.add 0 X) (F.add_below 0 X)
          joined (y ∷ z) =
              let t : ℕ = dot K r (take (length r) z) in
              let X : ℕ = values K g k rest (drop (length r) z) in
              ap (λ u. K.add u (K.add t X)) (F.add_zero (K.mul a y) (F.mul_below a y))
              ∙ sym (F.add_assoc (K.mul a y) t X)

      -- and those of another nothing
      units-none : eqb d k ≡ false → (r : List ℕ) (n : ℕ) (z : List ℕ)
          → ((p : ℕ) (x : List ℕ) → p < length r → g (n + p) x ≡ dot K (get_or r p 0 ∷ []) x)
          → values K g k (unit_cells n d (length r) ++ rest) z ≡ K.add (dot K r []) (values K g k rest z)
      units-none e [] n z h = sym (zero_add K F (values K g k rest z) (values-below rest z))
      units-none e (a ∷ r) n z h =
          let X : ℕ = values K g k rest z in
          let f : n ≡ n + 0 = omega arith in
          ap (λ b. cond b (K.add (g n (take 1 z)) (values K g k more (drop 1 z)))
          (K.add (g n []) (values K g k more z))) e
          ∙ ap₂ K.add (ap (λ j. g j []) f ∙ h 0 [] (omega arith)) (units-none e r (n + 1) z later)
          ∙ ap (λ t. K.add 0 (K.add t X)) (dot-nil K r)
          ∙ zero_add K F (K.add 0 X) (F.add_below 0 X)
        where
          more : List (ℕ × ℕ × ℕ)
          more = unit_cells (n + 1) d (length r) ++ rest

          later : (p : ℕ) (x : List ℕ) → p < length r → g (n + 1 + p) x ≡ dot K (get_or r p 0 ∷ []) x
          later p x l =
              let f : n + 1 + p ≡ n + suc p = omega arith in ap (λ j. g j x) f ∙ h (suc p) x (omega arith)

    -- the product of each row with the part of its cell, taken coordinate by coordinate
    pub values-coordinates : (e : ℕ → List ℕ) (n : ℕ) (live : List (ℕ × ℕ × ℕ)) (z : List ℕ) → IsRising (cells live)
        → ((s : ℕ) → has s (cells live) ≡ true → length (e s) ≡ size_of live s)
        → ((s p : ℕ) (x : List ℕ) → has s (cells live) ≡ true → p < size_of live s
        → g (n + (first_coordinate live s + p)) x ≡ dot K (get_or (e s) p 0 ∷ []) x)
        → values K g k (coordinate_cells n live) z ≡ values K (λ s x. dot K (e s) x) k live z
    values-coordinates e n [] z r sized h = refl
    values-coordinates e n (l ∷ ls) z r sized h =
        go (eqb l.1 k) refl
        (λ y. values-coordinates e (n + l.2) ls y (rising_tail l.0 (cells ls) r) sized-later later)
      where
        rest : List (ℕ × ℕ × ℕ)
        rest = coordinate_cells (n + l.2) ls

        gv : ℕ → List ℕ → ℕ
        gv s x = dot K (e s) x

        own : eqb l.0 l.0 ≡ true
        own = eq-eqb l.0 l.0 refl

        size : length (e l.0) ≡ l.2
        size = sized l.0 (has-head l.0 (cells ls)) ∙ ap (λ b. cond b l.2 (size_of ls l.0)) own

        at_first : (p : ℕ) (x : List ℕ) → p < length (e l.0) → g (n + p) x ≡ dot K (get_or (e l.0) p 0 ∷ []) x
        at_first p x q =
            let f : n + p ≡ n + (0 + p) = omega arith in
            ap (λ j. g j x) (f ∙ ap (λ b. n + (cond b 0 (l.2 + first_coordinate ls l.0) + p)) (sym own))
            ∙ h l.0 p x (has-head l.0 (cells ls))
            (subst (λ m. p < m) (sized l.0 (has-head l.0 (cells ls))) q)

        sized-later : (s : ℕ) → has s (cells ls) ≡ true → length (e s) ≡ size_of ls s
        sized-later s m = sized s (has-tail s l.0 (cells ls) m)
            ∙ ap (λ b. cond b l.2 (size_of ls s)) (apart l ls s r m)

        later : (s p : ℕ) (x : List ℕ) → has s (cells ls) ≡ true → p < size_of ls s
            → g (n + l.2 + (first_coordinate ls s + p)) x ≡ dot K (get_or (e s) p 0 ∷ []) x
        later s p x m q =
            let f : n + l.2 + (first_coordinate ls s + p) ≡ n + (l.2 + first_coordinate ls s + p) = omega arith in
            let c = apart l ls s r m in
            ap (λ j. g j x) (f ∙ ap (λ b. n + (cond b 0 (l.2 + first_coordinate ls s) + p)) (sym c))
            ∙ h s p x (has-tail s l.0 (cells ls) m) (subst (λ b. p < cond b l.2 (size_of ls s)) (sym c) q)

        go : (b : Bool) → eqb l.1 k ≡ b → ((y : List ℕ) → values K g k rest y ≡ values K gv k ls y)
            → values K g k (unit_cells n l.1 l.2 ++ rest) z
            ≡ cond b (K.add (gv l.0 (take l.2 z)) (values K gv k ls (drop l.2 z)))
            (K.add (gv l.0 []) (values K gv k ls z))
        go true f ih =
            subst (λ m. values K g k (unit_cells n l.1 m ++ rest) z
            ≡ K.add (dot K (e l.0) (take m z)) (values K g k rest (drop m z))) size
            (units-values l.1 rest f (e l.0) n z at_first)
            ∙ ap (K.add (gv l.0 (take l.2 z))) (ih (drop l.2 z))
        go false f ih =
            subst (λ m. values K g k (unit_cells n l.1 m ++ rest) z ≡ K.add (dot K (e l.0) []) (values K g k rest z)) size
            (units-none l.1 rest f (e l.0) n z at_first)
            ∙ ap (K.add (gv l.0 [])) (ih z)

-- ---- lists of values, joined

module _ (f g : Cell → List ℕ) (k : ℕ) where
  units-joined : (d n : ℕ) (rest : List (ℕ × ℕ × ℕ)) (xs : List ℕ) → eqb d k ≡ true
      → ((p : ℕ) → p < length xs → f (record { cell = n + p; degree = d; size = 1 }) ≡ get_or xs p 0 ∷ [])
      → flat_map f (of_degree k (unit_cells n d (length xs) ++ rest)) ≡ xs ++ flat_map f (of_degree k rest)
  units-joined d n rest [] e h = refl
  units-joined d n rest (x ∷ xs) e h =
      let more : List Cell = of_degree k (unit_cells (n + 1) d (length xs) ++ rest) in
      let here : n ≡ n + 0 = omega arith in
      ap (λ b. flat_map f (cond b (record { cell = n; degree = d; size = 1 } ∷ more) more)) e
      ∙ ap₂ ◌++◌ (ap (λ j. f (record { cell = j; degree = d; size = 1 })) here ∙ h 0 (omega arith))
      (units-joined d (n + 1) rest xs e (λ p l.
      let next : n + 1 + p ≡ n + suc p = omega arith in
      ap (λ j. f (record { cell = j; degree = d; size = 1 })) next ∙ h (suc p) (omega arith)))

  units-left_out : (d n m : ℕ) (rest : List (ℕ × ℕ × ℕ)) → eqb d k ≡ false
      → of_degree k (unit_cells n d m ++ rest) ≡ of_degree k rest
  units-left_out d n zero rest e = refl
  units-left_out d n (suc m) rest e =
      let more : List Cell = of_degree k (unit_cells (n + 1) d m ++ rest) in
      ap (λ b. cond b (record { cell = n; degree = d; size = 1 } ∷ more) more) e ∙ units-left_out d (n + 1) m rest e

  -- the values at cells, coordinate by coordinate
  pub joined-coordinates : (n : ℕ) (live : List (ℕ × ℕ × ℕ)) → IsRising (cells live)
      → ((t : ℕ) → has t (cells live) ≡ true → degree_of live t ≡ k
      → length (g (record { cell = t; degree = k; size = size_of live t })) ≡ size_of live t)
      → ((t q : ℕ) → has t (cells live) ≡ true → degree_of live t ≡ k → q < size_of live t
      → f (record { cell = n + (first_coordinate live t + q); degree = k; size = 1 })
      ≡ get_or (g (record { cell = t; degree = k; size = size_of live t })) q 0 ∷ [])
      → flat_map f (of_degree k (coordinate_cells n live)) ≡ flat_map g (of_degree k live)
  joined-coordinates n [] r sized h = refl
  joined-coordinates n (l ∷ ls) r sized h =
      go (eqb l.1 k) refl (joined-coordinates (n + l.2) ls (rising_tail l.0 (cells ls) r) sized-later later)
    where
      rest : List (ℕ × ℕ × ℕ)
      rest = coordinate_cells (n + l.2) ls

      own : eqb l.0 l.0 ≡ true
      own = eq-eqb l.0 l.0 refl

      at_cell : ℕ → ℕ → List ℕ
      at_cell t m = g (record { cell = t; degree = k; size = m })

      sized-later : (t : ℕ) → has t (cells ls) ≡ true → degree_of ls t ≡ k → length (at_cell t (size_of ls t))
          ≡ size_of ls t
      sized-later t m e =
          let c = apart l ls t r m in
          subst (λ b. length (at_cell t (cond b l.2 (size_of ls t))) ≡ cond b l.2 (size_of ls t)) c
          (sized t (has-tail t l.0 (cells ls) m) (ap (λ b. cond b l.1 (degree_of ls t)) c ∙ e))

      later : (t q : ℕ) → has t (cells ls) ≡ true → degree_of ls t ≡ k → q < size_of ls t
          → f (record { cell = n + l.2 + (first_coordinate ls t + q); degree = k; size = 1 })
          ≡ get_or (at_cell t (size_of ls t)) q 0 ∷ []
      later t q m e i =
          let c = apart l ls t r m in
          let next : n + l.2 + (first_coordinate ls t + q) ≡ n + (l.2 + first_coordinate ls t + q) = omega arith in
          ap (λ j. f (record { cell = j; degree = k; size = 1 })) next
          ∙ subst (λ b. q < cond b l.2 (size_of ls t)
          → f (record { cell = n + (cond b 0 (l.2 + first_coordinate ls t) + q); degree = k; size = 1 })
          ≡ get_or (at_cell t (cond b l.2 (size_of ls t))) q 0 ∷ []) c
          (h t q (has-tail t l.0 (cells ls) m) (ap (λ b. cond b l.1 (degree_of ls t)) c ∙ e)) i

      head : l.1 ≡ k → length (at_cell l.0 l.2) ≡ l.2
      head e = subst (λ b. length (at_cell l.0 (cond b l.2 (size_of ls l.0))) ≡ cond b l.2 (size_of ls l.0)) own
          (sized l.0 (has-head l.0 (cells ls)) (ap (λ b. cond b l.1 (degree_of ls l.0)) own ∙ e))

      first : l.1 ≡ k → (q : ℕ) → q < l.2
          → f (record { cell = n + q; degree = l.1; size = 1 }) ≡ get_or (at_cell l.0 l.2) q 0 ∷ []
      first e q i =
          let here : n + q ≡ n + (0 + q) = omega arith in
          ap₂ (λ j d. f (record { cell = j; degree = d; size = 1 })) here e
          ∙ subst (λ b. q < cond b l.2 (size_of ls l.0)
          → f (record { cell = n + (cond b 0 (l.2 + first_coordinate ls l.0) + q); degree = k; size = 1 })
          ≡ get_or (at_cell l.0 (cond b l.2 (size_of ls l.0))) q 0 ∷ []) own
          (h l.0 q (has-head l.0 (cells ls)) (ap (λ b. cond b l.1 (degree_of ls l.0)) own ∙ e)) i

      go : (b : Bool) → eqb l.1 k ≡ b → flat_map f (of_degree k rest) ≡ flat_map g (of_degree k ls)
          → flat_map f (of_degree k (unit_cells n l.1 l.2 ++ rest)) ≡ flat_map g
          (cond b (cell_of l ∷ of_degree k ls) (of_degree k ls))
      go true e ih =
          let d = eqb-true l.1 k e in
          let xs : List ℕ = at_cell l.0 l.2 in
          subst (λ m. flat_map f (of_degree k (unit_cells n l.1 m ++ rest)) ≡ xs ++ flat_map f (of_degree k rest))
          (head d)
          (units-joined l.1 n rest xs e (λ q i. first d q (subst (λ m. q < m) (head d) i)))
          ∙ ap₂ ◌++◌ (ap (λ j. g (record { cell = l.0; degree = j; size = l.2 })) (sym d)) ih
      go false e ih = ap (flat_map f) (units-left_out l.1 n l.2 rest e) ∙ ih

-- ---- how many

units-size : (k d n m : ℕ) (rest : List (ℕ × ℕ × ℕ)) → eqb d k ≡ true
    → total_size (of_degree k (unit_cells n d m ++ rest)) ≡ m + total_size (of_degree k rest)
units-size k d n zero rest e = omega arith
units-size k d n (suc m) rest e =
    let more : List Cell = of_degree k (unit_cells (n + 1) d m ++ rest) in
    ap (λ b. total_size (cond b (record { cell = n; degree = d; size = 1 } ∷ more) more)) e
    ∙ omega (arith, units-size k d (n + 1) m rest e)

pub coordinates-size : (k n : ℕ) (live : List (ℕ × ℕ × ℕ)) → total_size (of_degree k (coordinate_cells n live))
    ≡ total_size (of_degree k live)
coordinates-size k n [] = refl
coordinates-size k n (l ∷ ls) = go (eqb l.1 k) refl (coordinates-size k (n + l.2) ls)
  where
    rest : List (ℕ × ℕ × ℕ)
    rest = coordinate_cells (n + l.2) ls

    go : (b : Bool) → eqb l.1 k ≡ b → total_size (of_degree k rest) ≡ total_size (of_degree k ls)
        → total_size (of_degree k (unit_cells n l.1 l.2 ++ rest))
        ≡ total_size (cond b (cell_of l ∷ of_degree k ls) (of_degree k ls))
    go true e ih = units-size k l.1 n l.2 rest e ∙ ap (λ t. l.2 + t) ih
    go false e ih = ap total_size (units-left_out (λ c. []) (λ c. []) k l.1 n l.2 rest e) ∙ ih
