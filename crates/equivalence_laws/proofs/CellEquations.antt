-- The four equations of a removal, for a vector at each cell.
use Rattle.std.proofs.Common.{◌≡◌, ◌≢◌, ℕ, Bool, true, false, cond, not, ◌||◌, ◌&&◌, ◌⊎◌, inl, inr, refl, sym, ap, ap₂}
use Rattle.std.proofs.Common.{◌∙◌, subst, arith, List, filter, eqb}
use Rattle.std.proofs.lemmas.Bool.{eq-eqb, ne_eqb, cases_eq}
use Rattle.dense_blocks.specs.Field.{Ops}
use Rattle.dense_blocks.specs.FieldLaws.{IsField}
use Rattle.dense_blocks.specs.Vectors.{zeros, plus}
use Rattle.dense_blocks.specs.MatrixFacts.{negative}
use Rattle.dense_blocks.specs.Matrices.{image_of}
use Rattle.dense_blocks.proofs.Shapes.{Vector, Matrix}
use Rattle.dense_blocks.proofs.VectorLaws.{plus-vector, negative-vector, plus-assoc, plus-comm, plus-cross, plus-zeros}
use Rattle.dense_blocks.proofs.VectorLaws.{zeros-plus, plus-negative, negative-plus, negative-negative}
use Rattle.dense_blocks.proofs.VectorLaws.{negative-of-plus, negative-zeros, negative-unique, plus-moved}
use Rattle.dense_blocks.proofs.MatrixLaws.{image_of-vector, image_of-plus, image_of-negative, image_of-zeros}
use Rattle.dense_blocks.proofs.MatrixLaws.{image_of-inverse, inverse-image_of}
use Rattle.cochain_vec.proofs.PathLaws.{sum_over, sum_over-vector, sum_over-zeros, sum_over-plus}
use Rattle.rising_lists.specs.Rising.{has}
use Rattle.block_complexes.specs.BlockComplexes.{BlockComplex, cells, degree_of, size_of}
use Rattle.block_complexes.specs.Differentials.{IsDifferential}
use Rattle.block_complexes.proofs.SumLaws.{has-filter}
use Rattle.block_complexes.proofs.FullLaws.{IsFull}
use Rattle.block_complexes.proofs.Sums.{is_other, sum_over-equal, sum_over-negative, image_of-sum_over, sum_over-apart}
use Rattle.block_complexes.proofs.ComplexLaws.{arrives-arrives, passes-zero}
use Rattle.removals.specs.Removals.{IsRemoval}
use Rattle.removals.proofs.CornerLaws.{cells-without, has-without, inverse-shape, left-image_of}
use Rattle.equivalence_laws.specs.RemovalMaps.{Removal}

-- (p - q) - (r - q) = p - r
difference-of-differences : (K : Ops) (F : IsField K) (n : ℕ) (p q r : List ℕ) → Vector K n p → Vector K n q
    → Vector K n r
    → plus K (plus K p (negative K q)) (negative K (plus K r (negative K q))) ≡ plus K p (negative K r)
difference-of-differences K F n p q r hp hq hr =
    ap (plus K (plus K p (negative K q))) (negative-of-plus K F r (negative K q)
    ∙ ap (plus K (negative K r)) (negative-negative K F n q hq))
    ∙ plus-cross K F p (negative K q) (negative K r) q
    ∙ ap (plus K (plus K p (negative K r))) (negative-plus K F n q hq)
    ∙ plus-zeros K F n (plus K p (negative K r)) (plus-vector K F n p (negative K r) hp (negative-vector K F n r hr))

-- p = (p - q) + (q + 0)
difference-back : (K : Ops) (F : IsField K) (n : ℕ) (p q : List ℕ) → Vector K n p → Vector K n q
    → p ≡ plus K (plus K p (negative K q)) (plus K q (zeros n))
difference-back K F n p q hp hq =
    sym (ap (plus K (plus K p (negative K q))) (plus-zeros K F n q hq)
    ∙ plus-assoc K F p (negative K q) q
    ∙ ap (plus K p) (negative-plus K F n q hq) ∙ plus-zeros K F n p hp)

-- p = - (r - (p - q)) + (q + r)
difference-around : (K : Ops) (F : IsField K) (n : ℕ) (p q r : List ℕ) → Vector K n p → Vector K n q → Vector K n r
    → p ≡ plus K (negative K (plus K r (negative K (plus K p (negative K q))))) (plus K q r)
difference-around K F n p q r hp hq hr =
    let g = plus K p (negative K q) in
    let hg : Vector K n g = plus-vector K F n p (negative K q) hp (negative-vector K F n q hq) in
    sym (ap₂ (plus K) (negative-of-plus K F r (negative K g) ∙ ap (plus K (negative K r)) (negative-negative K F n g hg)
    ∙ plus-comm K F (negative K r) g) refl
    ∙ plus-cross K F g (negative K r) q r
    ∙ ap₂ (plus K) (plus-assoc K F p (negative K q) q ∙ ap (plus K p) (negative-plus K F n q hq)
    ∙ plus-zeros K F n p hp) (negative-plus K F n r hr)
    ∙ plus-zeros K F n p hp)

-- a removal from a full block complex to one, where the coboundary of each coboundary is zero
pub record IsSetting (K : Ops) (v : BlockComplex) (r : Removal) : Type 0 where
  pub field : IsField K
  pub full : IsFull K v
  pub rest_full : IsFull K r.rest
  pub removal : IsRemoval K v r.x r.y r.inverse r.rest
  pub closed : IsDifferential K v

module _ (K : Ops) (v : BlockComplex) (r : Removal) (s : IsSetting K v r) where
  open s use {full, removal, closed}

  abbrev F : IsField K
  F = s.field

  abbrev x : ℕ
  x = r.x

  abbrev y : ℕ
  y = r.y

  abbrev a : List (List ℕ)
  a = r.inverse

  abbrev w : BlockComplex
  w = r.rest

  abbrev size : ℕ → ℕ
  size c = size_of v.live c

  abbrev M : ℕ → ℕ → List (List ℕ)
  M s t = v.matrix s t

  abbrev live : List ℕ
  live = cells v.live

  abbrev left : List ℕ
  left = cells w.live

  abbrev pub IsLive : ℕ → Type 0
  IsLive c = has c (cells v.live) ≡ true

  abbrev pub IsLeft : ℕ → Type 0
  IsLeft c = has c (cells w.live) ≡ true

  pub cells-left : left ≡ filter (is_other x y) live
  cells-left = ap cells removal.live ∙ cells-without x y v.live

  pub left-live : (c : ℕ) → IsLeft c → IsLive c × (is_other x y c ≡ true)
  left-live c h = has-without x y v.live c (subst (λ live. has c (cells live) ≡ true) removal.live h)

  pub M-shape : (s t : ℕ) → Matrix K (size t) (size s) (M s t)
  M-shape = full.shape

  pub a-shape : Matrix K (size x) (size y) a
  a-shape = inverse-shape K F v full x y a w removal

  -- the matrix from x to y as a square one
  xy-shape : Matrix K (size x) (size x) (M x y)
  xy-shape = subst (λ n. Matrix K n (size x) (M x y)) removal.square (M-shape x y)

  at_x : (u : List ℕ) → Vector K (size y) u → Vector K (size x) u
  at_x u h = subst (λ n. Vector K n u) removal.square h

  pub M-vector : (s t : ℕ) (z : List ℕ) → Vector K (size t) (image_of K (M s t) z)
  M-vector s t z = image_of-vector K F (size t) (size s) (M s t) z (M-shape s t)

  pub a-vector : (z : List ℕ) → Vector K (size x) (image_of K a z)
  a-vector z = image_of-vector K F (size x) (size y) a z a-shape

  pub distinct : y ≢ x
  distinct e = let up = removal.pair.degrees in let same : degree_of v.live y ≡ degree_of v.live x =
      ap (degree_of v.live) e in omega (arith, up, same)

  -- what arrives at t from all cells, and from the cells that are left; and what arrives in what is left
  abbrev pub d : (ℕ → List ℕ) → ℕ → List ℕ
  d f t = sum_over K (size t) (λ s. image_of K (M s t) (f s)) live

  abbrev pub rest : (ℕ → List ℕ) → ℕ → List ℕ
  rest f t = sum_over K (size t) (λ s. image_of K (M s t) (f s)) left

  abbrev pub d' : (ℕ → List ℕ) → ℕ → List ℕ
  d' f t = sum_over K (size t) (λ s. image_of K (w.matrix s t) (f s)) left

  -- what x gives at t, where y has u
  abbrev pub through : ℕ → List ℕ → List ℕ
  through t u = image_of K (M x t) (image_of K a u)

  pub through-vector : (t : ℕ) (u : List ℕ) → Vector K (size t) (through t u)
  through-vector t u = M-vector x t (image_of K a u)

  d-vector : (f : ℕ → List ℕ) (t : ℕ) → Vector K (size t) (d f t)
  d-vector f t = sum_over-vector K F (size t) (λ s. image_of K (M s t) (f s)) live (λ s. M-vector s t (f s))

  pub rest-vector : (f : ℕ → List ℕ) (t : ℕ) → Vector K (size t) (rest f t)
  rest-vector f t = sum_over-vector K F (size t) (λ s. image_of K (M s t) (f s)) left (λ s. M-vector s t (f s))

  M-zeros : (s t : ℕ) → image_of K (M s t) (zeros (size s)) ≡ zeros (size t)
  M-zeros s t = image_of-zeros K F (size s) (size t) (size s) (M s t) (M-shape s t)

  -- where nothing comes from y
  pub d-apart : (f : ℕ → List ℕ) (t : ℕ) → image_of K (M y t) (f y) ≡ zeros (size t) → d f t
      ≡ plus K (image_of K (M x t) (f x)) (rest f t)
  d-apart f t none =
      sum_over-apart K F (size t) (λ s. image_of K (M s t) (f s))
      (λ s. M-vector s t (f s)) x y none live full.rising removal.pair.from
      ∙ ap (λ ks. plus K (image_of K (M x t) (f x)) (sum_over K (size t) (λ s. image_of K (M s t) (f s)) ks))
      (sym cells-left)

  small : (f : ℕ → List ℕ) (u : ℕ) → IsLeft u → d' f u ≡ plus K (rest f u) (negative K (through u (rest f y)))
  small f u hu =
      let n = size u in
      let first : ℕ → List ℕ = λ t. image_of K (M t u) (f t) in
      let second : ℕ → List ℕ = λ t. through u (image_of K (M t y) (f t)) in
      sum_over-equal K F n (λ t. image_of K (w.matrix t u) (f t)) (λ t. plus K (first t) (negative K (second t))) left
      (λ t ht. left-image_of K F v full x y a w removal t u (f t) ht hu)
      ∙ sum_over-plus K F n first (λ t. negative K (second t)) left
      ∙ ap (plus K (rest f u))
      (sum_over-negative K F n second left
      ∙ ap (negative K)
      (sym (image_of-sum_over K F (size x) n (M x u) (λ t. image_of K a (image_of K (M t y) (f t))) left (M-shape x u)
      (λ t. a-vector (image_of K (M t y) (f t))))
      ∙ ap (image_of K (M x u)) (sym (image_of-sum_over K F (size y) (size x) a
      (λ t. image_of K (M t y) (f t)) left a-shape (λ t. M-vector t y (f t))))))

  -- what there is at y goes through x and comes back at y
  through-y : (u : List ℕ) → Vector K (size y) u → through y u ≡ u
  through-y u h = image_of-inverse K F (size x) (M x y) a u removal.inverse (at_x u h)

  back : (z : List ℕ) → Vector K (size x) z → image_of K a (image_of K (M x y) z) ≡ z
  back z h = inverse-image_of K F (size x) (M x y) a z xy-shape removal.inverse h

  -- iota: g extended to x and y
  abbrev pub ext : (ℕ → List ℕ) → ℕ → List ℕ
  ext g t = cond (eqb t x) (negative K (image_of K a (rest g y))) (cond (eqb t y) (zeros (size y)) (g t))

  pub ext-x : (g : ℕ → List ℕ) → ext g x ≡ negative K (image_of K a (rest g y))
  ext-x g = ap (λ b. cond b (negative K (image_of K a (rest g y))) (cond (eqb x y) (zeros (size y)) (g x)))
      (eq-eqb x x refl)

  pub ext-y : (g : ℕ → List ℕ) → ext g y ≡ zeros (size y)
  ext-y g =
      ap (λ b. cond b (negative K (image_of K a (rest g y))) (cond (eqb y y) (zeros (size y)) (g y)))
      (ne_eqb y x distinct)
      ∙ ap (λ b. cond b (zeros (size y)) (g y)) (eq-eqb y y refl)

  ext-other : (g : ℕ → List ℕ) (t : ℕ) → is_other x y t ≡ true → ext g t ≡ g t
  ext-other g t = go (eqb t x) (eqb t y)
    where
      go : (p q : Bool) → not (p || q) ≡ true → cond p (negative K (image_of K a (rest g y)))
          (cond q (zeros (size y)) (g t)) ≡ g t
      go true q e = cc
      go false true e = cc
      go false false e = refl

  pub ext-left : (g : ℕ → List ℕ) (t : ℕ) → IsLeft t → ext g t ≡ g t
  ext-left g t h = ext-other g t (left-live t h).1

  d-ext : (g : ℕ → List ℕ) (t : ℕ) → d (ext g) t ≡ plus K (rest g t) (negative K (through t (rest g y)))
  d-ext g t =
      d-apart (ext g) t (ap (image_of K (M y t)) (ext-y g) ∙ M-zeros y t)
      ∙ ap₂ (plus K) (ap (image_of K (M x t)) (ext-x g) ∙ image_of-negative K F (M x t) (image_of K a (rest g y)))
      (sum_over-equal K F (size t) (λ s. image_of K (M s t) (ext g s)) (λ s. image_of K (M s t) (g s)) left
      (λ s hs. ap (image_of K (M s t)) (ext-left g s hs)))
      ∙ plus-comm K F (negative K (through t (rest g y))) (rest g t)

  pub d-ext-left : (g : ℕ → List ℕ) (t : ℕ) → IsLeft t → d (ext g) t ≡ d' g t
  d-ext-left g t h = d-ext g t ∙ sym (small g t h)

  pub d-ext-y : (g : ℕ → List ℕ) → d (ext g) y ≡ zeros (size y)
  d-ext-y g =
      let r = rest g y in
      d-ext g y ∙ ap (λ u. plus K r (negative K u)) (through-y r (rest-vector g y))
      ∙ plus-negative K F (size y) r (rest-vector g y)

  d-d : (f : ℕ → List ℕ) (u : ℕ) → IsLive u → d (d f) u ≡ zeros (size u)
  d-d f u hu =
      arrives-arrives K F v full f u
      ∙ sum_over-equal K F (size u) (λ s. sum_over K (size u) (λ t. image_of K (M t u) (image_of K (M s t) (f s))) live)
      (λ s. zeros (size u)) live
      (λ s hs. passes-zero K F v full closed s u hs hu (f s))
      ∙ sum_over-zeros K F (size u) (λ s. zeros (size u)) live (λ s. refl)

  pub d-ext-x : (g : ℕ → List ℕ) → d (ext g) x ≡ negative K (image_of K a (rest (d' g) y))
  d-ext-x g =
      let e = d (ext g) x in
      let he : Vector K (size x) e = d-vector (ext g) x in
      let r = rest (d' g) y in
      let sum : plus K (image_of K (M x y) e) r ≡ zeros (size y) =
      ap (plus K (image_of K (M x y) e))
      (sym (sum_over-equal K F (size y) (λ s. image_of K (M s y) (d (ext g) s)) (λ s. image_of K (M s y) (d' g s)) left
      (λ s hs. ap (image_of K (M s y)) (d-ext-left g s hs))))
      ∙ sym (d-apart (d (ext g)) y (ap (image_of K (M y y)) (d-ext-y g) ∙ M-zeros y y))
      ∙ d-d (ext g) y removal.pair.to in
      sym (back e he)
      ∙ ap (image_of K a)
      (negative-unique K F (size y) r (image_of K (M x y) e) (rest-vector (d' g) y) (M-vector x y e)
      (plus-comm K F r (image_of K (M x y) e) ∙ sum))
      ∙ image_of-negative K F a r

  -- pi and h of a vector f(c) at each live cell c
  module _ (f : ℕ → List ℕ) (hf : (c : ℕ) → IsLive c → Vector K (size c) (f c)) where
    abbrev pub pi : ℕ → List ℕ
    pi t = plus K (f t) (negative K (through t (f y)))

    pi-vector : (t : ℕ) → IsLive t → Vector K (size t) (pi t)
    pi-vector t h = plus-vector K F (size t) (f t) (negative K (through t (f y))) (hf t h)
        (negative-vector K F (size t) (through t (f y)) (through-vector t (f y)))

    pi-y : pi y ≡ zeros (size y)
    pi-y =
        let hy = hf y removal.pair.to in
        ap (λ u. plus K (f y) (negative K u)) (through-y (f y) hy) ∙ plus-negative K F (size y) (f y) hy

    d-pi : (q : ℕ) → IsLive q → d pi q ≡ d f q
    d-pi q hq =
        let n = size q in
        let first : ℕ → List ℕ = λ t. image_of K (M t q) (f t) in
        let second : ℕ → List ℕ = λ t. image_of K (M t q) (through t (f y)) in
        sum_over-equal K F n (λ t. image_of K (M t q) (pi t)) (λ t. plus K (first t) (negative K (second t))) live
        (λ t ht. image_of-plus K F (size t) (M t q) (f t) (negative K (through t (f y))) (hf t ht)
        (negative-vector K F (size t) (through t (f y)) (through-vector t (f y)))
        ∙ ap (plus K (first t)) (image_of-negative K F (M t q) (through t (f y))))
        ∙ sum_over-plus K F n first (λ t. negative K (second t)) live
        ∙ ap (plus K (d f q))
        (sum_over-negative K F n second live
        ∙ ap (negative K) (passes-zero K F v full closed x q removal.pair.from hq (image_of K a (f y)))
        ∙ negative-zeros K F n)
        ∙ plus-zeros K F n (d f q) (d-vector f q)

    rest-pi : (q : ℕ) → IsLive q → rest pi q ≡ plus K (d f q) (negative K (image_of K (M x q) (pi x)))
    rest-pi q hq =
        let n = size q in
        let from_x = image_of K (M x q) (pi x) in
        plus-moved K F n (rest pi q) from_x (d f q) (rest-vector pi q) (M-vector x q (pi x))
        (plus-comm K F (rest pi q) from_x
        ∙ sym (d-apart pi q (ap (image_of K (M y q)) pi-y ∙ M-zeros y q))
        ∙ d-pi q hq)

    back-rest : image_of K a (rest pi y) ≡ plus K (image_of K a (d f y)) (negative K (pi x))
    back-rest =
        let at_y = image_of K (M x y) (pi x) in
        ap (image_of K a) (rest-pi y removal.pair.to)
        ∙ image_of-plus K F (size y) a (d f y) (negative K at_y) (d-vector f y)
        (negative-vector K F (size y) at_y (M-vector x y (pi x)))
        ∙ ap (plus K (image_of K a (d f y))) (image_of-negative K F a at_y
        ∙ ap (negative K) (back (pi x) (pi-vector x removal.pair.from)))

    pub d'-pi : (t : ℕ) → IsLeft t → d' pi t ≡ plus K (d f t) (negative K (through t (d f y)))
    d'-pi t ht =
        let n = size t in
        let g = pi x in
        let hg = pi-vector x removal.pair.from in
        let q = image_of K (M x t) g in
        let r = through t (d f y) in
        small pi t ht
        ∙ ap₂ (λ u w. plus K u (negative K w)) (rest-pi t (left-live t ht).0)
        (ap (image_of K (M x t)) back-rest
        ∙ image_of-plus K F (size x) (M x t) (image_of K a (d f y)) (negative K g) (a-vector (d f y))
        (negative-vector K F (size x) g hg)
        ∙ ap (plus K r) (image_of-negative K F (M x t) g))
        ∙ difference-of-differences K F n (d f t) q r (d-vector f t) (M-vector x t g) (through-vector t (d f y))

    -- h: a f(y) at x
    abbrev pub lower : ℕ → List ℕ
    lower t = cond (eqb t x) (image_of K a (f y)) (zeros (size t))

    pub lower-x : lower x ≡ image_of K a (f y)
    lower-x = ap (λ b. cond b (image_of K a (f y)) (zeros (size x))) (eq-eqb x x refl)

    pub lower-other : (t : ℕ) → t ≢ x → lower t ≡ zeros (size t)
    lower-other t n = ap (λ b. cond b (image_of K a (f y)) (zeros (size t))) (ne_eqb t x n)

    pub left-not_x : (t : ℕ) → IsLeft t → t ≢ x
    left-not_x t ht e = go (eqb t y) (eq-eqb t x e) (left-live t ht).1
      where
        go : (q : Bool) → eqb t x ≡ true → not (eqb t x || q) ≡ true → ⊥
        go q p m = let bad : false ≡ true = sym (ap (λ b. not (b || q)) p) ∙ m in cc

    pub d-lower : (t : ℕ) → d lower t ≡ through t (f y)
    d-lower t =
        d-apart lower t (ap (image_of K (M y t)) (lower-other y distinct) ∙ M-zeros y t)
        ∙ ap₂ (plus K) (ap (image_of K (M x t)) lower-x)
        (sum_over-equal K F (size t) (λ s. image_of K (M s t) (lower s)) (λ s. zeros (size t)) left
        (λ s hs. ap (image_of K (M s t)) (lower-other s (left-not_x s hs)) ∙ M-zeros s t)
        ∙ sum_over-zeros K F (size t) (λ s. zeros (size t)) left (λ s. refl))
        ∙ plus-zeros K F (size t) (through t (f y)) (through-vector t (f y))

    -- 1 = iota pi + (d h + h d), at each cell
    pub homotopy-left : (t : ℕ) → IsLeft t → f t ≡ plus K (pi t) (plus K (through t (f y)) (zeros (size t)))
    homotopy-left t ht = difference-back K F (size t) (f t) (through t (f y)) (hf t (left-live t ht).0)
        (through-vector t (f y))

    pub homotopy-y : f y ≡ plus K (zeros (size y)) (plus K (through y (f y)) (zeros (size y)))
    homotopy-y =
        let n = size y in
        let hy = hf y removal.pair.to in
        sym (ap (plus K (zeros n)) (ap (λ u. plus K u (zeros n)) (through-y (f y) hy) ∙ plus-zeros K F n (f y) hy)
        ∙ zeros-plus K F n (f y) hy)

    pub homotopy-x : f x ≡ plus K (negative K (image_of K a (rest pi y)))
        (plus K (through x (f y)) (image_of K a (d f y)))
    homotopy-x =
        difference-around K F (size x) (f x) (through x (f y)) (image_of K a (d f y)) (hf x removal.pair.from)
        (through-vector x (f y)) (a-vector (d f y))
        ∙ ap (λ u. plus K (negative K u) (plus K (through x (f y)) (image_of K a (d f y)))) (sym back-rest)

  -- a live cell is one of the two, or is left
  pub which : (t : ℕ) → IsLive t → (t ≡ x) ⊎ ((t ≡ y) ⊎ IsLeft t)
  which t ht = go (cases_eq t x) (cases_eq t y)
    where
      go : (t ≡ x) ⊎ (t ≡ x → ⊥) → (t ≡ y) ⊎ (t ≡ y → ⊥) → (t ≡ x) ⊎ ((t ≡ y) ⊎ IsLeft t)
      go (inl e) q = inl e
      go (inr n) (inl e) = inr (inl e)
      go (inr n) (inr m) = inr (inr (kept n m))
        where
          kept : t ≢ x → t ≢ y → IsLeft t
          kept n m =
              ap (λ ks. has t ks) cells-left ∙ has-filter (is_other x y) live t
              ∙ ap₂ (λ p q. p && q) ht (ap₂ (λ p q. not (p || q)) (ne_eqb t x n) (ne_eqb t y m))
