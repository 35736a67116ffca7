-- A removal keeps that the coboundary of each coboundary is zero.
use Rattle.std.proofs.Common.{◌≡◌, ◌≢◌, ◌≤◌, All, ℕ, ◌+◌, Bool, true, false, cond, not, eqb, List, refl, sym, ap, ap₂}
use Rattle.std.proofs.Common.{◌∙◌, subst, filter}
use Rattle.std.specs.Prelude.{◌==◌}
use Rattle.std.proofs.lemmas.Bool.{and_parts, eqb-true}
use Rattle.std.proofs.lemmas.List.Elements.{All-filter}
use Rattle.dense_blocks.specs.Field.{Ops}
use Rattle.dense_blocks.specs.FieldLaws.{IsField}
use Rattle.dense_blocks.specs.Vectors.{zeros, plus}
use Rattle.dense_blocks.specs.MatrixFacts.{negative, IsMatrix, zero_matrix}
use Rattle.dense_blocks.specs.Matrices.{image_of, product}
use Rattle.dense_blocks.proofs.Shapes.{Vector, Matrix, from_matrix}
use Rattle.dense_blocks.proofs.VectorLaws.{plus-vector, negative-vector, plus-negative, negative-plus}
use Rattle.dense_blocks.proofs.VectorLaws.{negative-negative, negative-zeros, negative-unique, zeros-plus-zeros}
use Rattle.dense_blocks.proofs.MatrixLaws.{image_of-vector, image_of-plus, image_of-negative, image_of-zeros}
use Rattle.dense_blocks.proofs.MatrixLaws.{image_of-inverse, inverse-image_of}
use Rattle.cochain_vec.proofs.PathLaws.{sum_over, sum_over-vector, sum_over-same, sum_over-plus}
use Rattle.rising_lists.specs.Rising.{IsRising, has}
use Rattle.block_complexes.specs.BlockComplexes.{BlockComplex, AreBothLive, IsBlockComplex, cells, degree_of, size_of}
use Rattle.block_complexes.specs.Differentials.{IsDifferential, matrix_sum_over}
use Rattle.block_complexes.proofs.SameLaws.{same-differential}
use Rattle.block_complexes.proofs.FullLaws.{IsFull, filled, filled-full, same-filled}
use Rattle.block_complexes.proofs.WithoutLaws.{rising-without}
use Rattle.block_complexes.proofs.ComplexLaws.{differential_is_cochain_complex}
use Rattle.removals.specs.Removals.{IsRemoval, corner, is_corner}
use Rattle.removals.specs.Laws.{RemovalKeepsBlockComplex, RemovalKeepsDifferential, RemovalKeepsCochainComplex}
use Rattle.removals.proofs.SameRemovals.{removal-same-before}
use Rattle.block_complexes.proofs.Sums.{is_other, sum_over-equal, sum_over-negative, image_of-sum_over, sum_over-apart}
use Rattle.removals.proofs.CornerLaws.{cells-without, has-without, of_cell-without, without-twice, inverse-shape}
use Rattle.removals.proofs.CornerLaws.{left-shape, left-image_of}
use Rattle.block_complexes.proofs.DifferentialLaws.{between-zero, zero-between}

module _ (K : Ops) (F : IsField K) (v : BlockComplex) (full : IsFull K v)
    (x y : ℕ) (a : List (List ℕ)) (w : BlockComplex) (removal : IsRemoval K v x y a w) where
  abbrev size : ℕ → ℕ
  size c = size_of v.live c

  abbrev M : ℕ → ℕ → List (List ℕ)
  M s t = v.matrix s t

  abbrev IsLive : ℕ → Type 0
  IsLive c = has c (cells v.live) ≡ true

  abbrev IsLeft : ℕ → Type 0
  IsLeft c = has c (cells w.live) ≡ true

  left-live : (c : ℕ) → IsLeft c → IsLive c × (is_other x y c ≡ true)
  left-live c h = has-without x y v.live c (subst (λ live. has c (cells live) ≡ true) removal.live h)

  pub left-size : (c : ℕ) → IsLeft c → size_of w.live c ≡ size c
  left-size c h = ap (λ live. size_of live c) removal.live ∙ of_cell-without x y (λ l. l.2) v.live c (left-live c h).1

  cells-left : cells w.live ≡ filter (is_other x y) (cells v.live)
  cells-left = ap cells removal.live ∙ cells-without x y v.live

  M-shape : (s t : ℕ) → Matrix K (size t) (size s) (M s t)
  M-shape = full.shape

  a-shape : Matrix K (size x) (size y) a
  a-shape = inverse-shape K F v full x y a w removal

  image_of-shape : (s t : ℕ) (z : List ℕ) → Vector K (size t) (image_of K (M s t) z)
  image_of-shape s t z = image_of-vector K F (size t) (size s) (M s t) z (M-shape s t)

  module _ (closed : IsDifferential K v) (s : ℕ) (hs : IsLeft s) (z : List ℕ) where
    -- what z becomes at x, and then at each cell of what is left
    abbrev back : List ℕ
    back = image_of K a (image_of K (M s y) z)

    abbrev away : ℕ → List ℕ
    away t = image_of K (M x t) back

    abbrev value : ℕ → List ℕ
    value t = plus K (image_of K (M s t) z) (negative K (away t))

    value-vector : (t : ℕ) → Vector K (size t) (value t)
    value-vector t =
        plus-vector K F (size t) (image_of K (M s t) z) (negative K (away t)) (image_of-shape s t z)
        (negative-vector K F (size t) (away t) (image_of-shape x t back))

    value-at_y : value y ≡ zeros (size y)
    value-at_y =
        let here : List ℕ = image_of K (M s y) z in
        ap (λ u. plus K here (negative K u))
        (image_of-inverse K F (size x) (M x y) a here removal.inverse
        (subst (λ n. Vector K n here) removal.square (image_of-shape s y z)))
        ∙ plus-negative K F (size y) here (image_of-shape s y z)

    abbrev onward : ℕ → ℕ → List ℕ
    onward q t = image_of K (M t q) (value t)

    -- the sum over all live cells is zero
    onward-zero : (q : ℕ) → IsLive q → sum_over K (size q) (onward q) (cells v.live) ≡ zeros (size q)
    onward-zero q hq =
        let n = size q in
        let first : ℕ → List ℕ = λ t. image_of K (M t q) (image_of K (M s t) z) in
        let second : ℕ → List ℕ = λ t. image_of K (M t q) (image_of K (M x t) back) in
        sum_over-same K F n (onward q) (λ t. plus K (first t) (negative K (second t))) (cells v.live)
        (λ t. image_of-plus K F (size t) (M t q) (image_of K (M s t) z) (negative K (away t)) (image_of-shape s t z)
        (negative-vector K F (size t) (away t) (image_of-shape x t back))
        ∙ ap (plus K (first t)) (image_of-negative K F (M t q) (away t)))
        ∙ sum_over-plus K F n first (λ t. negative K (second t)) (cells v.live)
        ∙ ap₂ (plus K) (through-zero s (left-live s hs).0 z)
        (sum_over-negative K F n second (cells v.live) ∙ ap (negative K) (through-zero x removal.pair.from back)
        ∙ negative-zeros K F n)
        ∙ zeros-plus-zeros K F n
      where
        through-zero : (p : ℕ) → IsLive p → (r : List ℕ)
            → sum_over K (size q) (λ t. image_of K (M t q) (image_of K (M p t) r)) (cells v.live) ≡ zeros (size q)
        through-zero p hp r =
            between-zero K F size M (cells v.live) (λ s t hs ht. M-shape s t) p q hp hq
            (closed p q (record { from = hp; to = hq })) r

    -- and so over the cells that are left it is the negative of what comes through x
    onward-left : (q : ℕ) → IsLive q → sum_over K (size q) (onward q) (cells w.live) ≡ negative K (onward q x)
    onward-left q hq =
        let n = size q in
        let term-vector : (t : ℕ) → Vector K n (onward q t) = λ t. image_of-shape t q (value t) in
        let none : onward q y ≡ zeros n = ap (image_of K (M y q)) value-at_y ∙ image_of-zeros K F (size y) n (size y)
        (M y q) (M-shape y q) in
        negative-unique K F n (onward q x) (sum_over K n (onward q) (cells w.live)) (term-vector x)
        (sum_over-vector K F n (onward q) (cells w.live) term-vector)
        (ap (λ ks. plus K (onward q x) (sum_over K n (onward q) ks)) cells-left
        ∙ sym (sum_over-apart K F n (onward q) term-vector x y none (cells v.live) full.rising removal.pair.from)
        ∙ onward-zero q hq)

    -- what the corners take away from the sum is just that
    taken-left : (u : ℕ) → sum_over K (size u) (λ t. negative K (image_of K (M x u) (image_of K a (onward y t))))
        (cells w.live) ≡ onward u x
    taken-left u =
        let n = size u in
        let term-vector : (t : ℕ) → Vector K (size y) (onward y t) = λ t. image_of-shape t y (value t) in
        let xy : Matrix K (size x) (size x) (M x y) = subst (λ n. Matrix K n (size x) (M x y)) removal.square
        (M-shape x y) in
        sum_over-negative K F n (λ t. image_of K (M x u) (image_of K a (onward y t))) (cells w.live)
        ∙ ap (negative K)
        (sym (image_of-sum_over K F (size x) n (M x u) (λ t. image_of K a (onward y t)) (cells w.live) (M-shape x u)
        (λ t. image_of-vector K F (size x) (size y) a (onward y t) a-shape))
        ∙ ap (image_of K (M x u))
        (sym (image_of-sum_over K F (size y) (size x) a (onward y) (cells w.live) a-shape term-vector)
        ∙ ap (image_of K a) (onward-left y removal.pair.to)
        ∙ image_of-negative K F a (onward y x)
        ∙ ap (negative K) (inverse-image_of K F (size x) (M x y) a (value x) xy removal.inverse (value-vector x)))
        ∙ image_of-negative K F (M x u) (value x))
        ∙ negative-negative K F n (onward u x) (image_of-shape x u (value x))

    left-zero : (u : ℕ) → IsLeft u → sum_over K (size u) (λ t. image_of K (w.matrix t u) (image_of K (w.matrix s t) z))
        (cells w.live) ≡ zeros (size u)
    left-zero u hu =
        let n = size u in
        let taken : ℕ → List ℕ = λ t. negative K (image_of K (M x u) (image_of K a (onward y t))) in
        sum_over-equal K F n (λ t. image_of K (w.matrix t u) (image_of K (w.matrix s t) z))
        (λ t. plus K (onward u t) (taken t)) (cells w.live)
        (λ t ht. ap (image_of K (w.matrix t u)) (left-image_of K F v full x y a w removal s t z hs ht)
        ∙ left-image_of K F v full x y a w removal t u (value t) ht hu)
        ∙ sum_over-plus K F n (onward u) taken (cells w.live)
        ∙ ap₂ (plus K) (onward-left u (left-live u hu).0) (taken-left u)
        ∙ negative-plus K F n (onward u x) (image_of-shape x u (value x))

  keeps_differential : IsDifferential K v → IsDifferential K w
  keeps_differential closed s u l =
      let hs : IsLeft s = l.from in
      let hu : IsLeft u = l.to in
      ap₂ (λ m n. matrix_sum_over K m n (λ t. product K n (w.matrix t u) (w.matrix s t)) (cells w.live))
      (left-size u hu) (left-size s hs)
      ∙ zero-between K F size (λ s t. w.matrix s t) (cells w.live) (left-shape K F v full x y a w removal) s u hs hu
      (λ z h. left-zero closed s hs z u hu)
      ∙ sym (ap₂ zero_matrix (left-size u hu) (left-size s hs))

  abbrev degree : ℕ → ℕ
  degree c = degree_of v.live c

  left-degree : (c : ℕ) → IsLeft c → degree_of w.live c ≡ degree c
  left-degree c h = ap (λ live. degree_of live c) removal.live ∙ of_cell-without x y (λ l. l.1) v.live c
      (left-live c h).1

  -- between cells that are not of consecutive degree it stays zero
  left-apart : (s t : ℕ) → AreBothLive w.live s t → degree t ≢ degree s + 1
      → w.matrix s t ≡ zero_matrix (size t) (size s)
  left-apart s t l n = removal.matrices s t l ∙ go (is_corner v.live x y s t) refl
    where
      go : (b : Bool) → is_corner v.live x y s t ≡ b → cond b (corner K v x y a s t) (M s t) ≡ zero_matrix (size t)
          (size s)
      go true e =
          let p = and_parts (degree s == degree x) (degree t == degree y) e in
          absurd (n (eqb-true (degree t) (degree y) p.1 ∙ removal.pair.degrees
          ∙ ap (λ d. d + 1) (sym (eqb-true (degree s) (degree x) p.0))))
      go false e = full.apart s t n

  -- what is left is a block complex
  keeps_block_complex : IsBlockComplex K w
  keeps_block_complex = record {
    rising = subst (λ live. IsRising (cells live)) (without-twice x y v.live ∙ sym removal.live)
        (rising-without y (filter (λ l. not (eqb l.0 x)) v.live) (rising-without x v.live full.rising));
    sizes = subst (All (λ l. 1 ≤ l.2)) (sym removal.live) (All-filter (λ l. is_other x y l.0) (λ l. 1 ≤ l.2) v.live
        full.sizes);
    matrices = λ s t l.
        subst (λ n. IsMatrix K n (size_of w.live s) (w.matrix s t)) (sym (left-size t l.to))
        (subst (λ n. IsMatrix K (size t) n (w.matrix s t)) (sym (left-size s l.from))
        (from_matrix K (size t) (size s) (w.matrix s t) (left-shape K F v full x y a w removal s t l.from l.to)));
    apart = λ s t l n.
        left-apart s t l (λ e. n (left-degree t l.to ∙ e ∙ ap (λ d. d + 1) (sym (left-degree s l.from))))
        ∙ sym (ap₂ zero_matrix (left-size t l.to) (left-size s l.from));
  }

pub removal_keeps_block_complex : RemovalKeepsBlockComplex
removal_keeps_block_complex K v w x y a F is removal =
    let same = same-filled v in
    keeps_block_complex K F (filled v) (filled-full K F v is) x y a w
    (removal-same-before K v (filled v) x y a w same removal)

pub removal_keeps_differential : RemovalKeepsDifferential
removal_keeps_differential K v w x y a F is removal closed =
    let same = same-filled v in
    keeps_differential K F (filled v) (filled-full K F v is) x y a w
    (removal-same-before K v (filled v) x y a w same removal)
    (same-differential K v (filled v) same closed)

pub removal_keeps_cochain_complex : RemovalKeepsCochainComplex
removal_keeps_cochain_complex K v w x y a F is removal closed =
    (differential_is_cochain_complex K w F (removal_keeps_block_complex K v w x y a F is removal)).0
    (removal_keeps_differential K v w x y a F is removal ((differential_is_cochain_complex K v F is).1 closed))
