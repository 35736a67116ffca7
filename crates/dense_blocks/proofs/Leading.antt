-- What earlier vectors and earlier coordinates give, under reductions.
use Rattle.std.proofs.Common.{◌≡◌, ◌≢◌, ℕ, zero, suc, ◌<◌, ◌≤◌, List, [], ◌∷◌, take, get_or, All, refl, sym, ap, ap₂}
use Rattle.std.proofs.Common.{◌∙◌, subst, arith}
use Rattle.std.proofs.lemmas.List.{take-map}
use Rattle.std.proofs.lemmas.List.Elements.{All-head, All-tail}
use Rattle.dense_blocks.specs.Field.{Ops}
use Rattle.dense_blocks.specs.FieldLaws.{IsField}
use Rattle.dense_blocks.specs.Vectors.{zeros, plus, multiple, dot, combination}
use Rattle.dense_blocks.specs.Elimination.{IsPivot, pivot_multiple, pivot_remainder, remainder}
use Rattle.dense_blocks.specs.declared.solution.Pivot.{Pivot}
use Rattle.dense_blocks.proofs.ScalarLaws.{add_mul, neg_of_sum, mul_neg}
use Rattle.dense_blocks.proofs.Shapes.{Vector, Matrix, to_vector, vector-size}
use Rattle.dense_blocks.proofs.VectorLaws.{multiple-vector, plus-cross, zeros-plus-zeros, multiple-plus, multiple-add}
use Rattle.dense_blocks.proofs.VectorLaws.{multiple-mul, multiple-zeros, combination-vector, dot-zeros, dot-plus}
use Rattle.dense_blocks.proofs.VectorLaws.{dot-multiple}
use Rattle.dense_blocks.proofs.RowSteps.{multiple-at}
use Rattle.dense_blocks.proofs.Reductions.{cleared-vector, cleared-zeros}

pub plus-at : (K : Ops) (n i : ℕ) (u v : List ℕ) → Vector K n u → Vector K n v → i < n → get_or (plus K u v) i 0
    ≡ K.add (get_or u i 0) (get_or v i 0)
plus-at K zero i u v hu hv l = absurd (omega arith)
plus-at K (suc n) i [] v hu hv l = absurd hu
plus-at K (suc n) i (a ∷ u) [] hu hv l = absurd hv
plus-at K (suc n) zero (a ∷ u) (b ∷ v) hu hv l = refl
plus-at K (suc n) (suc i) (a ∷ u) (b ∷ v) hu hv l = plus-at K n i u v hu.1 hv.1 (omega arith)

take-plus : (K : Ops) (i : ℕ) (u v : List ℕ) → take i (plus K u v) ≡ plus K (take i u) (take i v)
take-plus K zero u v = refl
take-plus K (suc i) [] v = refl
take-plus K (suc i) (a ∷ u) [] = refl
take-plus K (suc i) (a ∷ u) (b ∷ v) = ap (λ t. K.add a b ∷ t) (take-plus K i u v)

pub take-vector : (K : Ops) (n i : ℕ) (u : List ℕ) → Vector K n u → i ≤ n → Vector K i (take i u)
take-vector K n zero u hu l = tt
take-vector K zero (suc i) u hu l = absurd (omega arith)
take-vector K (suc n) (suc i) [] hu l = absurd hu
take-vector K (suc n) (suc i) (a ∷ u) hu l = (hu.0, take-vector K n i u hu.1 (omega arith))

module _ (K : Ops) (h : IsField K) where
  -- reductions are linear
  part-plus : (n : ℕ) (p : Pivot) (u v : List ℕ) → IsPivot K n p → Vector K n u → Vector K n v
      → pivot_multiple K p (plus K u v) ≡ K.add (pivot_multiple K p u) (pivot_multiple K p v)
  part-plus n p u v fit hu hv =
      ap (λ t. K.mul t p.inverse) (plus-at K n p.place u v hu hv fit.place)
      ∙ add_mul K h (get_or u p.place 0) (get_or v p.place 0) p.inverse

  cleared-plus : (n : ℕ) (p : Pivot) (u v : List ℕ) → IsPivot K n p → Vector K n u → Vector K n v
      → pivot_remainder K p (plus K u v) ≡ plus K (pivot_remainder K p u) (pivot_remainder K p v)
  cleared-plus n p u v fit hu hv =
      let row : List ℕ = p.row.items in
      ap (plus K (plus K u v))
      (ap (λ t. multiple K t row) (ap K.neg (part-plus n p u v fit hu hv)
      ∙ neg_of_sum K h (pivot_multiple K p u) (pivot_multiple K p v))
      ∙ multiple-add K h (K.neg (pivot_multiple K p u)) (K.neg (pivot_multiple K p v)) row)
      ∙ plus-cross K h u v (multiple K (K.neg (pivot_multiple K p u)) row)
      (multiple K (K.neg (pivot_multiple K p v)) row)

  part-multiple : (n k : ℕ) (p : Pivot) (u : List ℕ) → IsPivot K n p → Vector K n u
      → pivot_multiple K p (multiple K k u) ≡ K.mul k (pivot_multiple K p u)
  part-multiple n k p u fit hu =
      ap (λ t. K.mul t p.inverse) (sym (multiple-at K k p.place u (omega (arith, fit.place, vector-size K n u hu))))
      ∙ h.mul_assoc k (get_or u p.place 0) p.inverse

  cleared-multiple : (n k : ℕ) (p : Pivot) (u : List ℕ) → IsPivot K n p → Vector K n u
      → pivot_remainder K p (multiple K k u) ≡ multiple K k (pivot_remainder K p u)
  cleared-multiple n k p u fit hu =
      let row : List ℕ = p.row.items in
      ap (plus K (multiple K k u))
      (ap (λ t. multiple K t row) (ap K.neg (part-multiple n k p u fit hu) ∙ sym (mul_neg K h k (pivot_multiple K p u)))
      ∙ multiple-mul K h k (K.neg (pivot_multiple K p u)) row)
      ∙ sym (multiple-plus K h k u (multiple K (K.neg (pivot_multiple K p u)) row))

  remainder-plus : (n : ℕ) (ps : List Pivot) (u v : List ℕ) → All (IsPivot K n) ps → Vector K n u → Vector K n v
      → remainder K ps (plus K u v) ≡ plus K (remainder K ps u) (remainder K ps v)
  unfolding remainder
  remainder-plus n [] u v fit hu hv = refl
  remainder-plus n (p ∷ ps) u v fit hu hv =
      let first : IsPivot K n p = All-head (IsPivot K n) p ps fit in
      ap (remainder K ps) (cleared-plus n p u v first hu hv)
      ∙ remainder-plus n ps (pivot_remainder K p u) (pivot_remainder K p v) (All-tail (IsPivot K n) p ps fit)
      (cleared-vector K h n p u first hu) (cleared-vector K h n p v first hv)

  remainder-multiple : (n k : ℕ) (ps : List Pivot) (u : List ℕ) → All (IsPivot K n) ps → Vector K n u
      → remainder K ps (multiple K k u) ≡ multiple K k (remainder K ps u)
  unfolding remainder
  remainder-multiple n k [] u fit hu = refl
  remainder-multiple n k (p ∷ ps) u fit hu =
      let first : IsPivot K n p = All-head (IsPivot K n) p ps fit in
      ap (remainder K ps) (cleared-multiple n k p u first hu)
      ∙ remainder-multiple n k ps (pivot_remainder K p u) (All-tail (IsPivot K n) p ps fit)
      (cleared-vector K h n p u first hu)

  remainder-zeros : (n : ℕ) (ps : List Pivot) → All (IsPivot K n) ps → remainder K ps (zeros n) ≡ zeros n
  unfolding remainder
  remainder-zeros n [] fit = refl
  remainder-zeros n (p ∷ ps) fit =
      ap (remainder K ps) (cleared-zeros K h n p (All-head (IsPivot K n) p ps fit))
      ∙ remainder-zeros n ps (All-tail (IsPivot K n) p ps fit)

  -- a combination of vectors that are reduced to zero is reduced to zero
  pub remainder-combination : (m n k : ℕ) (ps : List Pivot) (by : List ℕ) (vs : List (List ℕ)) → All (IsPivot K n) ps
      → Matrix K m n vs
      → ((j : ℕ) → j < k → remainder K ps (get_or vs j []) ≡ zeros n) → k ≤ m
      → remainder K ps (combination K n by (take k vs)) ≡ zeros n
  remainder-combination m n k ps [] vs fit hv z l = remainder-zeros n ps fit
  remainder-combination m n zero ps (c ∷ by) vs fit hv z l = remainder-zeros n ps fit
  remainder-combination m n (suc k) ps (c ∷ by) [] fit hv z l = remainder-zeros n ps fit
  remainder-combination zero n (suc k) ps (c ∷ by) (v ∷ vs) fit hv z l = absurd hv
  remainder-combination (suc m) n (suc k) ps (c ∷ by) (v ∷ vs) fit hv z l =
      remainder-plus n ps (multiple K c v) (combination K n by (take k vs)) fit (multiple-vector K h n c v hv.0)
      (combination-vector K h k n by (take k vs) (take-matrix m n k vs hv.1 (omega arith)))
      ∙ ap₂ (plus K)
      (remainder-multiple n c ps v fit hv.0 ∙ ap (multiple K c) (z 0 (omega arith)) ∙ multiple-zeros K h c n)
      (remainder-combination m n k ps by vs fit hv.1 (λ j low. z (suc j) (omega arith)) (omega arith))
      ∙ zeros-plus-zeros K h n
    where
      take-matrix : (m' n' k' : ℕ) (ws : List (List ℕ)) → Matrix K m' n' ws → k' ≤ m' → Matrix K k' n' (take k' ws)
      take-matrix m' n' zero ws hw l' = tt
      take-matrix zero n' (suc k') ws hw l' = absurd (omega arith)
      take-matrix (suc m') n' (suc k') [] hw l' = absurd hw
      take-matrix (suc m') n' (suc k') (w ∷ ws) hw l' = (hw.0, take-matrix m' n' k' ws hw.1 (omega arith))

  -- coordinate i of u is the combination of its earlier coordinates
  pub record Given (by : List ℕ) (i : ℕ) (u : List ℕ) : Type 0 where
    pub is : dot K by (take i u) ≡ get_or u i 0

  given-plus : (n i : ℕ) (by u v : List ℕ) → i < n → Vector K n u → Vector K n v → Given by i u → Given by i v
      → Given by i (plus K u v)
  given-plus n i by u v l hu hv gu gv = record {
    is = ap (dot K by) (take-plus K i u v)
        ∙ dot-plus K h i by (take i u) (take i v) (take-vector K n i u hu (omega arith))
        (take-vector K n i v hv (omega arith))
        ∙ ap₂ K.add gu.is gv.is
        ∙ sym (plus-at K n i u v hu hv l);
  }

  given-multiple : (n i k : ℕ) (by u : List ℕ) → i < n → Vector K n u → Given by i u → Given by i (multiple K k u)
  given-multiple n i k by u l hu gu = record {
    is = ap (dot K by) (take-map (K.mul k) i u)
        ∙ dot-multiple K h k by (take i u)
        ∙ ap (K.mul k) gu.is
        ∙ multiple-at K k i u (omega (arith, vector-size K n u hu));
  }

  pub given-remainder : (n i : ℕ) (by : List ℕ) (ps : List Pivot) (u : List ℕ) → i < n → All (IsPivot K n) ps
      → All (λ p. Given by i p.row.items) ps → Vector K n u
      → Given by i u → Given by i (remainder K ps u)
  unfolding remainder
  given-remainder n i by [] u l fit rows hu gu = gu
  given-remainder n i by (p ∷ ps) u l fit rows hu gu =
      let first : IsPivot K n p = All-head (IsPivot K n) p ps fit in
      let row : List ℕ = p.row.items in
      let k : ℕ = K.neg (pivot_multiple K p u) in
      let row_vector : Vector K n row = to_vector K n row first.row in
      given-remainder n i by ps (pivot_remainder K p u) l (All-tail (IsPivot K n) p ps fit)
      (All-tail (λ q. Given by i q.row.items) p ps rows) (cleared-vector K h n p u first hu)
      (given-plus n i by u (multiple K k row) l hu (multiple-vector K h n k row row_vector) gu
      (given-multiple n i k by row l row_vector (All-head (λ q. Given by i q.row.items) p ps rows)))

  -- and a vector has its first entry that is not 0 elsewhere
  pub given-not_first : (i place : ℕ) (by u : List ℕ) → take place u ≡ zeros place → get_or u place 0 ≢ 0 → Given by i u
      → place ≢ i
  given-not_first i place by u first not_zero gu e =
      not_zero (sym (subst (λ t. dot K by (take t u) ≡ get_or u t 0) (sym e) gu.is) ∙ ap (dot K by) first
      ∙ dot-zeros K h place by)
