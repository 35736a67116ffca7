-- Vectors reduced by pivots, and what a reduction takes off.
use Rattle.std.proofs.Common.{◌≡◌, ℕ, zero, suc, ◌<◌, ◌≤◌, List, [], ◌∷◌, ◌++◌, length, take, get_or, set, All, refl}
use Rattle.std.proofs.Common.{sym, ap, ◌∙◌, arith}
use Rattle.std.proofs.lemmas.List.Elements.{All-head, All-tail, All-get_or}
use Rattle.dense_blocks.specs.Field.{Ops}
use Rattle.dense_blocks.specs.FieldLaws.{IsField}
use Rattle.dense_blocks.specs.Vectors.{zeros, plus, multiple, dot, combination}
use Rattle.dense_blocks.specs.MatrixFacts.{negative}
use Rattle.dense_blocks.specs.Elimination.{IsPivot, rows, pivot_multiple, pivot_remainder, remainder, parts}
use Rattle.dense_blocks.specs.declared.solution.Pivot.{Pivot}
use Rattle.dense_blocks.proofs.ScalarLaws.{neg_zero, zero_mul, add_mul}
use Rattle.dense_blocks.proofs.Shapes.{Vector, Matrix, to_vector}
use Rattle.dense_blocks.proofs.VectorLaws.{plus-vector, multiple-vector, zeros-plus, plus-zeros, zeros-plus-zeros}
use Rattle.dense_blocks.proofs.VectorLaws.{plus-left-comm, plus-comm, plus-assoc, plus-negative, multiple-zero}
use Rattle.dense_blocks.proofs.VectorLaws.{multiple-neg, multiple-neg_one, multiple-add}

-- the coefficients beyond the vectors change nothing
pub combination-take : (K : Ops) (n k : ℕ) (cs : List ℕ) (vs : List (List ℕ)) → length cs ≤ k
    → combination K n cs (take k vs) ≡ combination K n cs vs
combination-take K n k [] vs l = refl
combination-take K n zero (c ∷ cs) vs l = absurd (omega arith)
combination-take K n (suc k) (c ∷ cs) [] l = refl
combination-take K n (suc k) (c ∷ cs) (v ∷ vs) l =
    ap (plus K (multiple K c v)) (combination-take K n k cs vs (omega arith))

module _ (K : Ops) (h : IsField K) where
  pub cleared-vector : (n : ℕ) (p : Pivot) (u : List ℕ) → IsPivot K n p → Vector K n u
      → Vector K n (pivot_remainder K p u)
  cleared-vector n p u fit hu =
      plus-vector K h n u (multiple K (K.neg (pivot_multiple K p u)) p.row.items) hu
      (multiple-vector K h n (K.neg (pivot_multiple K p u)) p.row.items (to_vector K n p.row.items fit.row))

  pub remainder-vector : (n : ℕ) (ps : List Pivot) (u : List ℕ) → All (IsPivot K n) ps → Vector K n u
      → Vector K n (remainder K ps u)
  unfolding remainder
  remainder-vector n [] u fit hu = hu
  remainder-vector n (p ∷ ps) u fit hu =
      remainder-vector n ps (pivot_remainder K p u) (All-tail (IsPivot K n) p ps fit)
      (cleared-vector n p u (All-head (IsPivot K n) p ps fit) hu)

  pub parts-vector : (ps : List Pivot) (u : List ℕ) → Vector K (length ps) (parts K ps u)
  unfolding parts
  parts-vector [] u = tt
  parts-vector (p ∷ ps) u = (h.mul_below (get_or u p.place 0) p.inverse, parts-vector ps (pivot_remainder K p u))

  pub remainder-push : (ps : List Pivot) (q : Pivot) (u : List ℕ) → remainder K (ps ++ q ∷ []) u ≡ pivot_remainder K q
      (remainder K ps u)
  unfolding remainder
  remainder-push [] q u = refl
  remainder-push (p ∷ ps) q u = remainder-push ps q (pivot_remainder K p u)

  -- what was taken off and what is left make the vector
  pub remainder-parts : (n : ℕ) (ps : List Pivot) (u : List ℕ) → All (IsPivot K n) ps → Vector K n u
      → plus K (remainder K ps u) (combination K n (parts K ps u) (rows ps)) ≡ u
  unfolding remainder parts
  remainder-parts n [] u fit hu = plus-zeros K h n u hu
  remainder-parts n (p ∷ ps) u fit hu =
      let first : IsPivot K n p = All-head (IsPivot K n) p ps fit in
      let row : List ℕ = p.row.items in
      let k : ℕ = pivot_multiple K p u in
      let taken : List ℕ = multiple K k row in
      let left : List ℕ = pivot_remainder K p u in
      let taken_vector : Vector K n taken = multiple-vector K h n k row (to_vector K n row first.row) in
      plus-left-comm K h (remainder K ps left) taken (combination K n (parts K ps left) (rows ps))
      ∙ ap (plus K taken) (remainder-parts n ps left (All-tail (IsPivot K n) p ps fit) (cleared-vector n p u first hu))
      ∙ ap (λ t. plus K taken (plus K u t)) (multiple-neg K h k row)
      ∙ plus-left-comm K h taken u (negative K taken)
      ∙ ap (plus K u) (plus-negative K h n taken taken_vector)
      ∙ plus-zeros K h n u hu

  pub zeros-at : (n i : ℕ) → get_or (zeros n) i 0 ≡ 0
  zeros-at zero i = refl
  zeros-at (suc n) zero = refl
  zeros-at (suc n) (suc i) = zeros-at n i

  -- a reduction keeps zero, and takes the whole of its own row
  pub cleared-zeros : (n : ℕ) (p : Pivot) → IsPivot K n p → pivot_remainder K p (zeros n) ≡ zeros n
  cleared-zeros n p fit =
      ap (λ t. plus K (zeros n) (multiple K (K.neg (K.mul t p.inverse)) p.row.items)) (zeros-at n p.place)
      ∙ ap (λ t. plus K (zeros n) (multiple K (K.neg t) p.row.items)) (zero_mul K h p.inverse)
      ∙ ap (λ t. plus K (zeros n) (multiple K t p.row.items)) (neg_zero K h)
      ∙ ap (plus K (zeros n)) (multiple-zero K h n p.row.items (to_vector K n p.row.items fit.row))
      ∙ zeros-plus-zeros K h n

  pub cleared-row : (n : ℕ) (p : Pivot) → IsPivot K n p → pivot_remainder K p p.row.items ≡ zeros n
  cleared-row n p fit =
      let row : List ℕ = p.row.items in
      let row_vector : Vector K n row = to_vector K n row fit.row in
      let low : get_or row p.place 0 < K.order = All-get_or (λ a. a < K.order) row p.place 0
      (omega (arith, fit.place, fit.row.size)) fit.row.scalars in
      ap (λ t. plus K row (multiple K (K.neg (K.mul (get_or row p.place 0) t)) row)) fit.inverse_is
      ∙ ap (λ t. plus K row (multiple K (K.neg t) row)) (h.mul_inv (get_or row p.place 0) low fit.not_zero)
      ∙ ap (plus K row) (multiple-neg_one K h n row row_vector)
      ∙ plus-negative K h n row row_vector

  -- the functional p, changed at one place
  pub dot-set : (p u : List ℕ) (i a : ℕ) → i < length p → length p ≡ length u
      → dot K (set p i (K.add (get_or p i 0) a)) u ≡ K.add (dot K p u) (K.mul a (get_or u i 0))
  dot-set [] u i a l e = absurd (omega arith)
  dot-set (x ∷ p) [] i a l e = absurd (omega arith)
  dot-set (x ∷ p) (y ∷ u) zero a l e =
      ap (λ t. K.add t (dot K p u)) (add_mul K h x a y)
      ∙ h.add_assoc (K.mul x y) (K.mul a y) (dot K p u)
      ∙ ap (K.add (K.mul x y)) (h.add_comm (K.mul a y) (dot K p u))
      ∙ sym (h.add_assoc (K.mul x y) (dot K p u) (K.mul a y))
  dot-set (x ∷ p) (y ∷ u) (suc i) a l e =
      ap (K.add (K.mul x y)) (dot-set p u i a (omega arith) (omega arith))
      ∙ sym (h.add_assoc (K.mul x y) (dot K p u) (K.mul a (get_or u i 0)))

  -- a combination, changed in one coefficient
  pub combination-set : (n : ℕ) (c : List ℕ) (vs : List (List ℕ)) (i a : ℕ) → i < length c → length c ≡ length vs
      → combination K n (set c i (K.add (get_or c i 0) a)) vs ≡ plus K (combination K n c vs)
      (multiple K a (get_or vs i []))
  combination-set n [] vs i a l e = absurd (omega arith)
  combination-set n (x ∷ c) [] i a l e = absurd (omega arith)
  combination-set n (x ∷ c) (v ∷ vs) zero a l e =
      ap (λ t. plus K t (combination K n c vs)) (multiple-add K h x a v)
      ∙ plus-assoc K h (multiple K x v) (multiple K a v) (combination K n c vs)
      ∙ ap (plus K (multiple K x v)) (plus-comm K h (multiple K a v) (combination K n c vs))
      ∙ sym (plus-assoc K h (multiple K x v) (combination K n c vs) (multiple K a v))
  combination-set n (x ∷ c) (v ∷ vs) (suc i) a l e =
      ap (plus K (multiple K x v)) (combination-set n c vs i a (omega arith) (omega arith))
      ∙ sym (plus-assoc K h (multiple K x v) (combination K n c vs) (multiple K a (get_or vs i [])))

  -- the last coefficient apart
  pub combination-last : (m n : ℕ) (c : List ℕ) (x : ℕ) (vs : List (List ℕ)) → length c < length vs → Matrix K m n vs
      → combination K n (c ++ x ∷ []) vs ≡ plus K (combination K n c vs) (multiple K x (get_or vs (length c) []))
  combination-last m n c x [] l hv = absurd (omega arith)
  combination-last zero n c x (v ∷ vs) l hv = absurd hv
  combination-last (suc m) n [] x (v ∷ vs) l hv =
      plus-zeros K h n (multiple K x v) (multiple-vector K h n x v hv.0)
      ∙ sym (zeros-plus K h n (multiple K x v) (multiple-vector K h n x v hv.0))
  combination-last (suc m) n (y ∷ c) x (v ∷ vs) l hv =
      ap (plus K (multiple K y v)) (combination-last m n c x vs (omega arith) hv.1)
      ∙ sym (plus-assoc K h (multiple K y v) (combination K n c vs) (multiple K x (get_or vs (length c) [])))

  pub set-vector : (n i x : ℕ) (v : List ℕ) → x < K.order → Vector K n v → Vector K n (set v i x)
  set-vector zero i x [] l hv = tt
  set-vector zero i x (a ∷ v) l hv = absurd hv
  set-vector (suc n) i x [] l hv = absurd hv
  set-vector (suc n) zero x (a ∷ v) l hv = (l, hv.1)
  set-vector (suc n) (suc i) x (a ∷ v) l hv = (hv.0, set-vector n i x v l hv.1)
