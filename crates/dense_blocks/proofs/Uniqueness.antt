-- The leading answers of an equation are unique: the difference of two of them is zero.
use Rattle.std.proofs.Common.{◌≡◌, ◌≢◌, ◌⊎◌, inl, inr, ℕ, zero, suc, ◌<◌, ◌≤◌, List, [], ◌∷◌, ◌++◌, length, take}
use Rattle.std.proofs.Common.{get_or, All, refl, sym, ap, ap₂, ◌∙◌, subst, arith, add-one}
use Rattle.std.proofs.lemmas.Bool.{cases_eq}
use Rattle.std.proofs.lemmas.List.{take_all, take_more, get_or-take}
use Rattle.std.proofs.lemmas.List.Elements.{All-cons, All-head, All-tail, All-get_or}
use Rattle.dense_blocks.specs.Field.{Ops}
use Rattle.dense_blocks.specs.FieldLaws.{IsField}
use Rattle.dense_blocks.specs.Vectors.{AllScalars, IsVector, zeros, plus, multiple, dot, combination}
use Rattle.dense_blocks.specs.MatrixFacts.{negative}
use Rattle.dense_blocks.specs.Solutions.{IsDependent, IsDependentCoordinate, Separates}
use Rattle.dense_blocks.specs.LeadingAnswers.{OneLeadingCombination, OneLeadingFunctional}
use Rattle.dense_blocks.proofs.ScalarLaws.{zero_below, zero_add, neg_unique, neg_mul, mul_neg, mul_zero}
use Rattle.dense_blocks.proofs.ScalarLaws.{zero_mul, inv_mul, inv_mul_mul}
use Rattle.dense_blocks.proofs.Shapes.{Vector, Matrix, to_vector, vector-size, vector-scalars, vector-nil}
use Rattle.dense_blocks.proofs.Shapes.{matrix_of_rows, row-vector}
use Rattle.dense_blocks.proofs.VectorLaws.{plus-vector, negative-vector, multiple-vector, combination-vector}
use Rattle.dense_blocks.proofs.VectorLaws.{plus-zeros, plus-negative, negative-unique, same-by-difference}
use Rattle.dense_blocks.proofs.VectorLaws.{multiple-zero, multiple-one, multiple-mul, multiple-neg, multiple-negative}
use Rattle.dense_blocks.proofs.VectorLaws.{combination-plus, combination-negative, combination-multiple, plus-dot}
use Rattle.dense_blocks.proofs.VectorLaws.{negative-dot, multiple-dot, dot-below}
use Rattle.dense_blocks.proofs.RowSteps.{zeros-push}
use Rattle.dense_blocks.proofs.Reductions.{combination-take, combination-last}
use Rattle.dense_blocks.proofs.Leading.{plus-at, take-vector}

-- a list and its last member
last_apart : (k : ℕ) (d : List ℕ) → length d ≡ suc k → d ≡ take k d ++ get_or d k 0 ∷ []
last_apart k d e = sym (take_all (suc k) d (omega arith)) ∙ ap (λ t. take t d) (sym (add-one k))
    ∙ take_more d k 0 (omega arith)

dot-take : (K : Ops) (k : ℕ) (p u : List ℕ) → length p ≤ k → dot K p (take k u) ≡ dot K p u
dot-take K k [] u l = refl
dot-take K zero (a ∷ p) u l = absurd (omega arith)
dot-take K (suc k) (a ∷ p) [] l = refl
dot-take K (suc k) (a ∷ p) (b ∷ u) l = ap (K.add (K.mul a b)) (dot-take K k p u (omega arith))

negative-at : (K : Ops) (i : ℕ) (v : List ℕ) → i < length v → get_or v i 0 ≡ 0 → get_or (negative K v) i 0 ≡ K.neg 0
negative-at K i [] l e = absurd (omega arith)
negative-at K zero (a ∷ v) l e = ap K.neg e
negative-at K (suc i) (a ∷ v) l e = negative-at K i v (omega arith) e

module _ (K : Ops) (h : IsField K) where
  -- the last coordinate apart
  dot-last : (p u : List ℕ) (x : ℕ) → dot K (p ++ x ∷ []) u ≡ K.add (dot K p (take (length p) u))
      (K.mul x (get_or u (length p) 0))
  dot-last [] [] x = sym (zero_add K h (K.mul x 0) (h.mul_below x 0) ∙ mul_zero K h x)
  dot-last [] (b ∷ u) x = h.add_comm (K.mul x b) 0
  dot-last (a ∷ p) [] x = sym (zero_add K h (K.mul x 0) (h.mul_below x 0) ∙ mul_zero K h x)
  dot-last (a ∷ p) (b ∷ u) x =
      ap (K.add (K.mul a b)) (dot-last p u x)
      ∙ sym (h.add_assoc (K.mul a b) (dot K p (take (length p) u)) (K.mul x (get_or u (length p) 0)))

  -- a + x b = 0, solved for b
  solved : (a b x : ℕ) → x < K.order → x ≢ 0 → b < K.order → K.add a (K.mul x b) ≡ 0 → K.mul (K.neg (K.inv x)) a ≡ b
  solved a b x hx not hb e =
      neg_mul K h (K.inv x) a ∙ sym (mul_neg K h (K.inv x) a)
      ∙ ap (K.mul (K.inv x)) (sym (neg_unique K h a (K.mul x b) (h.mul_below x b) e))
      ∙ inv_mul_mul K h x b hx not hb

  solved_vector : (n : ℕ) (a b : List ℕ) (x : ℕ) → x < K.order → x ≢ 0 → Vector K n a → Vector K n b
      → plus K a (multiple K x b) ≡ zeros n
      → multiple K (K.neg (K.inv x)) a ≡ b
  solved_vector n a b x hx not ha hb e =
      multiple-neg K h (K.inv x) a ∙ sym (multiple-negative K h (K.inv x) a)
      ∙ ap (multiple K (K.inv x)) (sym (negative-unique K h n a (multiple K x b) ha (multiple-vector K h n x b hb) e))
      ∙ sym (multiple-mul K h (K.inv x) x b)
      ∙ ap (λ t. multiple K t b) (inv_mul K h x hx not) ∙ multiple-one K h n b hb

  scalar-at : (k i : ℕ) (d : List ℕ) → Vector K k d → i < k → get_or d i 0 < K.order
  scalar-at k i d hd l = All-get_or (λ a. a < K.order) d i 0 (omega (arith, vector-size K k d hd))
      (vector-scalars K k d hd)

  -- a number at a place past the end is 0
  entry-below : (i : ℕ) (u : List ℕ) → All (λ a. a < K.order) u → get_or u i 0 < K.order
  entry-below i [] s = zero_below K h
  entry-below zero (a ∷ u) s = All-head (λ b. b < K.order) a u s
  entry-below (suc i) (a ∷ u) s = entry-below i u (All-tail (λ b. b < K.order) a u s)

  -- coefficients whose combination is zero, and which are 0 at each vector that earlier ones give
  combination-leading : (m n k : ℕ) (vs : List (List ℕ)) (d : List ℕ) → Matrix K m n vs → length vs ≡ m → k ≤ m
      → Vector K k d → combination K n d vs ≡ zeros n
      → ((i : ℕ) → i < k → IsDependent K n vs i → get_or d i 0 ≡ 0) → d ≡ zeros k
  combination-leading m n zero vs d hv size l hd e leads = vector-nil K d hd
  combination-leading m n (suc k) vs d hv size l hd e leads =
      by_last (cases_eq (get_or d k 0) 0)
      (λ rest. combination-leading m n k vs (take k d) hv size (omega arith)
      (take-vector K (suc k) k d hd (omega arith)) rest (λ i low given. get_or-take k d i 0 low
      ∙ leads i (omega arith) given))
    where
      apart : d ≡ take k d ++ get_or d k 0 ∷ []
      apart = last_apart k d (vector-size K (suc k) d hd)

      prefix : Vector K k (take k d)
      prefix = take-vector K (suc k) k d hd (omega arith)

      sum : plus K (combination K n (take k d) vs) (multiple K (get_or d k 0) (get_or vs k [])) ≡ zeros n
      sum =
          ap (λ j. plus K (combination K n (take k d) vs) (multiple K (get_or d k 0) (get_or vs j [])))
          (sym (vector-size K k (take k d) prefix))
          ∙ sym (combination-last K h m n (take k d) (get_or d k 0) vs
          (omega (arith, vector-size K k (take k d) prefix))
          hv)
          ∙ ap (λ t. combination K n t vs) (sym apart) ∙ e

      last : Vector K n (get_or vs k [])
      last = row-vector K m n vs k hv (omega arith)

      by_last : (get_or d k 0 ≡ 0) ⊎ (get_or d k 0 ≡ 0 → ⊥)
          → (combination K n (take k d) vs ≡ zeros n → take k d ≡ zeros k) → d ≡ zeros (suc k)
      by_last (inl none) again =
          let rest : combination K n (take k d) vs ≡ zeros n =
          sym (plus-zeros K h n (combination K n (take k d) vs) (combination-vector K h m n (take k d) vs hv))
          ∙ ap (plus K (combination K n (take k d) vs)) (sym (multiple-zero K h n (get_or vs k []) last)
          ∙ ap (λ t. multiple K t (get_or vs k [])) (sym none))
          ∙ sum in
          apart ∙ ap₂ (λ s x. s ++ x ∷ []) (again rest) none ∙ zeros-push k
      by_last (inr some) again =
          let t : ℕ = K.neg (K.inv (get_or d k 0)) in
          absurd (some (leads k (omega arith) (record {
            by = multiple K t (take k d);
            is = combination-multiple K h n t (take k d) (take k vs)
                ∙ ap (multiple K t) (combination-take K n k (take k d) vs
                (omega (arith, vector-size K k (take k d) prefix)))
                ∙ solved_vector n (combination K n (take k d) vs) (get_or vs k []) (get_or d k 0)
                (scalar-at (suc k) k d hd (omega arith)) some
                (combination-vector K h m n (take k d) vs hv) last sum;
          })))

  -- a functional that is 0 on all of U, and 0 at each coordinate that earlier ones give
  functional-leading : (k : ℕ) (U : List (List ℕ)) (d : List ℕ) → All (AllScalars K) U → Vector K k d
      → All (λ u. dot K d u ≡ 0) U
      → ((i : ℕ) (by : List ℕ) → i < k → All (λ u. dot K by (take i u) ≡ get_or u i 0) U → get_or d i 0 ≡ 0)
      → d ≡ zeros k
  functional-leading zero U d hu hd e leads = vector-nil K d hd
  functional-leading (suc k) U d hu hd e leads =
      by_last (cases_eq (get_or d k 0) 0)
      (λ rest. functional-leading k U (take k d) hu (take-vector K (suc k) k d hd (omega arith)) rest
      (λ i by low given. get_or-take k d i 0 low ∙ leads i by (omega arith) given))
    where
      apart : d ≡ take k d ++ get_or d k 0 ∷ []
      apart = last_apart k d (vector-size K (suc k) d hd)

      prefix : Vector K k (take k d)
      prefix = take-vector K (suc k) k d hd (omega arith)

      size : length (take k d) ≡ k
      size = vector-size K k (take k d) prefix

      sum : (u : List ℕ) → dot K d u ≡ 0 → K.add (dot K (take k d) (take k u)) (K.mul (get_or d k 0) (get_or u k 0)) ≡ 0
      sum u z =
          ap (λ j. K.add (dot K (take k d) (take j u)) (K.mul (get_or d k 0) (get_or u j 0))) (sym size)
          ∙ sym (dot-last (take k d) u (get_or d k 0)) ∙ ap (λ t. dot K t u) (sym apart) ∙ z

      rest : get_or d k 0 ≡ 0 → (u : List ℕ) → dot K d u ≡ 0 → dot K (take k d) u ≡ 0
      rest none u z =
          let a : ℕ = dot K (take k d) (take k u) in
          sym (dot-take K k (take k d) u (omega (arith, size)))
          ∙ sym (h.add_zero a (dot-below K h (take k d) (take k u)))
          ∙ ap (K.add a) (sym (zero_mul K h (get_or u k 0)) ∙ ap (λ x. K.mul x (get_or u k 0)) (sym none))
          ∙ sum u z

      by_last : (get_or d k 0 ≡ 0) ⊎ (get_or d k 0 ≡ 0 → ⊥) → (All (λ u. dot K (take k d) u ≡ 0) U → take k d ≡ zeros k)
          → d ≡ zeros (suc k)
      by_last (inl none) again =
          apart ∙ ap₂ (λ s x. s ++ x ∷ []) (again (λ j w low. rest none (get_or U j w) (e j w low))) none ∙ zeros-push k
      by_last (inr some) again =
          let t : ℕ = K.neg (K.inv (get_or d k 0)) in
          absurd (some (leads k (multiple K t (take k d)) (omega arith) (λ j w low.
          let u : List ℕ = get_or U j w in
          multiple-dot K h t (take k d) (take k u)
          ∙ solved (dot K (take k d) (take k u)) (get_or u k 0) (get_or d k 0) (scalar-at (suc k) k d hd (omega arith))
          some (entry-below k u (hu j w low)) (sum u (e j w low)))))

  -- the difference of two vectors is 0 where both are
  difference-at : (n i : ℕ) (u v : List ℕ) → Vector K n u → Vector K n v → i < n → get_or u i 0 ≡ 0 → get_or v i 0 ≡ 0
      → get_or (plus K u (negative K v)) i 0 ≡ 0
  difference-at n i u v hu hv l eu ev =
      plus-at K n i u (negative K v) hu (negative-vector K h n v hv) l
      ∙ ap₂ K.add eu (negative-at K i v (omega (arith, vector-size K n v hv)) ev) ∙ h.add_neg 0

  combinations-same : (m n : ℕ) (vs : List (List ℕ)) (c d : List ℕ) → Matrix K m n vs → length vs ≡ m → Vector K m c
      → Vector K m d
      → combination K n c vs ≡ combination K n d vs → ((i : ℕ) → i < m → IsDependent K n vs i → get_or c i 0 ≡ 0)
      → ((i : ℕ) → i < m → IsDependent K n vs i → get_or d i 0 ≡ 0) → c ≡ d
  combinations-same m n vs c d hv size hc hd same lc ld =
      let minus_d : Vector K m (negative K d) = negative-vector K h m d hd in
      same-by-difference K h m c d hc hd
      (combination-leading m n m vs (plus K c (negative K d)) hv size (omega arith)
      (plus-vector K h m c (negative K d) hc minus_d)
      (combination-plus K h m n c (negative K d) vs hc minus_d
      ∙ ap₂ (plus K) same (combination-negative K h n d vs)
      ∙ plus-negative K h n (combination K n d vs) (combination-vector K h m n d vs hv))
      (λ i l given. difference-at m i c d hc hd l (lc i l given) (ld i l given)))

  functionals-same : (n : ℕ) (columns : List (List ℕ)) (v p q : List ℕ) → length v ≡ n → All (IsVector K n) columns
      → AllScalars K v → Separates K columns v p → Separates K columns v q → p ≡ q
  functionals-same n columns v p q size hc hv sp sq =
      let hp : Vector K n p = subst (λ k. Vector K k p) size (to_vector K (length v) p sp.functional) in
      let hq : Vector K n q = subst (λ k. Vector K k q) size (to_vector K (length v) q sq.functional) in
      let minus_q : Vector K n (negative K q) = negative-vector K h n q hq in
      let on : (u : List ℕ) → dot K p u ≡ dot K q u → dot K (plus K p (negative K q)) u ≡ 0 =
      λ u e. plus-dot K h n p (negative K q) u hp minus_q ∙ ap₂ K.add e (negative-dot K h q u)
      ∙ h.add_neg (dot K q u) in
      let P : List ℕ → Type 0 = λ u. dot K (plus K p (negative K q)) u ≡ 0 in
      same-by-difference K h n p q hp hq
      (functional-leading n (v ∷ columns) (plus K p (negative K q))
      (All-cons (AllScalars K) v columns hv (λ j w l. (hc j w l).scalars))
      (plus-vector K h n p (negative K q) hp minus_q)
      (All-cons P v columns (on v (sp.one ∙ sym sq.one))
      (λ j w l. on (get_or columns j w) (sp.zero j w l ∙ sym (sq.zero j w l))))
      (λ i by l given.
      let earlier : IsDependentCoordinate K columns v i =
      record {
        by = by;
        of_columns = All-tail (λ u. dot K by (take i u) ≡ get_or u i 0) v columns given;
        of_v =
            All-head (λ u. dot K by (take i u) ≡ get_or u i 0) v columns given;
      } in
      difference-at n i p q hp hq l (sp.leading i (omega arith) earlier) (sq.leading i (omega arith) earlier)))

pub one_leading_combination : OneLeadingCombination
one_leading_combination K h columns v c d hc first second =
    combinations-same K h (length columns) (length v) columns c d
    (matrix_of_rows K (length columns) (length v) columns refl hc) refl
    (to_vector K (length columns) c first.coefficients) (to_vector K (length columns) d second.coefficients)
    (first.gives ∙ sym second.gives) first.leading second.leading

pub one_leading_functional : OneLeadingFunctional
one_leading_functional K h columns v p q hc hv first second = functionals-same K h (length v) columns v p q refl hc hv
    first second
