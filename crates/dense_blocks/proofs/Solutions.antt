-- What an elimination says of a vector: a combination, or a functional that separates it.
use Rattle.std.proofs.Common.{◌≡◌, ◌≢◌, ℕ, zero, suc, ◌<◌, List, [], ◌∷◌, Vec, length, take, get_or, All, refl, sym, ap}
use Rattle.std.proofs.Common.{ap₂, ◌∙◌, subst, arith}
use Rattle.std.proofs.lemmas.List.{length-map, get_or_default}
use Rattle.std.proofs.lemmas.List.Elements.{All-head, All-tail, All-get_or}
use Rattle.dense_blocks.specs.Field.{Ops}
use Rattle.dense_blocks.specs.FieldLaws.{IsField}
use Rattle.dense_blocks.specs.Vectors.{IsVector, zeros, plus, multiple, dot, combination}
use Rattle.dense_blocks.specs.MatrixFacts.{IsMatrix}
use Rattle.dense_blocks.specs.Elimination.{IsPivot, rows, remainder, parts, PullsBack, Eliminates}
use Rattle.dense_blocks.specs.Solutions.{lists, Separates}
use Rattle.dense_blocks.specs.declared.solution.Pivot.{Pivot}
use Rattle.dense_blocks.proofs.ScalarLaws.{zero_below, zero_add, mul_zero, inv_mul}
use Rattle.dense_blocks.proofs.Shapes.{Vector, Matrix, to_vector, matrix_of_rows, vector-size, vector-scalars}
use Rattle.dense_blocks.proofs.VectorLaws.{zeros-plus, multiple-vector, combination-vector, dot-zeros, dot-plus}
use Rattle.dense_blocks.proofs.VectorLaws.{dot-multiple}
use Rattle.dense_blocks.proofs.Reductions.{remainder-parts, remainder-vector, zeros-at}
use Rattle.dense_blocks.proofs.EliminationSteps.{rows-matrix, pulls_back-leading}

-- lists of one length, of scalars each, are the rows of a matrix
pub lists_matrix : {Z : Type 0} (K : Ops) (n : ℕ) (vs : List (Vec ℕ Z)) → All (λ c. length c.items ≡ n) vs
    → All (λ c. All (λ a. a < K.order) c.items) vs
    → IsMatrix K (length vs) n (lists vs)
lists_matrix K n vs sizes scalars = record { size = length-map vs (λ v. v.items); rows_are = vectors vs sizes scalars }
  where
    vectors : {Z : Type 0} (ws : List (Vec ℕ Z)) → All (λ c. length c.items ≡ n) ws
        → All (λ c. All (λ a. a < K.order) c.items) ws → All (IsVector K n) (lists ws)
    vectors [] s t k d l = absurd (omega arith)
    vectors (w ∷ ws) s t zero d l = record {
      size = All-head (λ c. length c.items ≡ n) w ws s;
      scalars = All-head (λ c. All (λ a. a < K.order) c.items) w ws t;
    }
    vectors (w ∷ ws) s t (suc k) d l =
        vectors ws (All-tail (λ c. length c.items ≡ n) w ws s) (All-tail (λ c. All (λ a. a < K.order) c.items) w ws t) k
        d (omega arith)

module _ (K : Ops) (h : IsField K) where
  -- a vector that is reduced to zero is the combination of its parts
  pub remainder-none : (n : ℕ) (ps : List Pivot) (v : List ℕ) → All (IsPivot K n) ps → IsVector K n v
      → remainder K ps v ≡ zeros n
      → combination K n (parts K ps v) (rows ps) ≡ v
  remainder-none n ps v fit hv e =
      let taken : List ℕ = combination K n (parts K ps v) (rows ps) in
      sym (zeros-plus K h n taken (combination-vector K h (length ps) n (parts K ps v) (rows ps)
      (rows-matrix K h n ps fit)))
      ∙ ap (λ t. plus K t taken) (sym e)
      ∙ remainder-parts K h n ps v fit (to_vector K n v hv)

  -- a functional that is 0 on the vectors is 0 on their combinations
  dot-combination-zero : (m n : ℕ) (p c : List ℕ) (vs : List (List ℕ)) → Matrix K m n vs → All (λ v. dot K p v ≡ 0) vs
      → dot K p (combination K n c vs) ≡ 0
  dot-combination-zero m n p [] vs hv z = dot-zeros K h n p
  dot-combination-zero m n p (x ∷ c) [] hv z = dot-zeros K h n p
  dot-combination-zero zero n p (x ∷ c) (v ∷ vs) hv z = absurd hv
  dot-combination-zero (suc m) n p (x ∷ c) (v ∷ vs) hv z =
      dot-plus K h n p (multiple K x v) (combination K n c vs) (multiple-vector K h n x v hv.0)
      (combination-vector K h m n c vs hv.1)
      ∙ ap₂ K.add
      (dot-multiple K h x p v ∙ ap (K.mul x) (All-head (λ w. dot K p w ≡ 0) v vs z) ∙ mul_zero K h x)
      (dot-combination-zero m n p c vs hv.1 (All-tail (λ w. dot K p w ≡ 0) v vs z))
      ∙ zero_add K h 0 (zero_below K h)

  -- where a functional separates, there is no combination
  pub separates-none : (m : ℕ) (columns : List (List ℕ)) (v p c : List ℕ) → Matrix K m (length v) columns
      → Separates K columns v p
      → combination K (length v) c columns ≢ v
  separates-none m columns v p c hc apart e =
      let none : dot K p v ≡ 0 = ap (dot K p) (sym e) ∙ dot-combination-zero m (length v) p c columns hc apart.zero in
      omega (arith, none, apart.one)

  -- a functional that reads the first coordinate after reduction separates
  pub pulls_back-separates : (n : ℕ) (columns : List (List ℕ)) (ps : List Pivot) (v p : List ℕ) (place k : ℕ)
      → length v ≡ n → IsVector K n v → All (IsVector K n) columns
      → Eliminates K n columns (length columns) ps → place < n → take place (remainder K ps v) ≡ zeros place
      → get_or (remainder K ps v) place 0 ≢ 0
      → k ≡ K.inv (get_or (remainder K ps v) place 0) → PullsBack K n ps place k p → Separates K columns v p
  pulls_back-separates n columns ps v p place k size hv hc all inside first not_zero is_k pulls =
      let at : ℕ = get_or (remainder K ps v) place 0 in
      let vector : Vector K n v = to_vector K n v hv in
      let rest : Vector K n (remainder K ps v) = remainder-vector K h n ps v all.fit vector in
      let low : at < K.order =
      All-get_or (λ a. a < K.order) (remainder K ps v) place 0 (omega (arith, vector-size K n (remainder K ps v) rest))
      (vector-scalars K n (remainder K ps v) rest) in
      record {
        functional = subst (λ t. IsVector K t p) (sym size) pulls.functional;
        zero = λ j d l.
            pulls.gives (get_or columns j d) (hc j d l)
            ∙ ap (λ t. K.mul k (get_or (remainder K ps t) place 0)) (get_or_default columns j d [] l)
            ∙ ap (λ t. K.mul k (get_or t place 0)) (all.zero j l)
            ∙ ap (K.mul k) (zeros-at K h n place)
            ∙ mul_zero K h k;
        one = pulls.gives v hv ∙ ap (λ t. K.mul t at) is_k ∙ inv_mul K h at low not_zero;
        leading = λ i l earlier.
            pulls_back-leading K h n columns (length columns) ps v p place k i
            (matrix_of_rows K (length columns) n columns refl hc) vector all first not_zero pulls
            (omega arith) earlier;
      }
