-- Laws of spans: what is a combination of a list of vectors.
use Rattle.std.proofs.Common.{◌≡◌, ℕ, zero, suc, ◌<◌, List, [], ◌∷◌, ◌++◌, length, get_or, sym, ap, ◌∙◌, subst, arith}
use Rattle.std.proofs.lemmas.List.{length-append}
use Rattle.dense_blocks.specs.Field.{Ops}
use Rattle.dense_blocks.specs.FieldLaws.{IsField}
use Rattle.dense_blocks.specs.Vectors.{zeros, plus, multiple, combination}
use Rattle.dense_blocks.specs.MatrixFacts.{negative}
use Rattle.dense_blocks.specs.Spans.{IsCombination}
use Rattle.dense_blocks.proofs.ScalarLaws.{one_below}
use Rattle.dense_blocks.proofs.Shapes.{Vector, Matrix, to_vector, from_vector, vector-size, append-vector}
use Rattle.dense_blocks.proofs.VectorLaws.{zeros-vector, zeros-size, plus-vector, multiple-vector, negative-vector}
use Rattle.dense_blocks.proofs.VectorLaws.{combination-vector, combination-plus, combination-multiple}
use Rattle.dense_blocks.proofs.VectorLaws.{combination-negative, combination-zeros, combination-append}
use Rattle.dense_blocks.proofs.VectorLaws.{combination-push, zeros-plus, plus-zeros, multiple-one}

-- with coefficients in the form that proofs recurse on
pub combines : (K : Ops) (n : ℕ) (vs : List (List ℕ)) (v c : List ℕ) → Vector K (length vs) c → combination K n c vs ≡ v
    → IsCombination K n vs v
combines K n vs v c h e = record { coefficients = c; one_each = from_vector K (length vs) c h; gives = e }

module _ (K : Ops) (F : IsField K) (n : ℕ) where
  pub coefficients-vector : (vs : List (List ℕ)) (v : List ℕ) (s : IsCombination K n vs v)
      → Vector K (length vs) s.coefficients
  coefficients-vector vs v s = to_vector K (length vs) s.coefficients s.one_each

  -- a combination of vectors of n coordinates is one
  pub combination_is_vector : (m : ℕ) (vs : List (List ℕ)) (v : List ℕ) → Matrix K m n vs → IsCombination K n vs v
      → Vector K n v
  combination_is_vector m vs v h s = subst (Vector K n) s.gives (combination-vector K F m n s.coefficients vs h)

  pub spans-zeros : (m : ℕ) (vs : List (List ℕ)) → Matrix K m n vs → IsCombination K n vs (zeros n)
  spans-zeros m vs h = combines K n vs (zeros n) (zeros (length vs)) (zeros-vector K F (length vs))
      (combination-zeros K F (length vs) m n vs h)

  pub spans-plus : (vs : List (List ℕ)) (u v : List ℕ) → IsCombination K n vs u → IsCombination K n vs v
      → IsCombination K n vs (plus K u v)
  spans-plus vs u v s t =
      let hs = coefficients-vector vs u s in let ht = coefficients-vector vs v t in
      combines K n vs (plus K u v) (plus K s.coefficients t.coefficients)
      (plus-vector K F (length vs) s.coefficients t.coefficients hs ht)
      (combination-plus K F (length vs) n s.coefficients t.coefficients vs hs ht
      ∙ ap (λ x. plus K x (combination K n t.coefficients vs)) s.gives ∙ ap (plus K u) t.gives)

  pub spans-multiple : (vs : List (List ℕ)) (k : ℕ) (v : List ℕ) → IsCombination K n vs v
      → IsCombination K n vs (multiple K k v)
  spans-multiple vs k v s =
      combines K n vs (multiple K k v) (multiple K k s.coefficients)
      (multiple-vector K F (length vs) k s.coefficients (coefficients-vector vs v s))
      (combination-multiple K F n k s.coefficients vs ∙ ap (multiple K k) s.gives)

  pub spans-negative : (vs : List (List ℕ)) (v : List ℕ) → IsCombination K n vs v → IsCombination K n vs (negative K v)
  spans-negative vs v s =
      combines K n vs (negative K v) (negative K s.coefficients)
      (negative-vector K F (length vs) s.coefficients (coefficients-vector vs v s))
      (combination-negative K F n s.coefficients vs ∙ ap (negative K) s.gives)

  -- later vectors take no coefficient
  pub spans-append : (m : ℕ) (vs ws : List (List ℕ)) (v : List ℕ) → Matrix K m n vs → Matrix K (length ws) n ws
      → IsCombination K n vs v → IsCombination K n (vs ++ ws) v
  spans-append m vs ws v hv hw s =
      let hs = coefficients-vector vs v s in
      combines K n (vs ++ ws) v (s.coefficients ++ zeros (length ws))
      (subst (λ k. Vector K k (s.coefficients ++ zeros (length ws))) (sym (length-append vs ws))
      (append-vector K (length vs) (length ws) s.coefficients (zeros (length ws)) hs
      (zeros-vector K F (length ws))))
      (combination-append K F (length ws) n s.coefficients (zeros (length ws)) vs ws
      (vector-size K (length vs) s.coefficients hs) hw
      ∙ ap (plus K (combination K n s.coefficients vs)) (combination-zeros K F (length ws) (length ws) n ws hw)
      ∙ ap (λ x. plus K x (zeros n)) s.gives ∙ plus-zeros K F n v (combination_is_vector m vs v hv s))

  -- earlier vectors take no coefficient
  pub spans-behind : (vs ws : List (List ℕ)) (v : List ℕ) → Matrix K (length vs) n vs → Matrix K (length ws) n ws
      → IsCombination K n ws v → IsCombination K n (vs ++ ws) v
  spans-behind vs ws v hv hw s =
      let hs = coefficients-vector ws v s in
      combines K n (vs ++ ws) v (zeros (length vs) ++ s.coefficients)
      (subst (λ k. Vector K k (zeros (length vs) ++ s.coefficients)) (sym (length-append vs ws))
      (append-vector K (length vs) (length ws) (zeros (length vs)) s.coefficients (zeros-vector K F (length vs))
      hs))
      (combination-append K F (length ws) n (zeros (length vs)) s.coefficients vs ws (zeros-size (length vs)) hw
      ∙ ap (λ x. plus K x (combination K n s.coefficients ws)) (combination-zeros K F (length vs) (length vs) n vs hv)
      ∙ ap (plus K (zeros n)) s.gives ∙ zeros-plus K F n v (combination_is_vector (length ws) ws v hw s))

  -- the last vector is a combination of all
  pub spans-last : (m : ℕ) (vs : List (List ℕ)) (v : List ℕ) → Matrix K m n vs → Vector K n v
      → IsCombination K n (vs ++ v ∷ []) v
  spans-last m vs v hv h =
      combines K n (vs ++ v ∷ []) v (zeros (length vs) ++ 1 ∷ [])
      (subst (λ k. Vector K k (zeros (length vs) ++ 1 ∷ [])) (sym (length-append vs (v ∷ [])))
      (append-vector K (length vs) 1 (zeros (length vs)) (1 ∷ []) (zeros-vector K F (length vs)) (one_below K F, tt)))
      (combination-push K F n (zeros (length vs)) vs 1 v (zeros-size (length vs)) h
      ∙ ap (λ x. plus K x (multiple K 1 v)) (combination-zeros K F (length vs) m n vs hv)
      ∙ ap (plus K (zeros n)) (multiple-one K F n v h) ∙ zeros-plus K F n v h)

  -- a combination of combinations of vs is one of vs
  pub spans-combination : (l m : ℕ) (cs : List ℕ) (us vs : List (List ℕ)) → Matrix K l n us → Matrix K m n vs
      → ((k : ℕ) → k < length us → IsCombination K n vs (get_or us k [])) → IsCombination K n vs (combination K n cs us)
  spans-combination l m [] us vs hu hv each = spans-zeros m vs hv
  spans-combination l m (c ∷ cs) [] vs hu hv each = spans-zeros m vs hv
  spans-combination zero m (c ∷ cs) (u ∷ us) vs hu hv each = absurd hu
  spans-combination (suc l) m (c ∷ cs) (u ∷ us) vs hu hv each =
      spans-plus vs (multiple K c u) (combination K n cs us) (spans-multiple vs c u (each 0 (omega arith)))
      (spans-combination l m cs us vs hu.1 hv (λ k b. each (suc k) (omega arith)))

  pub spans-through : (l m : ℕ) (us vs : List (List ℕ)) (v : List ℕ) → Matrix K l n us → Matrix K m n vs
      → ((k : ℕ) → k < length us → IsCombination K n vs (get_or us k [])) → IsCombination K n us v
      → IsCombination K n vs v
  spans-through l m us vs v hu hv each s = subst (IsCombination K n vs) s.gives
      (spans-combination l m s.coefficients us vs hu hv each)
