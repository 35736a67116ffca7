-- A combination of cochains, one cochain after the other.
use Rattle.std.proofs.Common.{◌≡◌, ◌<◌, ◌+◌, ℕ, List, [], length, take, get_or, All, sym, ap₂}
use Rattle.std.proofs.Common.{◌∙◌, subst, arith}
use Rattle.std.proofs.lemmas.List.{take_more, length-take-le}
use Rattle.dense_blocks.specs.Field.{Ops}
use Rattle.dense_blocks.specs.FieldLaws.{IsField}
use Rattle.dense_blocks.specs.Vectors.{IsVector, plus, multiple, combination}
use Rattle.dense_blocks.proofs.Shapes.{to_vector, from_vector}
use Rattle.dense_blocks.proofs.VectorLaws.{plus-vector, multiple-vector, combination-push}

-- the combination of the first i
pub record IsSumSoFar (K : Ops) (n i : ℕ) (cs : List ℕ) (vs : List (List ℕ)) (sum : List ℕ) : Type 0 where
  pub is : sum ≡ combination K n (take i cs) (take i vs)
  pub vector : IsVector K n sum

module _ (K : Ops) (F : IsField K) (n i : ℕ) (cs : List ℕ) (vs : List (List ℕ)) where
  pub sum-more : (now new : List ℕ) (c : ℕ) (v : List ℕ) → length cs ≡ length vs → i < length vs
      → All (IsVector K n) vs → IsSumSoFar K n i cs vs now → c ≡ get_or cs i 0 → v ≡ get_or vs i []
      → new ≡ plus K now (multiple K c v) → IsSumSoFar K n (i + 1) cs vs new
  sum-more now new c v one_each inside vectors so_far c_is v_is e =
      let here : IsVector K n (get_or vs i []) = vectors i [] inside in
      let row : IsVector K n v = subst (IsVector K n) (sym v_is) here in
      let counts : length (take i cs) ≡ length (take i vs) =
      length-take-le i cs (omega (arith, one_each, inside)) ∙ sym (length-take-le i vs (omega arith)) in
      record {
        is = e ∙ ap₂ (plus K) so_far.is (ap₂ (multiple K) c_is v_is)
            ∙ sym (combination-push K F n (take i cs) (take i vs) (get_or cs i 0) (get_or vs i []) counts
            (to_vector K n (get_or vs i []) here))
            ∙ ap₂ (combination K n) (sym (take_more cs i 0 (omega (arith, one_each, inside))))
            (sym (take_more vs i [] inside));
        vector = subst (IsVector K n) (sym e) (from_vector K n (plus K now (multiple K c v))
            (plus-vector K F n now (multiple K c v) (to_vector K n now so_far.vector)
            (multiple-vector K F n c v (to_vector K n v row))));
      }
