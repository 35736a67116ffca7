-- What one more candidate does to the vectors that complete a span.
use Rattle.std.proofs.Common.{◌≡◌, ◌≢◌, ◌⊎◌, inl, inr, ℕ, suc, ◌+◌, ◌<◌, ◌≤◌, List, [], ◌∷◌, ◌++◌, length, get_or, refl}
use Rattle.std.proofs.Common.{sym, ap, ap₂, ◌∙◌, subst, arith, append_assoc, add-one}
use Rattle.std.specs.Prelude.{Contains}
use Rattle.std.proofs.lemmas.List.{length-append}
use Rattle.std.proofs.lemmas.List.Elements.{All-push, All-contains, Contains-get_or}
use Rattle.std.proofs.lemmas.Bool.{cases_eq, cases_lt}
use Rattle.dense_blocks.specs.Field.{Ops}
use Rattle.dense_blocks.specs.FieldLaws.{IsField}
use Rattle.dense_blocks.specs.Vectors.{IsVector, zeros, plus, multiple, combination}
use Rattle.dense_blocks.specs.MatrixFacts.{negative}
use Rattle.dense_blocks.specs.Spans.{IsCombination}
use Rattle.dense_blocks.proofs.Shapes.{Vector, Matrix, to_vector, from_vector, vector-size, append-matrix}
use Rattle.dense_blocks.proofs.Shapes.{matrix_of_rows, matrix-rows, row-vector}
use Rattle.dense_blocks.proofs.VectorLaws.{zeros-append, multiple-vector, combination-vector, combination-push}
use Rattle.dense_blocks.proofs.VectorLaws.{plus-zeros, multiple-zero, multiple-mul, multiple-one, plus-moved, plus-comm}
use Rattle.dense_blocks.proofs.SpanLaws.{combines, spans-append, spans-behind, spans-last, spans-plus, spans-multiple}
use Rattle.dense_blocks.proofs.SpanLaws.{spans-negative}
use Rattle.plain_bases.specs.Complements.{Completes, IsIndependentOf}
use Rattle.plain_bases.proofs.RelationLaws.{vector_ends}

module _ (K : Ops) (F : IsField K) (n : ℕ) (others candidates : List (List ℕ)) (ho : Matrix K (length others) n others)
    (hc : Matrix K (length candidates) n candidates) where
  -- what was chosen are vectors
  pub chosen_rows : (count : ℕ) (chosen : List (List ℕ)) → Completes K n others candidates count chosen
      → Matrix K (length chosen) n chosen
  chosen_rows count chosen h =
      matrix_of_rows K (length chosen) n chosen refl
      (λ k d l. All-contains (IsVector K n) candidates (get_or chosen k d)
      (matrix-rows K (length candidates) n candidates hc) (h.candidates_all k d l))

  module _ (i : ℕ) (l : i < length candidates) (chosen : List (List ℕ)) (h : Completes K n others candidates i chosen)
    where
      candidate : List ℕ
      candidate = get_or candidates i []

      candidate-vector : Vector K n candidate
      unfolding candidate
      candidate-vector = row-vector K (length candidates) n candidates i hc l

      rows : Matrix K (length chosen) n chosen
      rows = chosen_rows i chosen h

      taken : Matrix K (length others + length chosen) n (others ++ chosen)
      taken = append-matrix K (length others) (length chosen) n others chosen ho rows

      -- what was spanned, and the candidate, are spanned
      spans_next : (now : List (List ℕ))
          → ((k : ℕ) → k < i → IsCombination K n (others ++ now) (get_or candidates k []))
          → IsCombination K n (others ++ now) candidate → (k : ℕ) → k < i + 1
          → IsCombination K n (others ++ now) (get_or candidates k [])
      unfolding candidate
      spans_next now before here k m = go (cases_lt k i)
        where
          go : (k < i) ⊎ (i ≤ k) → IsCombination K n (others ++ now) (get_or candidates k [])
          go (inl b) = before k b
          go (inr b) = let same : i ≡ k = omega arith in
              subst (λ j. IsCombination K n (others ++ now) (get_or candidates j [])) same here

      -- a candidate that is a combination of what was taken is left out
      pub completes_same : IsCombination K n (others ++ chosen) (get_or candidates i [])
          → Completes K n others candidates (i + 1) chosen
      unfolding candidate
      completes_same s = record {
        candidates_all = h.candidates_all;
        spans = spans_next chosen h.spans s;
        independent =
            h.independent;
      }

      module _ (apart : (c : List ℕ) → combination K n c (others ++ chosen) ≢ get_or candidates i []) where
        -- a combination with the candidate that is one of the others does not use the candidate
        not_used : (u : List ℕ) (a : ℕ) → Vector K (length chosen) u → a < K.order
            → IsCombination K n others (plus K (combination K n u chosen) (multiple K a candidate)) → a ≡ 0
        unfolding candidate
        not_used u a hu la s = go (cases_eq a 0)
          where
            go : (a ≡ 0) ⊎ (a ≡ 0 → ⊥) → a ≡ 0
            go (inl z) = z
            go (inr not) =
                let v = combination K n u chosen in
                let hv = combination-vector K F (length chosen) n u chosen rows in
                let w = plus K v (multiple K a candidate) in
                let k = K.inv a in
                let alone : multiple K a candidate ≡ plus K w (negative K v) =
                plus-moved K F n (multiple K a candidate) v w (multiple-vector K F n a candidate candidate-vector) hv
                (plus-comm K F (multiple K a candidate) v) in
                let of_w = spans-append K F n (length others) others chosen w ho rows s in
                let of_v = spans-behind K F n others chosen v ho rows (combines K n chosen v u hu refl) in
                let both = spans-plus K F n (others ++ chosen) w (negative K v) of_w
                (spans-negative K F n (others ++ chosen) v of_v) in
                let all = spans-multiple K F n (others ++ chosen) k (plus K w (negative K v)) both in
                let back : multiple K k (plus K w (negative K v)) ≡ candidate =
                ap (multiple K k) (sym alone) ∙ sym (multiple-mul K F k a candidate)
                ∙ ap (λ x. multiple K x candidate) (F.mul_comm k a ∙ F.mul_inv a la not)
                ∙ multiple-one K F n candidate candidate-vector in
                absurd (apart all.coefficients (all.gives ∙ back))

        still_independent : IsIndependentOf K n others (chosen ++ candidate ∷ [])
        still_independent b hb s =
            let size : length (chosen ++ candidate ∷ []) ≡ suc (length chosen) = length-append chosen (candidate ∷ [])
            ∙ add-one (length chosen) in
            let e = vector_ends K (length chosen) b
            (subst (λ k. Vector K k b) size (to_vector K (length (chosen ++ candidate ∷ [])) b hb)) in
            let parts : combination K n b (chosen ++ candidate ∷ []) ≡ plus K (combination K n e.prefix chosen)
            (multiple K e.last candidate) =
            ap (λ x. combination K n x (chosen ++ candidate ∷ [])) e.is
            ∙ combination-push K F n e.prefix chosen e.last candidate
            (vector-size K (length chosen) e.prefix e.prefix_is)
            candidate-vector in
            let last_zero : e.last ≡ 0 = not_used e.prefix e.last e.prefix_is e.last_is
            (subst (IsCombination K n others) parts s) in
            let rest : plus K (combination K n e.prefix chosen) (multiple K e.last candidate) ≡ combination K n e.prefix
            chosen =
            ap (λ x. plus K (combination K n e.prefix chosen) (multiple K x candidate)) last_zero
            ∙ ap (plus K (combination K n e.prefix chosen)) (multiple-zero K F n candidate candidate-vector)
            ∙ plus-zeros K F n (combination K n e.prefix chosen)
            (combination-vector K F (length chosen) n e.prefix chosen
            rows) in
            let prefix_zero : e.prefix ≡ zeros (length chosen) =
            h.independent e.prefix (from_vector K (length chosen) e.prefix e.prefix_is)
            (subst (IsCombination K n others) (parts ∙ rest) s) in
            e.is ∙ ap₂ ◌++◌ prefix_zero (ap (λ x. x ∷ []) last_zero) ∙ sym (zeros-append (length chosen) 1)
            ∙ ap zeros (add-one (length chosen) ∙ sym size)

        -- a candidate apart from what was taken is taken
        pub completes_more : Completes K n others candidates (i + 1) (chosen ++ get_or candidates i [] ∷ [])
        unfolding candidate
        completes_more = record {
          candidates_all = All-push (Contains candidates) chosen candidate h.candidates_all
              (Contains-get_or candidates i [] l);
          spans = spans_next (chosen ++ candidate ∷ [])
              (λ k m. subst (λ (vs : List (List ℕ)). IsCombination K n vs (get_or candidates k []))
              (append_assoc others chosen (candidate ∷ []))
              (spans-append K F n (length others + length chosen) (others ++ chosen) (candidate ∷ [])
              (get_or candidates k []) taken (candidate-vector, tt) (h.spans k m)))
              (subst (λ (vs : List (List ℕ)). IsCombination K n vs candidate)
              (append_assoc others chosen (candidate ∷ []))
              (spans-last K F n (length others + length chosen) (others ++ chosen) candidate taken candidate-vector));
          independent = still_independent;
        }
