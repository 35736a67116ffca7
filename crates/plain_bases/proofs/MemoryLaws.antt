-- The steps of the two procedures, over vectors in memory.
use Rattle.std.proofs.Common.{◌≡◌, ◌≢◌, inl, inr, ℕ, ◌+◌, ◌<◌, ◌≤◌, List, [], ◌∷◌, ◌++◌, length, take, drop, get_or}
use Rattle.std.proofs.Common.{Vec, Global, sym, ap, ap₂, ◌∙◌, subst, arith}
use Rattle.std.proofs.lemmas.List.{length-append, take-map, length-take-le, take-append-drop, take-append-le}
use Rattle.std.proofs.lemmas.List.{drop-append-le}
use Rattle.dense_blocks.specs.Field.{Ops}
use Rattle.dense_blocks.specs.FieldLaws.{IsField}
use Rattle.dense_blocks.specs.Vectors.{IsVector, zeros, combination}
use Rattle.dense_blocks.specs.MatrixFacts.{IsMatrix}
use Rattle.dense_blocks.specs.Spans.{IsCombination}
use Rattle.dense_blocks.specs.Solutions.{lists, Combines}
use Rattle.dense_blocks.proofs.Shapes.{Matrix, to_matrix, from_matrix, append-matrix}
use Rattle.plain_bases.specs.Relations.{SpansRelationsBelow}
use Rattle.plain_bases.specs.Complements.{Completes, IsConsidered}
use Rattle.plain_bases.proofs.RelationLaws.{relations_more, relations_same}
use Rattle.plain_bases.proofs.ComplementLaws.{chosen_rows, completes_more, completes_same}
use Rattle.plain_bases.proofs.VecLaws.{lists-size}

module _ (K : Ops) (F : IsField K) (n : ℕ) (vs : List (Vec ℕ Global)) (hm : IsMatrix K (length vs) n (lists vs)) (j : ℕ)
    (l : j < length vs)
    (zs : List (List ℕ)) (before : SpansRelationsBelow K n (lists vs) j zs) (v : List ℕ)
    (is : v ≡ get_or (lists vs) j []) where
  inside : j < length (lists vs)
  inside = subst (λ k. j < k) (sym (lists-size vs)) l

  rows : Matrix K (length (lists vs)) n (lists vs)
  rows = subst (λ k. Matrix K k n (lists vs)) (sym (lists-size vs)) (to_matrix K (length vs) n (lists vs) hm)

  prefix : lists (take j vs) ≡ take j (lists vs)
  prefix = sym (take-map (λ v. v.items) j vs)

  size : length v ≡ n
  size = ap length is ∙ (hm.rows_are j [] inside).size

  -- the vector is a combination of those before it
  pub own_added : (c z : List ℕ) (more : ℕ) → Combines K (lists (take j vs)) v c → z ≡ c ++ K.neg 1 ∷ zeros more
      → j + 1 + more ≡ length vs
      → SpansRelationsBelow K n (lists vs) (j + 1) (zs ++ z ∷ [])
  own_added c z more combines e len =
      let short : length (lists (take j vs)) ≡ j =
      ap length prefix ∙ length-take-le j (lists vs) (omega (arith, inside))
      in
      relations_more K F n (lists vs) j inside rows zs before c z more (len ∙ sym (lists-size vs))
      (subst (λ k. IsVector K k c) short combines.coefficients)
      (ap₂ (λ k us. combination K k c us) (sym size) (sym prefix) ∙ combines.gives ∙ is) e

  -- it is none
  pub none_added : ((c : List ℕ) → combination K (length v) c (lists (take j vs)) ≢ v)
      → SpansRelationsBelow K n (lists vs) (j + 1) zs
  none_added apart =
      relations_same K F n (lists vs) j inside rows zs before
      (λ c e. apart c (ap₂ (λ k us. combination K k c us) size prefix ∙ e ∙ sym is))

-- a candidate makes the list at most one longer
pub considered-size : (K : Ops) (n : ℕ) (taken : List (Vec ℕ Global)) (candidate : List ℕ) (new : List (Vec ℕ Global))
    → IsConsidered K n (lists taken) candidate (lists new)
    → length new ≤ length taken + 1
considered-size K n taken candidate new (inl s) = omega (arith, lists-size taken, lists-size new, ap length s.1)
considered-size K n taken candidate new (inr s) = omega (
  arith,
  lists-size taken,
  lists-size new,
  ap length s.1,
  length-append (lists taken) (candidate ∷ []),
)

module _ (K : Ops) (F : IsField K) (n : ℕ) (others candidates : List (List ℕ))
    (ho : IsMatrix K (length others) n others)
    (hc : IsMatrix K (length candidates) n candidates) (i : ℕ) (taken : List (List ℕ)) (count : ℕ)
    (counted : count ≡ length others)
    (kept : take count taken ≡ others) (completes : Completes K n others candidates i (drop count taken)) where
  parts : taken ≡ others ++ drop count taken
  parts = sym (take-append-drop count taken) ∙ ap (λ t. t ++ drop count taken) kept

  long : count ≤ length taken
  long = let e : length taken ≡ length others + length (drop count taken) = ap length parts
      ∙ length-append others (drop count taken) in omega arith

  -- what is taken are vectors
  pub taken_is_matrix : IsMatrix K (length taken) n taken
  taken_is_matrix =
      let chosen = drop count taken in
      let both = append-matrix K (length others) (length chosen) n others chosen
      (to_matrix K (length others) n others ho)
      (chosen_rows K F n others candidates (to_matrix K (length others) n others ho)
      (to_matrix K (length candidates) n candidates hc) i chosen completes) in
      let size : length others + length chosen ≡ length taken = sym (ap length parts ∙ length-append others chosen) in
      from_matrix K (length taken) n taken
      (subst (λ (ts : List (List ℕ)). Matrix K (length taken) n ts) (sym parts)
      (subst (λ m. Matrix K m n (others ++ chosen)) size both))

  -- one candidate more
  pub next_candidate : i < length candidates → (new : List (List ℕ)) → IsConsidered K n taken (get_or candidates i [])
      new
      → (take count new ≡ others) × Completes K n others candidates (i + 1) (drop count new)
  next_candidate l new (inl s) =
      let same : new ≡ taken = s.1 in (
        ap (take count) same ∙ kept,
        subst (λ (ts : List (List ℕ)). Completes K n others candidates (i + 1) (drop count ts)) (sym same)
            (completes_same K F n others candidates (to_matrix K (length others) n others ho)
            (to_matrix K (length candidates) n candidates hc) i l (drop count taken) completes
            (subst (λ (ts : List (List ℕ)). IsCombination K n ts (get_or candidates i [])) parts s.0)),
      )
  next_candidate l new (inr s) =
      let x = get_or candidates i [] in
      let more : new ≡ taken ++ x ∷ [] = s.1 in
      let rest : drop count (taken ++ x ∷ []) ≡ drop count taken ++ x ∷ [] =
      drop-append-le count taken (x ∷ []) long in (
        ap (take count) more ∙ take-append-le count taken (x ∷ []) long ∙ kept,
        subst (λ (ts : List (List ℕ)). Completes K n others candidates (i + 1) ts) (sym (ap (drop count) more ∙ rest))
            (completes_more K F n others candidates (to_matrix K (length others) n others ho)
            (to_matrix K (length candidates) n candidates hc) i l (drop count taken) completes
            (λ c e. s.0 c (ap (combination K n c) parts ∙ e))),
      )
