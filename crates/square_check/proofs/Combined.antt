-- Products compared row by row.
use Rattle.std.proofs.Common.{◌≡◌, ℕ, ◌<◌, List, [], length, get_or, sym, ap, ◌∙◌, arith}
use Rattle.std.proofs.lemmas.List.{ext_get_or, get_or-map, length-map}
use Rattle.dense_blocks.specs.Field.{Ops}
use Rattle.dense_blocks.specs.Vectors.{combination}
use Rattle.dense_blocks.specs.Matrices.{product}

-- products whose rows agree are one
module _ (K : Ops) (n : ℕ) (A B C D : List (List ℕ)) (same : length A ≡ length C) where
  pub products-agree : ((k : ℕ) → k < length A → combination K n (get_or A k []) B ≡ combination K n (get_or C k []) D)
      → product K n A B ≡ product K n C D
  products-agree h =
      ext_get_or [] (product K n A B) (product K n C D)
      (length-map A (λ r. combination K n r B) ∙ same ∙ sym (length-map C (λ r. combination K n r D)))
      (λ k l.
      let inside : k < length A = omega (arith, length-map A (λ r. combination K n r B)) in
      get_or-map (λ r. combination K n r B) A k [] [] inside ∙ h k inside
      ∙ sym (get_or-map (λ r. combination K n r D) C k [] [] (omega arith)))

  -- and the way back
  pub product-rows_agree : (k : ℕ) → k < length A → product K n A B ≡ product K n C D
      → combination K n (get_or A k []) B ≡ combination K n (get_or C k []) D
  product-rows_agree k l h =
      sym (get_or-map (λ r. combination K n r B) A k [] [] l) ∙ ap (λ M. get_or M k []) h
      ∙ get_or-map (λ r. combination K n r D) C k [] [] (omega arith)
