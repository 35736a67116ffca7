-- Squares through none of the faces whose blocks changed.
use Rattle.std.proofs.Common.{◌≡◌, ℕ, Bool, true, false, ◌||◌, ⊎_elim, nat_eq, List, [], ◌∷◌}
use Rattle.std.proofs.Common.{slice_get, Option, None, Some, All, refl, sym, ap, ap₂, ◌∙◌, arith}
use Rattle.std.specs.List.{list_any, filter_map, cons_option}
use Rattle.std.specs.Option.{option_map, option_and_then}
use Rattle.std.proofs.lemmas.Bool.{true≢false, or_cases, or_parts, or_right, and_from, eqb-true, eq-eqb}
use Rattle.std.proofs.lemmas.List.Elements.{All-cons}
use Rattle.cell_complex.specs.Complexes.{CellComplex, joins, is_face, middles}
use Rattle.dense_blocks.specs.Field.{Ops}
use Rattle.dense_blocks.specs.Matrices.{product}
use Rattle.dense_blocks.specs.Blocks.{matrix_of}
use Rattle.dense_blocks.specs.declared.block.Block.{Block}
use Rattle.square_check.specs.Squares.{restriction, through, Commutes}
use Rattle.square_check.specs.TouchedFaces.{OthersCommute, faces_at}
use Rattle.square_check.proofs.Commuting.{all-between}
use Rattle.cell_complex.proofs.Places.{placed}

none-any : {X : Type 0} (p : X → Bool) (xs : List X) → list_any p xs ≡ false → All (λ x. p x ≡ false) xs
none-any p [] h = λ k d l. absurd (omega arith)
none-any p (x ∷ xs) h =
    let parts = or_parts (p x) (list_any p xs) h in
    All-cons (λ x. p x ≡ false) x xs parts.0 (none-any p xs parts.1)

kept-any : {X : Type 0} (q : X → Bool) (g : ℕ → Option X) (p : ℕ) (x : X) (ps : List ℕ) → list_any (nat_eq p) ps ≡ true
    → g p ≡ Some x → q x ≡ true
    → list_any q (filter_map g ps) ≡ true
kept-any q g p x [] there is passes = absurd (true≢false (sym there))
kept-any {X} q g p x (y ∷ ps) there is passes =
    ⊎_elim (λ (here : nat_eq p y ≡ true).
    ap (λ o. list_any q (cons_option o (filter_map g ps))) (ap g (sym (eqb-true p y here)) ∙ is)
    ∙ ap (λ b. b || list_any q (filter_map g ps)) passes)
    (λ (later : list_any (nat_eq p) ps ≡ true). by (g y) (kept-any q g p x ps later is passes))
    (or_cases (nat_eq p y) (list_any (nat_eq p) ps) there)
  where
    by : (o : Option X) → list_any q (filter_map g ps) ≡ true → list_any q (cons_option o (filter_map g ps)) ≡ true
    by None e = e
    by (Some z) e = or_right (q z) (list_any q (filter_map g ps)) e

-- where all squares commuted, and only blocks at some places changed, all squares commute through none of the faces
-- there
module _ (K : Ops) (c : CellComplex) (old new : List Block) (places : List ℕ)
    (same : (p : ℕ) → list_any (nat_eq p) places ≡ false → slice_get old p ≡ slice_get new p) where
  kept : (s t : ℕ) → is_face c s t ≡ true → list_any (joins s t) (faces_at c places) ≡ false → restriction c old s t
      ≡ restriction c new s t
  kept s t face e =
      let p = placed c s t face in
      let joined : joins s t p.face ≡ true = and_from (nat_eq s p.face.s) (nat_eq t p.face.t)
      (eq-eqb s p.face.s (sym p.from)) (eq-eqb t p.face.t (sym p.to)) in
      ap (option_and_then (slice_get old)) p.is
      ∙ by p.at (list_any (nat_eq p.at) places) refl (λ there. kept-any (joins s t) (slice_get c.faces) p.at p.face
      places there p.found joined)
      ∙ ap (option_and_then (slice_get new)) (sym p.is)
    where
      by : (p : ℕ) (b : Bool) → list_any (nat_eq p) places ≡ b
          → (list_any (nat_eq p) places ≡ true → list_any (joins s t) (faces_at c places) ≡ true)
          → slice_get old p ≡ slice_get new p
      by p true there told = absurd (true≢false (sym (told there) ∙ e))
      by p false absent told = same p absent

  pub others-commute : ((s u : ℕ) → Commutes K c old s u) → OthersCommute K c new places
  others-commute h s u e k d l i f m = sym (alike k d l) ∙ h s u k d l i f m ∙ alike i f m
    where
      alike : All (λ t. through K c old s t u ≡ through K c new s t u) (middles c s u)
      alike k d l =
          let b = all-between c s u k d l in
          let apart = none-any (λ t. list_any (joins s t) (faces_at c places)
          || list_any (joins t u) (faces_at c places)) (middles c s u) e k d l in
          let parts = or_parts _ _ apart in
          ap₂ (λ low up. option_and_then (λ low. option_map (λ up. product K low.cols (matrix_of up) (matrix_of low))
          up) low)
          (kept s _ b.lower parts.0) (kept _ u b.upper parts.1)
