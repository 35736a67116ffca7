-- Squares through the cells between two cells.
use Rattle.std.proofs.Common.{◌≡◌, ℕ, Bool, true, ◌&&◌, ◌↔◌, IsTrue, ⊎_elim, List, [], ◌∷◌, length, Option, Some, All}
use Rattle.std.proofs.Common.{refl, sym, ap, ap₂, ◌∙◌, subst, arith}
use Rattle.std.specs.Option.{option_map, option_and_then}
use Rattle.std.proofs.lemmas.Bool.{and_parts}
use Rattle.std.proofs.lemmas.List.Elements.{All-head, All-cons, filter_passes}
use Rattle.cell_complex.specs.Complexes.{CellComplex, all_cells, is_face, middles}
use Rattle.cell_complex.specs.Invariants.{IsComplex}
use Rattle.cell_complex.proofs.Callers.{incident_from_face}
use Rattle.incidence_check.specs.Incidences.{HasRegularIncidences, are_opposite_pair, sign_product}
use Rattle.incidence_check.proofs.Faults.{opposite_middles}
use Rattle.dense_blocks.specs.Field.{Ops}
use Rattle.dense_blocks.specs.Matrices.{product}
use Rattle.dense_blocks.specs.Blocks.{matrix_of}
use Rattle.dense_blocks.specs.declared.block.Block.{Block}
use Rattle.square_check.specs.Squares.{restriction, through, Commutes}

-- t lies between s and u
pub record IsBetween (c : CellComplex) (s u t : ℕ) : Type 0 where
  pub lower : is_face c s t ≡ true
  pub upper : is_face c t u ≡ true

pub all-between : (c : CellComplex) (s u : ℕ) → All (IsBetween c s u) (middles c s u)
all-between c s u k d l =
    let p = and_parts (is_face c s _) (is_face c _ u) (filter_passes (λ t. is_face c s t && is_face c t u) (all_cells c)
    k d l) in
    record { lower = p.0; upper = p.1 }

pub between-head : (c : CellComplex) (s u t : ℕ) (ts : List ℕ) → middles c s u ≡ t ∷ ts → IsBetween c s u t
between-head c s u t ts is = All-head (IsBetween c s u) t ts (subst (All (IsBetween c s u)) is (all-between c s u))

pub between-second : (c : CellComplex) (s u t v : ℕ) (ts : List ℕ) → middles c s u ≡ t ∷ v ∷ ts → IsBetween c s u v
between-second c s u t v ts is = subst (All (IsBetween c s u)) is (all-between c s u) 1 0 (omega arith)

-- between cells of regular incidences are no more than two cells
pub middles-two : (c : CellComplex) → IsComplex c → HasRegularIncidences c → (s u a b : ℕ) (ts : List ℕ)
    → middles c s u ≡ a ∷ b ∷ ts
    → middles c s u ≡ a ∷ b ∷ []
middles-two c h r s u a b ts is =
    let t = between-head c s u a (b ∷ ts) is in
    let low = incident_from_face c h s a t.lower in
    let high = incident_from_face c h a u t.upper in
    is ∙ ap (λ xs. a ∷ b ∷ xs) (none ts (⊎_elim
    (λ (e : middles c s u ≡ []). absurd (omega (arith, ap length is, ap length e)))
    (λ (m : IsTrue (are_opposite_pair (λ t. sign_product c s t u) (middles c s u))).
    omega (arith, ap length is, ap length (opposite_middles c s u (middles c s u) refl m).middles))
    (r.squares s u low.s_is_cell high.t_is_cell (omega (arith, low.one_up, high.one_up)))))
  where
    none : (xs : List ℕ) → length xs ≡ 0 → xs ≡ []
    none [] e = refl
    none (x ∷ xs) e = absurd (omega arith)

pub through-is : (K : Ops) (c : CellComplex) (blocks : List Block) (s t u : ℕ) (low up : Block)
    → restriction c blocks s t ≡ Some low
    → restriction c blocks t u ≡ Some up → through K c blocks s t u
    ≡ Some (product K low.cols (matrix_of up) (matrix_of low))
through-is K c blocks s t u low up is_low is_up =
    ap₂ (λ l r. option_and_then (λ low. option_map (λ up. product K low.cols (matrix_of up) (matrix_of low)) r) l)
    is_low is_up

-- no cells between
pub commutes-none : (K : Ops) (c : CellComplex) (blocks : List Block) (s u : ℕ) → middles c s u ≡ []
    → Commutes K c blocks s u
commutes-none K c blocks s u is =
    subst (λ ts. All (λ t. All (λ v. through K c blocks s t u ≡ through K c blocks s v u) ts) ts) (sym is)
    (λ k d l. absurd (omega arith))

-- two cells between
module _ (K : Ops) (c : CellComplex) (blocks : List Block) (s u a b : ℕ) (is : middles c s u ≡ a ∷ b ∷ []) where
  abbrev at : ℕ → Option (List (List ℕ))
  at t = through K c blocks s t u

  both : at a ≡ at b → Commutes K c blocks s u
  both e =
      subst (λ ts. All (λ t. All (λ v. at t ≡ at v) ts) ts) (sym is)
      (All-cons (λ t. All (λ v. at t ≡ at v) (a ∷ b ∷ [])) a (b ∷ []) (with a refl e)
      (All-cons (λ t. All (λ v. at t ≡ at v) (a ∷ b ∷ [])) b [] (with b (sym e) refl) (λ k d l. absurd (omega arith))))
    where
      with : (t : ℕ) → at t ≡ at a → at t ≡ at b → All (λ v. at t ≡ at v) (a ∷ b ∷ [])
      with t p q = All-cons (λ v. at t ≡ at v) a (b ∷ []) p
          (All-cons (λ v. at t ≡ at v) b [] q (λ k d l. absurd (omega arith)))

  pair : Commutes K c blocks s u → at a ≡ at b
  pair h = subst (λ ts. All (λ t. All (λ v. at t ≡ at v) ts) ts) is h 0 0 (omega arith) 1 0 (omega arith)

  pub commutes-two : (r : Bool) (up1 low1 up2 low2 : Block) → restriction c blocks a u ≡ Some up1
      → restriction c blocks s a ≡ Some low1
      → restriction c blocks b u ≡ Some up2 → restriction c blocks s b ≡ Some low2 → low1.cols ≡ low2.cols
      → IsTrue r ↔ (product K low1.cols (matrix_of up1) (matrix_of low1) ≡ product K low1.cols (matrix_of up2)
      (matrix_of low2))
      → IsTrue r ↔ Commutes K c blocks s u
  commutes-two r up1 low1 up2 low2 is_up1 is_low1 is_up2 is_low2 cols h =
      let first : at a ≡ Some (product K low1.cols (matrix_of up1) (matrix_of low1)) = through-is K c blocks s a u low1
      up1 is_low1 is_up1 in
      let second : at b ≡ Some (product K low1.cols (matrix_of up2) (matrix_of low2)) =
      through-is K c blocks s b u low2 up2 is_low2 is_up2
      ∙ ap (λ n. Some (product K n (matrix_of up2) (matrix_of low2))) (sym cols) in (
        λ yes. both (first ∙ ap Some (h.0 yes) ∙ sym second),
        λ all. h.1 (inside _ _ (sym first ∙ pair all ∙ second)),
      )
    where
      inside : (x y : List (List ℕ)) → Some x ≡ Some y → x ≡ y
      inside x y e = cc
