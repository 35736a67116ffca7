-- Answers that clear the squares of some faces.
use Rattle.std.proofs.Common.{◌≡◌, ℕ, ◌<◌, ◌≤◌, Bool, true, false, ◌||◌, ◌⊎◌, ⊎_elim, List, [], ◌∷◌, length, get_or}
use Rattle.std.proofs.Common.{slice_get, Option, Some, All, refl, sym, ap, ◌∙◌, subst, arith}
use Rattle.std.specs.List.{list_any}
use Rattle.std.proofs.lemmas.Bool.{or_cases, and_parts, eqb-true}
use Rattle.cell_complex.specs.declared.face.Face.{Face}
use Rattle.cell_complex.specs.Complexes.{CellComplex, joins, is_face, middles}
use Rattle.cell_complex.specs.Invariants.{IsComplex}
use Rattle.cell_complex.proofs.Callers.{incident_from_face}
use Rattle.dense_blocks.specs.Field.{Ops}
use Rattle.dense_blocks.specs.declared.block.Block.{Block}
use Rattle.square_check.specs.Searches.{IsFirstFailure, earlier_pair, Fails, PassesBefore, IsFirstMiddle}
use Rattle.square_check.specs.Squares.{Commutes}
use Rattle.square_check.specs.TouchedFaces.{OthersCommute, faces_at, is_touched}
use Rattle.square_check.proofs.Clearing.{clears-passing, earlier-clears_first, earlier-clears_second, first-from}
use Rattle.square_check.proofs.Commuting.{IsBetween, all-between, between-head, commutes-none}
use Rattle.cell_complex.proofs.Places.{first-passing, placed}
use Rattle.square_check.proofs.Placed.{all-at, all-kept}

-- the squares of which f is the lower face, and those of which it is the upper one
abbrev pub ClearsAbove : Ops → CellComplex → List Block → Option (ℕ × ℕ) → Face → Type 0
ClearsAbove K c blocks r f = (u : ℕ) → is_face c f.t u ≡ true → PassesBefore (Commutes K c blocks) r f.s u

-- those of which f is the lower face, and its upper cell the first between
abbrev pub ClearsFirst : Ops → CellComplex → List Block → Option (ℕ × ℕ) → Face → Type 0
ClearsFirst K c blocks r f = (u : ℕ) → is_face c f.t u ≡ true → IsFirstMiddle c f.s f.t u
    → PassesBefore (Commutes K c blocks) r f.s u

abbrev pub ClearsBelow : Ops → CellComplex → List Block → Option (ℕ × ℕ) → Face → Type 0
ClearsBelow K c blocks r f = (s : ℕ) → is_face c s f.s ≡ true → PassesBefore (Commutes K c blocks) r s f.t

module _ (K : Ops) (c : CellComplex) (h : IsComplex c) (blocks : List Block) where
  abbrev P : ℕ → ℕ → Type 0
  P s u = Commutes K c blocks s u

  outside : (s u : ℕ) → (length c.dims ≤ s) ⊎ (length c.dims ≤ u) → P s u
  outside s u far = by (middles c s u) refl
    where
      by : (ts : List ℕ) → middles c s u ≡ ts → P s u
      by [] is = commutes-none K c blocks s u is
      by (t ∷ ts) is =
          let b = between-head c s u t ts is in
          let low = incident_from_face c h s t b.lower in
          let high = incident_from_face c h t u b.upper in
          absurd (⊎_elim (λ (l : length c.dims ≤ s). let w : s < length c.dims = low.s_is_cell in omega arith)
          (λ (l : length c.dims ≤ u). let w : u < length c.dims = high.t_is_cell in omega arith) far)

  pub first-of_all : (r : Option (ℕ × ℕ)) (count : ℕ) → length c.faces ≤ count → Fails (Commutes K c blocks) r
      → ((k : ℕ) (f : Face) → k < count → slice_get c.faces k ≡ Some f → ClearsFirst K c blocks r f)
      → IsFirstFailure (Commutes K c blocks) (length c.dims) r
  first-of_all r count enough fails clears = first-from (Commutes K c blocks) (length c.dims) r outside fails
      (λ s u. by s u (middles c s u) refl)
    where
      by : (s u : ℕ) (ts : List ℕ) → middles c s u ≡ ts → PassesBefore (Commutes K c blocks) r s u
      by s u [] is = clears-passing (Commutes K c blocks) r s u (commutes-none K c blocks s u is)
      by s u (t ∷ ts) is =
          let b = between-head c s u t ts is in
          let p = placed c s t b.lower in
          subst (λ v. PassesBefore (Commutes K c blocks) r v u) p.from
          (clears p.at p.face (omega (arith, p.inside)) p.found u (ap (λ v. is_face c v u) p.to ∙ b.upper)
          (ap (λ v. slice_get (middles c v u) 0) p.from ∙ ap (λ vs. slice_get vs 0) is ∙ ap Some (sym p.to)))

  pub first-touched : (r : Option (ℕ × ℕ)) (places : List ℕ) (count : ℕ) → length places ≤ count
      → OthersCommute K c blocks places → Fails (Commutes K c blocks) r
      → ((k : ℕ) (f : Face) → k < count → slice_get c.faces (get_or places k 0) ≡ Some f → ClearsAbove K c blocks r f
      × ClearsBelow K c blocks r f)
      → IsFirstFailure (Commutes K c blocks) (length c.dims) r
  first-touched r places count enough others fails clears = first-from (Commutes K c blocks) (length c.dims) r outside
      fails (λ s u. cleared s u)
    where
      both : All (λ f. ClearsAbove K c blocks r f × ClearsBelow K c blocks r f) (faces_at c places)
      both = all-kept (λ f. ClearsAbove K c blocks r f × ClearsBelow K c blocks r f) (slice_get c.faces) places
          (λ k f l e. clears k f (omega arith) e)

      through : (s u t : ℕ) → IsBetween c s u t
          → (list_any (joins s t) (faces_at c places) || list_any (joins t u) (faces_at c places)) ≡ true
          → PassesBefore (Commutes K c blocks) r s u
      through s u t b e =
          ⊎_elim
          (λ (low : list_any (joins s t) (faces_at c places) ≡ true).
          let f = first-passing (joins s t) (faces_at c places) low in
          let ends = and_parts _ _ f.passes in
          let at_s : s ≡ f.element.s = eqb-true s f.element.s ends.0 in
          let at_t : t ≡ f.element.t = eqb-true t f.element.t ends.1 in
          subst (λ v. PassesBefore (Commutes K c blocks) r v u) (sym at_s)
          ((all-at (λ f. ClearsAbove K c blocks r f × ClearsBelow K c blocks r f) (faces_at c places) _ f.element both
          f.found).0 u (ap (λ v. is_face c v u) (sym at_t) ∙ b.upper)))
          (λ (high : list_any (joins t u) (faces_at c places) ≡ true).
          let f = first-passing (joins t u) (faces_at c places) high in
          let ends = and_parts _ _ f.passes in
          let at_t : t ≡ f.element.s = eqb-true t f.element.s ends.0 in
          let at_u : u ≡ f.element.t = eqb-true u f.element.t ends.1 in
          subst (λ v. PassesBefore (Commutes K c blocks) r s v) (sym at_u)
          ((all-at (λ f. ClearsAbove K c blocks r f × ClearsBelow K c blocks r f) (faces_at c places) _ f.element both
          f.found).1 s (ap (λ v. is_face c s v) (sym at_t) ∙ b.lower)))
          (or_cases (list_any (joins s t) (faces_at c places)) (list_any (joins t u) (faces_at c places)) e)

      cleared : (s u : ℕ) → PassesBefore (Commutes K c blocks) r s u
      cleared s u = by (is_touched c (faces_at c places) s u) refl
        where
          by : (b : Bool) → is_touched c (faces_at c places) s u ≡ b → PassesBefore (Commutes K c blocks) r s u
          by true e =
              let m = first-passing (λ t. list_any (joins s t) (faces_at c places)
              || list_any (joins t u) (faces_at c places)) (middles c s u) e in
              through s u m.element (all-at (IsBetween c s u) (middles c s u) _ m.element (all-between c s u) m.found)
              m.passes
          by false e = clears-passing (Commutes K c blocks) r s u (others s u e)

-- one answer more: what either clears of a face
pub once-first : (K : Ops) (c : CellComplex) (blocks : List Block) (a b : Option (ℕ × ℕ)) (f : Face)
    → ClearsFirst K c blocks a f → ClearsFirst K c blocks (earlier_pair a b) f
once-first K c blocks a b f h u e first = earlier-clears_first (Commutes K c blocks) a b f.s u (h u e first)

pub once-second : (K : Ops) (c : CellComplex) (blocks : List Block) (a b : Option (ℕ × ℕ)) (f : Face)
    → ClearsFirst K c blocks b f → ClearsFirst K c blocks (earlier_pair a b) f
once-second K c blocks a b f h u e first = earlier-clears_second (Commutes K c blocks) a b f.s u (h u e first)

pub above-first : (K : Ops) (c : CellComplex) (blocks : List Block) (a b : Option (ℕ × ℕ)) (f : Face)
    → ClearsAbove K c blocks a f → ClearsAbove K c blocks (earlier_pair a b) f
above-first K c blocks a b f h u e = earlier-clears_first (Commutes K c blocks) a b f.s u (h u e)

pub above-second : (K : Ops) (c : CellComplex) (blocks : List Block) (a b : Option (ℕ × ℕ)) (f : Face)
    → ClearsAbove K c blocks b f → ClearsAbove K c blocks (earlier_pair a b) f
above-second K c blocks a b f h u e = earlier-clears_second (Commutes K c blocks) a b f.s u (h u e)

pub below-first : (K : Ops) (c : CellComplex) (blocks : List Block) (a b : Option (ℕ × ℕ)) (f : Face)
    → ClearsBelow K c blocks a f → ClearsBelow K c blocks (earlier_pair a b) f
below-first K c blocks a b f h s e = earlier-clears_first (Commutes K c blocks) a b s f.t (h s e)

pub below-second : (K : Ops) (c : CellComplex) (blocks : List Block) (a b : Option (ℕ × ℕ)) (f : Face)
    → ClearsBelow K c blocks b f → ClearsBelow K c blocks (earlier_pair a b) f
below-second K c blocks a b f h s e = earlier-clears_second (Commutes K c blocks) a b s f.t (h s e)
