-- What callers cite of a complex.
use Rattle.std.proofs.Common.{◌≡◌, ℕ, suc, ◌+◌, ◌<◌, ◌≤◌, Bool, true, false, ◌&&◌, ⊎_elim, nat_eq, List, [], ◌∷◌}
use Rattle.std.proofs.Common.{length, filter, cond, get_or, slice_index, All, refl, sym, ap, ◌∙◌, arith}
use Rattle.std.specs.List.{list_any}
use Rattle.std.proofs.lemmas.Bool.{true≢false, and_parts, or_cases, eqb-true, eq-eqb}
use Rattle.std.proofs.lemmas.List.Elements.{All-head, All-tail, All-filter}
use Rattle.std.proofs.lemmas.List.Folds.{list_any_at}
use Rattle.std.proofs.lemmas.List.FromFn.{length-range_with_len, get_or-range_with_len}
use Rattle.std.proofs.lemmas.Map.Views.{any-filter_same}
use Rattle.cell_complex.specs.declared.face.Face.{Face}
use Rattle.cell_complex.specs.Complexes.{CellComplex, joins, all_cells, is_face}
use Rattle.cell_complex.specs.Invariants.{IsComplex, JoinsCells, cofaces_of}
use Rattle.cell_complex.specs.Complexes.{middles}
use Rattle.cell_complex.proofs.Numbers.{filter-filter, range-below}

-- s and t are cells, and t is one dimension above s
pub record AreIncident (dims : List ℕ) (s t : ℕ) : Type 0 where
  pub s_is_cell : s < length dims
  pub t_is_cell : t < length dims
  pub one_up : slice_index dims t ≡ slice_index dims s + 1

incident : (dims : List ℕ) (s t : ℕ) (fs : List Face) → All (JoinsCells dims) fs → list_any (joins s t) fs ≡ true
    → AreIncident dims s t
incident dims s t [] fit h = absurd (true≢false (sym h))
incident dims s t (f ∷ fs) fit h =
    ⊎_elim
    (λ (here : joins s t f ≡ true).
    let p = and_parts (nat_eq s f.s) (nat_eq t f.t) here in
    of_face (eqb-true s f.s p.0) (eqb-true t f.t p.1) (All-head (JoinsCells dims) f fs fit))
    (λ (later : list_any (joins s t) fs ≡ true). incident dims s t fs (All-tail (JoinsCells dims) f fs fit) later)
    (or_cases (joins s t f) (list_any (joins s t) fs) h)
  where
    of_face : s ≡ f.s → t ≡ f.t → JoinsCells dims f → AreIncident dims s t
    of_face p q g = record {
      s_is_cell = omega (arith, g.s_is_cell);
      t_is_cell = omega (arith, g.t_is_cell);
      one_up = ap (slice_index dims) q ∙ g.one_up ∙ ap (λ x. slice_index dims x + 1) (sym p);
    }

pub incident_from_face : (c : CellComplex) → IsComplex c → (s t : ℕ) → is_face c s t ≡ true → AreIncident c.dims s t
incident_from_face c h s t there = incident c.dims s t c.faces h.fit there

-- the cells are below their number
pub cofaces_of-below : (c : CellComplex) (s : ℕ) → All (λ t. t < length c.dims) (cofaces_of c s)
cofaces_of-below c s k d l =
    let h = All-filter (λ t. is_face c s t) (λ t. t < 0 + length c.dims) (all_cells c) (range-below 0 (length c.dims)) k
    d l in
    omega (arith, h)

-- the cells between s and u are those above s that are below u
pub middles_by_cofaces : (c : CellComplex) (s u : ℕ) → middles c s u ≡ filter (λ t. is_face c t u) (cofaces_of c s)
middles_by_cofaces c s u = sym (filter-filter (λ t. is_face c s t) (λ t. is_face c t u) (all_cells c))

-- u is in the list above t just where t is a face of u
pub list_any-cofaces_of : (c : CellComplex) → IsComplex c → (t u : ℕ) → list_any (nat_eq u) (cofaces_of c t)
    ≡ is_face c t u
list_any-cofaces_of c h t u =
    any-filter_same (nat_eq u) (λ v. is_face c t v) (is_face c t u) (λ k e. ap (is_face c t) (sym (eqb-true u k e)))
    (all_cells c)
    ∙ by (is_face c t u) (λ e. there (incident_from_face c h t u e))
  where
    there : AreIncident c.dims t u → list_any (nat_eq u) (all_cells c) ≡ true
    there i =
        list_any_at (nat_eq u) (all_cells c) u 0 (omega (arith, i.t_is_cell, length-range_with_len 0 (length c.dims)))
        (eq-eqb u (get_or (all_cells c) u 0) (omega (arith, get_or-range_with_len 0 (length c.dims) u 0 i.t_is_cell)))

    by : (b : Bool) → (b ≡ true → list_any (nat_eq u) (all_cells c) ≡ true) → (b && list_any (nat_eq u) (all_cells c))
        ≡ b
    by true h = h refl
    by false h = refl

pub length-middles : (c : CellComplex) → IsComplex c → (s u : ℕ) → length (middles c s u) ≤ 4096
length-middles c h s u =
    omega (
      arith,
      length-filter-le (λ t. is_face c s t && is_face c t u) (all_cells c),
      length-range_with_len 0 (length c.dims),
      h.small.few,
    )
  where
    length-filter-le : (p : ℕ → Bool) (xs : List ℕ) → length (filter p xs) ≤ length xs
    length-filter-le p [] = omega arith
    length-filter-le p (x ∷ xs) = by (p x) (length-filter-le p xs)
      where
        by : (b : Bool) → length (filter p xs) ≤ length xs → length (cond b (x ∷ filter p xs) (filter p xs))
            ≤ suc (length xs)
        by true l = omega arith
        by false l = omega arith
