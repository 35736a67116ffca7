-- Where there is no fault, and what that says.
use Rattle.std.proofs.Common.{◌≡◌, ℕ, ◌+◌, ◌<◌, Bool, true, false, cond, not, ◌&&◌, ◌||◌, ◌⊎◌, ⊎_elim, inl, inr, nat_eq}
use Rattle.std.proofs.Common.{List, [], ◌∷◌, ◌++◌, length, slice_index, slice_get, take, get_or, filter, None, Some}
use Rattle.std.proofs.Common.{All, IsTrue, Result, Ok, Err, IsOk, ◌↔◌, refl, sym, ap, ap₂, ◌∙◌, subst, arith}
use Rattle.std.specs.List.{list_any, filter_map, flat_map}
use Rattle.std.proofs.lemmas.Bool.{true≢false, cond-false, eq-eqb, eqb-true, and_parts, or_parts, or_cases}
use Rattle.std.proofs.lemmas.List.Elements.{All-head, filter_passes}
use Rattle.std.proofs.lemmas.List.Folds.{list_any_more}
use Rattle.cell_complex.specs.Complexes.{CellComplex, all_cells, is_face, sign, faces_of}
use Rattle.cell_complex.specs.Invariants.{IsComplex, cofaces_of}
use Rattle.cell_complex.specs.Complexes.{middles}
use Rattle.cell_complex.proofs.Callers.{AreIncident, incident_from_face, middles_by_cofaces, list_any-cofaces_of}
use Rattle.incidence_check.specs.declared.incidence.Incidence.{Incidence}
use Rattle.incidence_check.specs.declared.incidence.Incidence.TheVariants.{EdgeEnds, Signs}
use Rattle.incidence_check.specs.Incidences.{are_opposite, are_opposite_pair, sign_product}
use Rattle.incidence_check.specs.Incidences.{HasRegularIncidences, edge_fault, middles_fault}
use Rattle.incidence_check.specs.Answers.{HasOppositeMiddles}
use Rattle.incidence_check.specs.Incidences.{faults}
use Rattle.incidence_check.specs.Answers.{pair_fault, pair_faults}
use Rattle.incidence_check.specs.Answers.{AnswersFirst}
use Rattle.incidence_check.specs.Reach.{reaches}
use Rattle.incidence_check.proofs.Firsts.{filter_map-none, none_from_filter_map, flat_map-none, none_from_flat_map}
use Rattle.incidence_check.proofs.Firsts.{none_from_append}

-- the ends of an edge
edge_from_none : (c : CellComplex) (t : ℕ) → edge_fault c t ≡ None → slice_index c.dims t ≡ 1
    → IsTrue (are_opposite_pair (λ s. sign c s t) (faces_of c t))
edge_from_none c t h one =
    by (nat_eq (slice_index c.dims t) 1) (are_opposite_pair (λ s. sign c s t) (faces_of c t)) h
    (eq-eqb (slice_index c.dims t) 1 one)
  where
    by : (edge pair : Bool) → cond (edge && not pair) (Some (EdgeEnds t)) None ≡ None → edge ≡ true → pair ≡ true
    by true true h e = refl
    by true false h e = absurd (cc)
    by false pair h e = absurd (true≢false (sym e))

none_from_edge : (c : CellComplex) (t : ℕ)
    → (slice_index c.dims t ≡ 1 → IsTrue (are_opposite_pair (λ s. sign c s t) (faces_of c t))) → edge_fault c t ≡ None
none_from_edge c t h =
    by (nat_eq (slice_index c.dims t) 1) (are_opposite_pair (λ s. sign c s t) (faces_of c t))
    (λ e. h (eqb-true (slice_index c.dims t) 1 e))
  where
    by : (edge pair : Bool) → (edge ≡ true → pair ≡ true) → cond (edge && not pair) (Some (EdgeEnds t)) None ≡ None
    by true pair h = ap (λ b. cond (not b) (Some (EdgeEnds t)) None) (h refl)
    by false pair h = refl

-- the cells between two cells
middles_from_none : (c : CellComplex) (s u : ℕ) (xs : List ℕ) → middles_fault c s u xs ≡ None
    → (xs ≡ []) ⊎ IsTrue (are_opposite_pair (λ t. sign_product c s t u) xs)
middles_from_none c s u [] h = inl refl
middles_from_none c s u (a ∷ []) h = absurd (cc)
middles_from_none c s u (a ∷ b ∷ []) h = inr (by (are_opposite (sign_product c s a u) (sign_product c s b u)) h)
  where
    by : (o : Bool) → cond o None (Some (Signs s u)) ≡ None → o ≡ true
    by true h = refl
    by false h = absurd (cc)
middles_from_none c s u (a ∷ b ∷ d ∷ xs) h = absurd (cc)

none_from_pair : (c : CellComplex) (s u : ℕ) (xs : List ℕ)
    → IsTrue (are_opposite_pair (λ t. sign_product c s t u) xs) → middles_fault c s u xs ≡ None
none_from_pair c s u [] h = refl
none_from_pair c s u (a ∷ []) h = absurd (true≢false (sym h))
none_from_pair c s u (a ∷ b ∷ []) h = ap (λ o. cond o None (Some (Signs s u))) h
none_from_pair c s u (a ∷ b ∷ d ∷ xs) h = absurd (true≢false (sym h))

none_from_middles : (c : CellComplex) (s u : ℕ)
    → (middles c s u ≡ []) ⊎ IsTrue (are_opposite_pair (λ t. sign_product c s t u) (middles c s u))
    → pair_fault c s u ≡ None
none_from_middles c s u h =
    ⊎_elim (λ (e : middles c s u ≡ []). ap (middles_fault c s u) e)
    (λ (m : IsTrue (are_opposite_pair (λ t. sign_product c s t u) (middles c s u))).
    none_from_pair c s u (middles c s u) m) h

-- two cells between s and u, where the incidences are regular and there is some
pub opposite_middles : (c : CellComplex) (s u : ℕ) (xs : List ℕ) → middles c s u ≡ xs
    → IsTrue (are_opposite_pair (λ t. sign_product c s t u) xs) → HasOppositeMiddles c s u
opposite_middles c s u [] is h = absurd (true≢false (sym h))
opposite_middles c s u (a ∷ []) is h = absurd (true≢false (sym h))
opposite_middles c s u (a ∷ b ∷ []) is h = record { first = a; second = b; middles = is; opposite = h }
opposite_middles c s u (a ∷ b ∷ d ∷ xs) is h = absurd (true≢false (sym h))

-- the first cell between two cells
pub first_middle : (c : CellComplex) (s u t : ℕ) (ts : List ℕ) → middles c s u ≡ t ∷ ts
    → (is_face c s t ≡ true) × (is_face c t u ≡ true)
first_middle c s u t ts is =
    and_parts (is_face c s t) (is_face c t u)
    (All-head (λ t. (is_face c s t && is_face c t u) ≡ true) t ts
    (subst (λ xs. All (λ t. (is_face c s t && is_face c t u) ≡ true) xs) is
    (filter_passes (λ t. is_face c s t && is_face c t u) (all_cells c))))

-- a cell between s and u puts u two dimensions above s
middle_dims : (c : CellComplex) → IsComplex c → (s u : ℕ) (t : ℕ) (ts : List ℕ) → middles c s u ≡ t ∷ ts
    → slice_index c.dims u ≡ slice_index c.dims s + 2
middle_dims c h s u t ts is =
    let p = first_middle c s u t ts is in
    let low : AreIncident c.dims s t = incident_from_face c h s t p.0 in
    let high : AreIncident c.dims t u = incident_from_face c h t u p.1 in
    omega (arith, low.one_up, high.one_up)

-- no faults, and regular incidences
pub regular_from_none : (c : CellComplex) → faults c ≡ [] → HasRegularIncidences c
regular_from_none c h =
    let n : ℕ = length c.dims in
    let parts = none_from_append (filter_map (edge_fault c) (all_cells c)) (flat_map (pair_faults c) (all_cells c)) h in
    record {
      edges = λ t l one. edge_from_none c t (none_from_filter_map (edge_fault c) 0 n parts.0 t (omega arith)
          (omega arith)) one;
      squares = λ s u l m two.
          middles_from_none c s u (middles c s u)
          (none_from_filter_map (pair_fault c s) 0 n (none_from_flat_map (pair_faults c) 0 n parts.1 s (omega arith)
          (omega arith)) u (omega arith) (omega arith));
    }

pub none_from_regular : (c : CellComplex) → IsComplex c → HasRegularIncidences c → faults c ≡ []
none_from_regular c h r =
    let n : ℕ = length c.dims in
    ap₂ (λ xs ys. xs ++ ys)
    (filter_map-none (edge_fault c) 0 n (λ t l m. none_from_edge c t (r.edges t (omega arith))))
    (flat_map-none (pair_faults c) 0 n
    (λ s l m. filter_map-none (pair_fault c s) 0 n (λ u p q. pair s u (omega arith) (omega arith) (middles c s u)
    refl)))
  where
    pair : (s u : ℕ) → s < length c.dims → u < length c.dims → (ts : List ℕ) → middles c s u ≡ ts
        → pair_fault c s u ≡ None
    pair s u l m [] is = none_from_middles c s u (inl is)
    pair s u l m (t ∷ ts) is = none_from_middles c s u (r.squares s u l m (middle_dims c h s u t ts is))

-- the answer is ok just where the incidences are regular
pub regular_iff : (c : CellComplex) → IsComplex c → (r : Result (Unit {0}) Incidence) → AnswersFirst (faults c) r
    → IsOk r ↔ HasRegularIncidences c
regular_iff c h (Ok x) first = (λ _. regular_from_none c first, λ _. refl)
regular_iff c h (Err e) first = (
  λ ok. absurd (true≢false (sym ok)),
  λ r. let none : faults c ≡ [] = none_from_regular c h r in
      let nothing : slice_get (faults c) 0 ≡ None = ap (λ fs. slice_get fs 0) none in absurd (cc),
)

-- where no coface of s is a face of u, nothing is wrong between s and u
pub none_unreached : (c : CellComplex) (s u : ℕ) → reaches c (cofaces_of c s) u ≡ false → pair_fault c s u ≡ None
none_unreached c s u h =
    none_from_middles c s u (inl (middles_by_cofaces c s u ∙ filter-none (λ t. is_face c t u) (cofaces_of c s) h))
  where
    filter-none : (p : ℕ → Bool) (xs : List ℕ) → list_any p xs ≡ false → filter p xs ≡ []
    filter-none p [] h = refl
    filter-none p (x ∷ xs) h =
        let parts = or_parts (p x) (list_any p xs) h in
        cond-false (p x) (x ∷ filter p xs) (filter p xs) parts.0 ∙ filter-none p xs parts.1

-- what some cell is a face of is a cell
pub reached-below : (c : CellComplex) → IsComplex c → (ts : List ℕ) (u : ℕ) → reaches c ts u ≡ true → u < length c.dims
reached-below c h [] u e = absurd (true≢false (sym e))
reached-below c h (t ∷ ts) u e =
    ⊎_elim (λ (here : is_face c t u ≡ true). let i : AreIncident c.dims t u = incident_from_face c h t u here in
    i.t_is_cell)
    (λ (later : reaches c ts u ≡ true). reached-below c h ts u later) (or_cases (is_face c t u) (reaches c ts u) e)

-- one cell more
pub reaches-more : (c : CellComplex) → IsComplex c → (ts : List ℕ) (i d u : ℕ) → i < length ts
    → (reaches c (take i ts) u || list_any (nat_eq u) (cofaces_of c (get_or ts i d))) ≡ reaches c (take (i + 1) ts) u
reaches-more c h ts i d u l =
    ap (λ b. reaches c (take i ts) u || b) (list_any-cofaces_of c h (get_or ts i d) u)
    ∙ sym (list_any_more (λ t. is_face c t u) ts i d l)
