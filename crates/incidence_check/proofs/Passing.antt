-- Where no pair of cells has a fault, by the marks of cells.
use Rattle.std.proofs.Common.{◌≡◌, ◌≢◌, ℕ, zero, suc, ◌+◌, ◌*◌, ◌-◌, ◌<◌, ◌≤◌, Bool, true, false, ◌&&◌, cond, ⊎_elim}
use Rattle.std.proofs.Common.{List, [], ◌∷◌, ◌++◌, length, map, filter, replicate, take, set, get_or, nat_eq, Option}
use Rattle.std.proofs.Common.{None, Some, All, refl, sym, ap, ap₂, ◌∙◌, subst, arith}
use Rattle.std.specs.List.{list_any}
use Rattle.std.proofs.lemmas.Bool.{true≢false, cases_eq, cond-true, cond-false}
use Rattle.std.proofs.lemmas.List.{map-append, take_more, get_or-set_same, get_or-set_other}
use Rattle.std.proofs.lemmas.List.Elements.{filter-append, filter_passes}
use Rattle.std.proofs.lemmas.List.Kept.{AllPairs-from_increasing}
use Rattle.std.specs.List.Sorted.{IsStrictlyIncreasing}
use Rattle.cell_complex.specs.declared.face.Sign.{Sign}
use Rattle.cell_complex.specs.declared.face.Sign.TheVariants.{Plus, Minus}
use Rattle.cell_complex.specs.Complexes.{CellComplex, all_cells, is_face, faces_of, middles}
use Rattle.cell_complex.specs.Invariants.{IsComplex}
use Rattle.cell_complex.proofs.Places.{all-listed}
use Rattle.cell_complex.proofs.Callers.{incident_from_face}
use Rattle.incidence_check.specs.Incidences.{are_opposite, sign_product, middles_fault}
use Rattle.incidence_check.specs.Answers.{pair_fault}
use Rattle.incidence_check.specs.Marks.{next_state, state_of, products, IsMark, AreMarks}
use Rattle.incidence_check.specs.Passes.{PassesBelow, AllPass}
use Rattle.incidence_check.proofs.Faces.{list_any-faces_of}
use Rattle.incidence_check.proofs.Faults.{first_middle}

-- the states after one way more
next-of_one : (a b : Option Sign) → next_state (next_state 0 a) b ≡ cond (are_opposite a b) 3 4
next-of_one None None = refl
next-of_one None (Some Plus) = refl
next-of_one None (Some Minus) = refl
next-of_one (Some Plus) None = refl
next-of_one (Some Minus) None = refl
next-of_one (Some Plus) (Some Plus) = refl
next-of_one (Some Plus) (Some Minus) = refl
next-of_one (Some Minus) (Some Plus) = refl
next-of_one (Some Minus) (Some Minus) = refl

next-of_two : (o : Bool) (p : Option Sign) → next_state (cond o 3 4) p ≡ 4
next-of_two true None = refl
next-of_two true (Some Plus) = refl
next-of_two true (Some Minus) = refl
next-of_two false None = refl
next-of_two false (Some Plus) = refl
next-of_two false (Some Minus) = refl

pub state-more : (ps : List (Option Sign)) (p : Option Sign) → next_state (state_of ps) p ≡ state_of (ps ++ p ∷ [])
state-more [] p = refl
state-more (a ∷ []) p = next-of_one a p
state-more (a ∷ b ∷ []) p = next-of_two (are_opposite a b) p
state-more (a ∷ b ∷ d ∷ ps) p = next-of_two false p

pub state-most : (ps : List (Option Sign)) → state_of ps ≤ 4
state-most [] = omega arith
state-most (a ∷ []) = first a
  where
    first : (a : Option Sign) → next_state 0 a ≤ 4
    first None = omega arith
    first (Some Plus) = omega arith
    first (Some Minus) = omega arith
state-most (a ∷ b ∷ []) = second (are_opposite a b)
  where
    second : (o : Bool) → cond o 3 4 ≤ 4
    second true = omega arith
    second false = omega arith
state-most (a ∷ b ∷ d ∷ ps) = omega arith

-- the products through one cell more
module _ (c : CellComplex) (u : ℕ) (ts : List ℕ) (t s : ℕ) where
  abbrev product-at : ℕ → Option Sign
  product-at t = sign_product c s t u

  pub products-more : is_face c s t ≡ true
      → products c u (ts ++ t ∷ []) s ≡ products c u ts s ++ sign_product c s t u ∷ []
  products-more h =
      ap (map product-at) (filter-append (is_face c s) ts (t ∷ [])
      ∙ ap (λ xs. filter (is_face c s) ts ++ xs) (cond-true (is_face c s t) (t ∷ []) [] h))
      ∙ map-append product-at (filter (is_face c s) ts) (t ∷ [])

  pub products-same : is_face c s t ≡ false → products c u (ts ++ t ∷ []) s ≡ products c u ts s
  products-same h =
      ap (map product-at) (filter-append (is_face c s) ts (t ∷ [])
      ∙ ap (λ xs. filter (is_face c s) ts ++ xs) (cond-false (is_face c s t) (t ∷ []) [] h)
      ∙ append-none (filter (is_face c s) ts))
    where
      append-none : (xs : List ℕ) → xs ++ [] ≡ xs
      append-none [] = refl
      append-none (x ∷ xs) = ap (λ ys. x ∷ ys) (append-none xs)

-- the cells between s and u are those below u that are above s
middles_by_faces : (c : CellComplex) (s u : ℕ) → middles c s u ≡ filter (λ t. is_face c s t) (faces_of c u)
middles_by_faces c s u = sym (both (all_cells c))
  where
    both : (xs : List ℕ) → filter (λ t. is_face c s t) (filter (λ t. is_face c t u) xs)
        ≡ filter (λ t. is_face c s t && is_face c t u) xs
    both [] = refl
    both (x ∷ xs) = by (is_face c s x) (is_face c x u) refl (both xs)
      where
        low : List ℕ
        low = filter (λ t. is_face c t u) xs

        all : List ℕ
        all = filter (λ t. is_face c s t && is_face c t u) xs

        by : (a b : Bool) → is_face c s x ≡ a → filter (λ t. is_face c s t) low ≡ all
            → filter (λ t. is_face c s t) (cond b (x ∷ low) low) ≡ cond (a && b) (x ∷ all) all
        by true true e h = cond-true (is_face c s x) _ _ e ∙ ap (λ ys. x ∷ ys) h
        by true false e h = h
        by false true e h = cond-false (is_face c s x) _ _ e ∙ h
        by false false e h = h

cancel : (c : CellComplex) (s u : ℕ) (ts : List ℕ) → state_of (map (λ t. sign_product c s t u) ts) ≡ 3
    → middles_fault c s u ts ≡ None
cancel c s u [] h = absurd (omega (arith, h))
cancel c s u (a ∷ []) h = absurd (one (sign_product c s a u) h)
  where
    one : (o : Option Sign) → next_state 0 o ≡ 3 → ⊥
    one None e = omega (arith, e)
    one (Some Plus) e = omega (arith, e)
    one (Some Minus) e = omega (arith, e)
cancel c s u (a ∷ b ∷ []) h = two (are_opposite (sign_product c s a u) (sign_product c s b u)) _ h
  where
    two : {X : Type 0} (o : Bool) (x : X) → ◌≡◌ {A = ℕ} (cond o 3 4) 3 → cond o None (Some x) ≡ None
    two true x e = refl
    two false x e = absurd (omega (arith, e))
cancel c s u (a ∷ b ∷ d ∷ ts) h = absurd (omega (arith, h))

-- nothing is wrong where the marks of all faces of faces of u are those of two ways that cancel
pub passes_below : (c : CellComplex) (u : ℕ) (marks : List ℕ) → AreMarks c u (faces_of c u) marks
    → ((t s : ℕ) → is_face c t u ≡ true → is_face c s t ≡ true → get_or marks s 0 ≡ 4 * u + 3) → PassesBelow c u
passes_below c u marks are h s = by (middles c s u) refl
  where
    by : (ts : List ℕ) → middles c s u ≡ ts → pair_fault c s u ≡ None
    by [] is = ap (middles_fault c s u) is
    by (t ∷ ts) is =
        let b = first_middle c s u t ts is in
        let e : state_of (products c u (faces_of c u) s) ≡ 3 = omega (arith, are s, h t s b.1 b.0) in
        cancel c s u (middles c s u)
        (ap (λ xs. state_of (map (λ t. sign_product c s t u) xs)) (middles_by_faces c s u) ∙ e)

-- each pair with a cell between is judged at its upper cell
pub all-pass : (c : CellComplex) → IsComplex c → ((u : ℕ) → u < length c.dims → PassesBelow c u) → AllPass c
all-pass c k h s u = by (middles c s u) refl
  where
    by : (ts : List ℕ) → middles c s u ≡ ts → pair_fault c s u ≡ None
    by [] is = ap (middles_fault c s u) is
    by (t ∷ ts) is =
        let i = incident_from_face c k t u (first_middle c s u t ts is).1 in
        h u i.t_is_cell s

-- the mark of s after a way through the face of u at a place
pub mark-here : (c : CellComplex) (u at t s mark state : ℕ) (fs : List ℕ) (way : Option Sign) → at < length fs
    → get_or fs at 0 ≡ t → is_face c s t ≡ true → way ≡ sign_product c s t u
    → IsMark c u (take at fs) s mark → state ≡ next_state (mark - 4 * u) way
    → IsMark c u (take (at + 1) fs) s (4 * u + state)
mark-here c u at t s mark state fs way inside is face w old next =
    let more : take (at + 1) fs ≡ take at fs ++ t ∷ [] = take_more fs at 0 inside ∙ ap (λ t. take at fs ++ t ∷ []) is in
    let e : state ≡ state_of (products c u (take at fs ++ t ∷ []) s) = next ∙ ap₂ next_state old w
    ∙ state-more (products c u (take at fs) s) (sign_product c s t u)
    ∙ ap state_of (sym (products-more c u (take at fs) t s face)) in
    let f : (4 * u + state) - 4 * u ≡ state = omega arith in
    f ∙ e ∙ ap (λ ts. state_of (products c u ts s)) (sym more)

-- the marks of the first faces of a face
abbrev pub MarksDone : CellComplex → ℕ → List ℕ → List ℕ → ℕ → List ℕ → Type 0
MarksDone c u ts items j marks = (k : ℕ) → k < j → IsMark c u ts (get_or items k 0) (get_or marks (get_or items k 0) 0)

-- the marks of all other cells
abbrev pub MarksLeft : CellComplex → ℕ → List ℕ → List ℕ → ℕ → List ℕ → Type 0
MarksLeft c u ts items j marks = (s : ℕ) → ((k : ℕ) → k < j → get_or items k 0 ≢ s) → IsMark c u ts s (get_or marks s 0)

module _ (c : CellComplex) (u : ℕ) (ts items marks : List ℕ) (j x : ℕ) where
  pub done-more : IsStrictlyIncreasing items → j < length items → get_or items j 0 < length marks
      → IsMark c u ts (get_or items j 0) x → MarksDone c u ts items j marks
      → MarksDone c u ts items (j + 1) (set marks (get_or items j 0) x)
  done-more rise inside room here h k l = ⊎_elim
      (λ (e : k ≡ j). subst (λ k. IsMark c u ts (get_or items k 0) (get_or (set marks (get_or items j 0) x)
      (get_or items k 0) 0)) (sym e)
      (subst (IsMark c u ts (get_or items j 0)) (sym (get_or-set_same marks (get_or items j 0) x 0 room)) here))
      (λ (ne : k ≢ j). subst (IsMark c u ts (get_or items k 0)) (sym (get_or-set_other marks (get_or items j 0)
      (get_or items k 0) x 0
      (λ e. let a : get_or items k 0 < get_or items j 0 =
      AllPairs-from_increasing items rise k j 0 (omega arith) inside in
      omega (arith, e, a)))) (h k (omega arith)))
      (cases_eq k j)

  pub left-more : MarksLeft c u ts items j marks → MarksLeft c u ts items (j + 1) (set marks (get_or items j 0) x)
  left-more h s apart =
      subst (IsMark c u ts s)
      (sym (get_or-set_other marks (get_or items j 0) s x 0 (λ e. apart j (omega arith) (sym e))))
      (h s (λ k l. apart k (omega arith)))

-- the marks after all faces of the face of u at a place
pub marks-after : (c : CellComplex) → IsComplex c → (u at t : ℕ) (fs items : List ℕ) (n : ℕ) (marks : List ℕ)
    → at < length fs → get_or fs at 0 ≡ t → items ≡ faces_of c t → n ≡ length items
    → MarksDone c u (take (at + 1) fs) items n marks → MarksLeft c u (take at fs) items n marks
    → AreMarks c u (take (at + 1) fs) marks
marks-after c h u at t fs items n marks inside is cells size done left s = by (is_face c s t) refl
  where
    by : (b : Bool) → is_face c s t ≡ b → IsMark c u (take (at + 1) fs) s (get_or marks s 0)
    by true e =
        all-listed (λ s. IsMark c u (take (at + 1) fs) s (get_or marks s 0)) items n (omega (arith, size)) done s
        (ap (list_any (nat_eq s)) cells ∙ list_any-faces_of c h s t ∙ e)
    by false e =
        let more : take (at + 1) fs ≡ take at fs ++ t ∷ [] = take_more fs at 0 inside
        ∙ ap (λ t. take at fs ++ t ∷ []) is in
        left s (λ i l x. let f : is_face c (get_or items i 0) t ≡ true =
        subst (λ ss. All (λ s. is_face c s t ≡ true) ss) (sym cells) (filter_passes (λ s. is_face c s t) (all_cells c))
        i 0 (omega (arith, size, l)) in true≢false (sym f ∙ ap (λ s. is_face c s t) x ∙ e))
        ∙ ap state_of (sym (products-same c u (take at fs) t s e))
        ∙ ap (λ ts. state_of (products c u ts s)) (sym more)

-- for the next upper cell no cell is marked
pub unmarked-next : (c : CellComplex) (u : ℕ) (ts marks : List ℕ) → AreMarks c u ts marks → AreMarks c (u + 1) [] marks
unmarked-next c u ts marks h s =
    let e : get_or marks s 0 - 4 * u ≡ state_of (products c u ts s) = h s in
    let m : state_of (products c u ts s) ≤ 4 = state-most (products c u ts s) in
    let z : get_or marks s 0 - 4 * (u + 1) ≡ 0 = omega (arith, e, m) in z

pub unmarked-first : (c : CellComplex) (n : ℕ) → AreMarks c 0 [] (replicate n 0)
unmarked-first c n s = let z : get_or (replicate n 0) s 0 - 4 * 0 ≡ 0 = omega (arith, zeros n s) in z
  where
    zeros : (n k : ℕ) → ◌≡◌ {A = ℕ} (get_or (replicate n 0) k 0) 0
    zeros zero k = refl
    zeros (suc n) zero = refl
    zeros (suc n) (suc k) = zeros n k
