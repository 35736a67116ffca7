-- The places of faces among all faces.
use Rattle.std.proofs.Common.{◌≡◌, ℕ, suc, ◌+◌, ◌<◌, ◌≤◌, Bool, true, false, cond, not, ◌||◌, nat_eq, nat_lt, List, []}
use Rattle.std.proofs.Common.{◌∷◌, get_or, length, slice_get, None, Some, refl, sym, ap, ◌∙◌, subst, arith}
use Rattle.std.specs.List.{list_any, position_or_len, prefix_len}
use Rattle.std.specs.Option.{option_map}
use Rattle.std.proofs.lemmas.Bool.{true≢false, eq-eqb, eqb-true, and_from, and_parts, cond-true, lt-ltb, ltb-false}
use Rattle.std.proofs.lemmas.List.Folds.{find_at}
use Rattle.std.proofs.lemmas.List.Quantifiers.{position-Some}
use Rattle.std.proofs.lemmas.List.Sums.{position_or_len_is}
use Rattle.std.proofs.lemmas.Option.{get_or_from_slice_get, slice_get_within, slice_get_past}
use Rattle.cell_complex.specs.declared.face.Face.{Face}
use Rattle.cell_complex.specs.declared.face.Sign.TheVariants.{Plus}
use Rattle.cell_complex.specs.Complexes.{CellComplex, joins, is_face, sign}
use Rattle.cell_complex.specs.Invariants.{IsComplex, place}
use Rattle.cell_complex.proofs.Faults.{apart-sym}

-- a face stands where it is found
pub place-of_face : (c : CellComplex) → IsComplex c → (p : ℕ) (f : Face) → slice_get c.faces p ≡ Some f
    → place c f.s f.t ≡ Some p
place-of_face c h p f at =
    let fs : List Face = c.faces in
    let l : p < length fs = slice_get_within fs p f at in
    let is : get_or fs p f ≡ f = get_or_from_slice_get fs p f f at in
    let here : position_or_len (joins f.s f.t) fs ≡ p =
    position_or_len_is (joins f.s f.t) fs p f (omega arith)
    (λ k m. apart-sym (get_or fs k f) f (subst (λ g. joins (get_or fs k f).s (get_or fs k f).t g ≡ false) is
    (h.apart k p f m l)))
    (λ _. ap (joins f.s f.t) is ∙ and_from (nat_eq f.s f.s) (nat_eq f.t f.t) (eq-eqb f.s f.s refl)
    (eq-eqb f.t f.t refl)) in
    ap (λ n. cond (nat_lt n (length fs)) (Some n) None) here
    ∙ cond-true (nat_lt p (length fs)) (Some p) None (lt-ltb p (length fs) l)

-- the sign of a face by its place
pub sign-at : (c : CellComplex) (s t p : ℕ) (f : Face) → place c s t ≡ Some p → slice_get c.faces p ≡ Some f
    → sign c s t ≡ Some f.sign
sign-at c s t p f at is =
    ap (option_map (λ f. f.sign)) (find_at (joins s t) c.faces
    ∙ ap (slice_get c.faces) (by (nat_lt (position_or_len (joins s t) c.faces) (length c.faces)) at) ∙ is)
  where
    by : (b : Bool) → cond b (Some (position_or_len (joins s t) c.faces)) None ≡ Some p
        → position_or_len (joins s t) c.faces ≡ p
    by true e = cc
    by false e = absurd (cc)

-- the first element that passes the test
pub record FirstPassing {X : Type 0} (p : X → Bool) (xs : List X) : Type 0 where
  pub element : X
  pub found : slice_get xs (prefix_len (λ x. not (p x)) xs) ≡ Some element
  pub passes : p element ≡ true

pub first-passing : {X : Type 0} (p : X → Bool) (xs : List X) → list_any p xs ≡ true → FirstPassing p xs
first-passing p [] h = absurd (true≢false (sym h))
first-passing {X} p (x ∷ xs) h = by (p x) refl h (first-passing p xs)
  where
    n : ℕ
    n = prefix_len (λ x. not (p x)) xs

    by : (b : Bool) → p x ≡ b → (b || list_any p xs) ≡ true → (list_any p xs ≡ true → FirstPassing p xs)
        → FirstPassing p (x ∷ xs)
    by true e h later = record {
      element = x;
      found = ap (λ b. slice_get (x ∷ xs) (cond (not b) (1 + n) 0)) e;
      passes =
          e;
    }
    by false e h later =
        let r = later h in
        let step : 1 + n ≡ suc n = omega arith in
        record {
          element = r.element;
          found = ap (λ b. slice_get (x ∷ xs) (cond (not b) (1 + n) 0)) e ∙ ap (slice_get (x ∷ xs)) step ∙ r.found;
          passes = r.passes;
        }

-- what holds at each index holds of each listed number
pub all-listed : (Q : ℕ → Type 0) (xs : List ℕ) (n : ℕ) → length xs ≤ n → ((k : ℕ) → k < n → Q (get_or xs k 0))
    → (x : ℕ) → list_any (nat_eq x) xs ≡ true → Q x
all-listed Q xs n enough h x e =
    let f = first-passing (nat_eq x) xs e in
    let i : ℕ = prefix_len (λ y. not (nat_eq x y)) xs in
    let inside : i < length xs = slice_get_within xs i f.element f.found in
    subst Q (get_or_from_slice_get xs i f.element 0 f.found ∙ sym (eqb-true x f.element f.passes)) (h i (omega arith))

-- s is a face of t, at this place
pub record IsPlaced (c : CellComplex) (s t : ℕ) : Type 0 where
  pub at : ℕ
  pub is : place c s t ≡ Some at
  pub inside : at < length c.faces
  pub face : Face
  pub found : slice_get c.faces at ≡ Some face
  pub from : face.s ≡ s
  pub to : face.t ≡ t

pub placed : (c : CellComplex) (s t : ℕ) → is_face c s t ≡ true → IsPlaced c s t
placed c s t h =
    let n : ℕ = prefix_len (λ f. not (joins s t f)) c.faces in
    let first = first-passing (joins s t) c.faces h in
    let l : n < length c.faces = slice_get_within c.faces n first.element first.found in
    let ends = and_parts (nat_eq s first.element.s) (nat_eq t first.element.t) first.passes in
    record {
      at = n;
      is = cond-true (nat_lt n (length c.faces)) (Some n) None (lt-ltb n (length c.faces) l);
      inside = l;
      face = first.element;
      found = first.found;
      from = sym (eqb-true s first.element.s ends.0);
      to = sym (eqb-true t first.element.t ends.1);
    }
