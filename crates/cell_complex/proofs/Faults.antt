-- What no fault says of a face, and what one face more changes.
use Rattle.std.proofs.Common.{◌≡◌, ◌≢◌, ℕ, ◌+◌, ◌<◌, Bool, true, false, cond, not, ◌||◌, nat_eq, nat_lt, List, []}
use Rattle.std.proofs.Common.{◌∷◌, ◌++◌, length, take, replicate, filter, set, get_or, slice_index, slice_get, None}
use Rattle.std.proofs.Common.{Some, refl, sym, ap, ap₂, ◌∙◌, subst, arith}
use Rattle.std.specs.List.{list_any}
use Rattle.std.specs.List.Sorted.{IsStrictlyIncreasing}
use Rattle.std.proofs.lemmas.Bool.{eq-eqb, ne_eqb, eqb-true, lt-ltb, ltb-true, and_from, and_left, and_right, and_parts}
use Rattle.std.proofs.lemmas.Bool.{false_from_ne_true, true≢false}
use Rattle.std.proofs.lemmas.List.{get_or-take, length-take, get_or_default, take_more, get_or-replicate}
use Rattle.std.proofs.lemmas.List.{length-replicate}
use Rattle.std.proofs.lemmas.List.Elements.{All-push, All-get_or}
use Rattle.std.proofs.lemmas.List.Folds.{list_any-append, list_any_none, list_any_at}
use Rattle.std.proofs.lemmas.List.FromFn.{length-map-range_with_len, get_or-map-range_with_len, fill_by_all}
use Rattle.std.proofs.lemmas.List.Kept.{IsStrictlyIncreasing-filter}
use Rattle.std.proofs.lemmas.List.Quantifiers.{all_pairs_push}
use Rattle.std.proofs.lemmas.List.Elements.{filter_agree}
use Rattle.std.proofs.lemmas.Option.{get_or_from_slice_get, slice_get_within}
use Rattle.cell_complex.specs.declared.face.Face.{Face}
use Rattle.cell_complex.specs.declared.fault.FaceFault.{FaceFault}
use Rattle.cell_complex.specs.declared.fault.FaceFault.TheVariants.{UnknownCell, WrongDims, TwiceFace}
use Rattle.cell_complex.specs.Complexes.{CellComplex, joins, all_cells}
use Rattle.cell_complex.specs.Invariants.{AreCells, IsComplex, AreApart, JoinsCells}
use Rattle.cell_complex.specs.Complexes.{is_face, faces_of}
use Rattle.cell_complex.specs.Invariants.{cofaces_of, with_face}
use Rattle.cell_complex.specs.Verdicts.{face_fault}
use Rattle.cell_complex.specs.Builds.{with_first_faces, AllAccepted, IsFirstFault}
use Rattle.cell_complex.specs.Fields.{AreNeighbourLists}
use Rattle.cell_complex.specs.Neighbours.{with_cell}
use Rattle.cell_complex.proofs.Numbers.{rising-range, with_cell-filter, set-map-range}

-- the face fits the cells, and is none of the faces
pub record IsNew (c : CellComplex) (f : Face) : Type 0 where
  pub fits : JoinsCells c.dims f
  pub absent : is_face c f.s f.t ≡ false

-- four tests, and the first that fails
first_of : {X : Type 0} (a b c d : Bool) (u v w x : X)
    → cond (not a) (Some u) (cond (not b) (Some v) (cond (not c) (Some w) (cond d (Some x) None))) ≡ None
    → (a ≡ true) × (b ≡ true) × (c ≡ true) × (d ≡ false)
first_of true true true true u v w x h = absurd (cc)
first_of true true true false u v w x h = (refl, refl, refl, refl)
first_of true true false d u v w x h = absurd (cc)
first_of true false c d u v w x h = absurd (cc)
first_of false b c d u v w x h = absurd (cc)

pub new_from_none : (c : CellComplex) (f : Face) → face_fault c f ≡ None → IsNew c f
new_from_none c f h =
    let e = first_of (nat_lt f.s (length c.dims)) (nat_lt f.t (length c.dims))
    (nat_eq (slice_index c.dims f.t) (slice_index c.dims f.s + 1)) (is_face c f.s f.t)
    (UnknownCell f.s) (UnknownCell f.t) (WrongDims f.s f.t) (TwiceFace f.s f.t) h in
    record {
      fits = record {
        s_is_cell = ltb-true f.s (length c.dims) e.0;
        t_is_cell = ltb-true f.t (length c.dims) e.1;
        one_up = eqb-true (slice_index c.dims f.t) (slice_index c.dims f.s + 1) e.2;
      };
      absent = e.3;
    }

-- the same, of a complex as its fields show it
pub new_from_view : (all now : CellComplex) (f : Face) → all ≡ now → face_fault now f ≡ None → IsNew all f
new_from_view all now f is h = new_from_none all f (ap (λ c. face_fault c f) is ∙ h)

pub none_from_new : (c : CellComplex) (f : Face) → IsNew c f → face_fault c f ≡ None
none_from_new c f h =
    tests (nat_lt f.s (length c.dims)) (nat_lt f.t (length c.dims))
    (nat_eq (slice_index c.dims f.t) (slice_index c.dims f.s + 1)) (is_face c f.s f.t)
    (lt-ltb f.s (length c.dims) h.fits.s_is_cell) (lt-ltb f.t (length c.dims) h.fits.t_is_cell)
    (eq-eqb (slice_index c.dims f.t) (slice_index c.dims f.s + 1) h.fits.one_up) h.absent
  where
    tests : (a b e d : Bool) → a ≡ true → b ≡ true → e ≡ true → d ≡ false
        → cond (not a) (Some (UnknownCell f.s))
        (cond (not b) (Some (UnknownCell f.t))
        (cond (not e) (Some (WrongDims f.s f.t)) (cond d (Some (TwiceFace f.s f.t)) None))) ≡ None
    tests true true true false p q r s = refl
    tests true true true true p q r s = absurd (cc)
    tests true true false d p q r s = absurd (cc)
    tests true false e d p q r s = absurd (cc)
    tests false b e d p q r s = absurd (cc)

pub apart-sym : (f g : Face) → AreApart f g → AreApart g f
apart-sym f g h = false_from_ne_true (joins g.s g.t f) (λ e.
    let p = and_parts (nat_eq g.s f.s) (nat_eq g.t f.t) e in
    true≢false (sym (and_from (nat_eq f.s g.s) (nat_eq f.t g.t) (eq-eqb f.s g.s (sym (eqb-true g.s f.s p.0)))
    (eq-eqb f.t g.t (sym (eqb-true g.t f.t p.1)))) ∙ h))

-- no face of the list joins the pair of f, just where each is apart from f
each_apart : (fs : List Face) (f : Face) → list_any (joins f.s f.t) fs ≡ false → (k : ℕ) (d : Face) → k < length fs
    → AreApart (get_or fs k d) f
each_apart fs f h k d l = apart-sym f (get_or fs k d) (false_from_ne_true (joins f.s f.t (get_or fs k d)) (λ e.
    true≢false (sym (list_any_at (joins f.s f.t) fs k d l e) ∙ h)))

-- a complex with a new face is a complex
pub complex-with_face : (c : CellComplex) (f : Face) → IsComplex c → IsNew c f → IsComplex (with_face c f)
complex-with_face c f h new = record {
  small = h.small;
  fit = All-push (JoinsCells c.dims) c.faces f h.fit new.fits;
  apart = all_pairs_push AreApart c.faces f h.apart (each_apart c.faces f new.absent);
}

-- each face is new to those before it
pub new-with_first_faces : (c : CellComplex) → IsComplex c → (k : ℕ) (f : Face) → slice_get c.faces k ≡ Some f
    → IsNew (with_first_faces c.dims c.faces k) f
new-with_first_faces c h k f at =
    let within : k < length c.faces = slice_get_within c.faces k f at in
    let is : get_or c.faces k f ≡ f = get_or_from_slice_get c.faces k f f at in
    record {
      fits = subst (JoinsCells c.dims) is (All-get_or (JoinsCells c.dims) c.faces k f within h.fit);
      absent = list_any_none (joins f.s f.t) (take k c.faces) (λ j d l.
          let before : j < k = omega (arith, length-take k c.faces) in
          apart-sym (get_or (take k c.faces) j d) f
          (subst (λ g. AreApart g f) (sym (get_or-take k c.faces j d before))
          (subst (λ g. AreApart (get_or c.faces j d) g) (get_or_default_is c.faces k d f within is)
          (h.apart j k d before within))));
    }
  where
    get_or_default_is : (fs : List Face) (k : ℕ) (d f : Face) → k < length fs → get_or fs k f ≡ f → get_or fs k d ≡ f
    get_or_default_is fs k d f l e = get_or_default fs k d f l ∙ e

-- no face of a complex has a fault, after those before it
pub accepted-complex : (c : CellComplex) → IsComplex c → AllAccepted c.dims c.faces
accepted-complex c h k f at = none_from_new (with_first_faces c.dims c.faces k) f (new-with_first_faces c h k f at)

-- the fault of the face after the first n, where these make a complex
pub first_fault : (dims : List ℕ) (faces : List Face) (n : ℕ) (f : Face) (fault : FaceFault)
    → IsComplex (with_first_faces dims faces n)
    → slice_get faces n ≡ Some f → face_fault (with_first_faces dims faces n) f ≡ Some fault
    → IsFirstFault dims faces n fault
first_fault dims faces n f fault h at is = record {
  fails = λ g here. let same : g ≡ f = cc in ap (face_fault (with_first_faces dims faces n)) same ∙ is;
  within = slice_get_within faces n f at;
  earlier = accepted-complex (with_first_faces dims faces n) h;
}

-- the cells alone
pub complex-empty : (dims : List ℕ) → AreCells dims → IsComplex record { dims = dims; faces = [] }
complex-empty dims h = record {
  small = h;
  fit = λ k d l. absurd (omega arith);
  apart = λ i j d l m. absurd (omega arith);
}

-- one face more of a list of faces
pub with_first_faces-more : (dims : List ℕ) (faces : List Face) (i : ℕ) (f : Face) → slice_get faces i ≡ Some f
    → with_face (with_first_faces dims faces i) f ≡ with_first_faces dims faces (i + 1)
with_first_faces-more dims faces i f at =
    ap (λ fs. record { dims = dims; faces = fs })
    (ap (λ g. take i faces ++ g ∷ []) (sym (get_or_from_slice_get faces i f f at))
    ∙ sym (take_more faces i f (slice_get_within faces i f at)))

-- whether s is a face of t, with a face more
is_face-with_face : (c : CellComplex) (f : Face) (s t : ℕ) → joins s t f ≡ false → is_face (with_face c f) s t
    ≡ is_face c s t
is_face-with_face c f s t h =
    list_any-append (joins s t) c.faces (f ∷ []) ∙ ap (λ b. is_face c s t || (b || false)) h ∙ or-false (is_face c s t)
  where
    or-false : (b : Bool) → (b || false) ≡ b
    or-false true = refl
    or-false false = refl

is_face-here : (c : CellComplex) (f : Face) → is_face (with_face c f) f.s f.t ≡ true
is_face-here c f =
    list_any-append (joins f.s f.t) c.faces (f ∷ [])
    ∙ ap (λ b. is_face c f.s f.t || (b || false)) (and_from (nat_eq f.s f.s) (nat_eq f.t f.t) (eq-eqb f.s f.s refl)
    (eq-eqb f.t f.t refl))
    ∙ or-true (is_face c f.s f.t)
  where
    or-true : (b : Bool) → (b || true) ≡ true
    or-true true = refl
    or-true false = refl

module _ (c : CellComplex) (f : Face) (new : IsNew c f) where
  faces_of-other : (t : ℕ) → t ≢ f.t → faces_of (with_face c f) t ≡ faces_of c t
  faces_of-other t ne =
      filter_agree (λ s. is_face (with_face c f) s t) (λ s. is_face c s t)
      (λ s. is_face-with_face c f s t (and_right (nat_eq s f.s) (nat_eq t f.t) (ne_eqb t f.t ne))) (all_cells c)

  cofaces_of-other : (s : ℕ) → s ≢ f.s → cofaces_of (with_face c f) s ≡ cofaces_of c s
  cofaces_of-other s ne =
      filter_agree (λ t. is_face (with_face c f) s t) (λ t. is_face c s t)
      (λ t. is_face-with_face c f s t (and_left (nat_eq s f.s) (nat_eq t f.t) (ne_eqb s f.s ne))) (all_cells c)

  faces_of-here : with_cell f.s (faces_of c f.t) ≡ faces_of (with_face c f) f.t
  faces_of-here =
      with_cell-filter (λ s. is_face c s f.t) (λ s. is_face (with_face c f) s f.t) f.s new.absent (is_face-here c f)
      (λ s ne. is_face-with_face c f s f.t (and_left (nat_eq s f.s) (nat_eq f.t f.t) (ne_eqb s f.s ne)))
      0 (length c.dims) (omega arith) (omega (arith, new.fits.s_is_cell))

  cofaces_of-here : with_cell f.t (cofaces_of c f.s) ≡ cofaces_of (with_face c f) f.s
  cofaces_of-here =
      with_cell-filter (λ t. is_face c f.s t) (λ t. is_face (with_face c f) f.s t) f.t new.absent (is_face-here c f)
      (λ t ne. is_face-with_face c f f.s t (and_right (nat_eq f.s f.s) (nat_eq t f.t) (ne_eqb t f.t ne)))
      0 (length c.dims) (omega arith) (omega (arith, new.fits.t_is_cell))

-- the lists of a complex: how many, and the list of a cell
module _ (c : CellComplex) (below above : List (List ℕ)) (h : AreNeighbourLists c below above) where
  pub below-size : length below ≡ length c.dims
  below-size = ap length h.below_is ∙ length-map-range_with_len (faces_of c) 0 (length c.dims)

  pub above-size : length above ≡ length c.dims
  above-size = ap length h.above_is ∙ length-map-range_with_len (cofaces_of c) 0 (length c.dims)

  pub below-at : (t : ℕ) → t < length c.dims → get_or below t [] ≡ faces_of c t
  below-at t l = ap (λ xs. get_or xs t []) h.below_is ∙ get_or-map-range_with_len (faces_of c) 0 (length c.dims) t t []
      l (omega arith)

  pub above-at : (s : ℕ) → s < length c.dims → get_or above s [] ≡ cofaces_of c s
  above-at s l = ap (λ xs. get_or xs s []) h.above_is ∙ get_or-map-range_with_len (cofaces_of c) 0 (length c.dims) s s
      [] l (omega arith)

  -- the lists with a new face
  pub neighbour_lists-with_face : (f : Face) → IsNew c f
      → AreNeighbourLists (with_face c f) (set below f.t (with_cell f.s (get_or below f.t [])))
      (set above f.s (with_cell f.t (get_or above f.s [])))
  neighbour_lists-with_face f new = record {
    complex = complex-with_face c f h.complex new;
    below_is =
        ap₂ (λ xs ys. set xs f.t (with_cell f.s ys)) h.below_is (below-at f.t new.fits.t_is_cell)
        ∙ set-map-range (faces_of c) (faces_of (with_face c f)) (length c.dims) f.t (with_cell f.s (faces_of c f.t))
        new.fits.t_is_cell (sym (faces_of-here c f new)) (faces_of-other c f new);
    above_is =
        ap₂ (λ xs ys. set xs f.s (with_cell f.t ys)) h.above_is (above-at f.s new.fits.s_is_cell)
        ∙ set-map-range (cofaces_of c) (cofaces_of (with_face c f)) (length c.dims) f.s
        (with_cell f.t (cofaces_of c f.s)) new.fits.s_is_cell (sym (cofaces_of-here c f new))
        (cofaces_of-other c f new);
  }

pub faces_of-rise : (c : CellComplex) (t : ℕ) → IsStrictlyIncreasing (faces_of c t)
faces_of-rise c t = IsStrictlyIncreasing-filter (λ s. is_face c s t) (all_cells c) (rising-range 0 (length c.dims))

pub cofaces_of-rise : (c : CellComplex) (s : ℕ) → IsStrictlyIncreasing (cofaces_of c s)
cofaces_of-rise c s = IsStrictlyIncreasing-filter (λ t. is_face c s t) (all_cells c) (rising-range 0 (length c.dims))

pub neighbour_lists-empty : (dims : List ℕ) → AreCells dims → AreNeighbourLists record { dims = dims; faces = [] }
    (replicate (length dims) []) (replicate (length dims) [])
neighbour_lists-empty dims h = record {
  complex = complex-empty dims h;
  below_is = fill_by_all (faces_of all) (replicate n []) n [] (length-replicate n [])
      (λ k l. get_or-replicate n k [] [] l ∙ sym (filter-none (all_cells all)));
  above_is = fill_by_all (cofaces_of all) (replicate n []) n [] (length-replicate n [])
      (λ k l. get_or-replicate n k [] [] l ∙ sym (filter-none (all_cells all)));
}
  where
    all : CellComplex
    all = record { dims = dims; faces = [] }

    n : ℕ
    n = length dims

    filter-none : (xs : List ℕ) → filter (λ _. false) xs ≡ []
    filter-none [] = refl
    filter-none (x ∷ xs) = filter-none xs
