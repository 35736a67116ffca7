-- The faces at a cell: those to it and those from it.
use Rattle.std.proofs.Common.{◌≡◌, ℕ, ◌<◌, Bool, true, false, ◌||◌, ◌&&◌, nat_eq, List, [], ◌∷◌, length, get_or, All}
use Rattle.std.proofs.Common.{refl, sym, ap, ap₂, ◌∙◌, arith}
use Rattle.std.specs.List.{list_any}
use Rattle.std.proofs.lemmas.Bool.{eqb-true, eq-eqb, and_from}
use Rattle.std.proofs.lemmas.List.Folds.{list_any_at}
use Rattle.std.proofs.lemmas.List.FromFn.{length-range_with_len, get_or-range_with_len}
use Rattle.std.proofs.lemmas.Map.Views.{any-filter_same}
use Rattle.cell_complex.specs.declared.face.Face.{Face}
use Rattle.cell_complex.specs.Complexes.{CellComplex, joins, all_cells, is_face, faces_of}
use Rattle.cell_complex.specs.Invariants.{IsComplex, cofaces_of}
use Rattle.cell_complex.proofs.Callers.{incident_from_face, list_any-cofaces_of}
use Rattle.edit_versions.specs.Works.{is_from, is_to, is_end}

eqb-sym : (a b : ℕ) → nat_eq a b ≡ nat_eq b a
eqb-sym a b = by (nat_eq a b) refl (nat_eq b a) refl
  where
    by : (x : Bool) → nat_eq a b ≡ x → (y : Bool) → nat_eq b a ≡ y → x ≡ y
    by true e true h = refl
    by true e false h = sym (eq-eqb b a (sym (eqb-true a b e))) ∙ h
    by false e true h = sym e ∙ eq-eqb a b (sym (eqb-true b a h))
    by false e false h = refl

spread : (a b x : Bool) → ((a && x) || (b && x)) ≡ ((a || b) && x)
spread true true true = refl
spread true true false = refl
spread true false true = refl
spread true false false = refl
spread false b x = refl

spread_left : (a b x : Bool) → ((x && a) || (x && b)) ≡ (x && (a || b))
spread_left a b true = refl
spread_left a b false = refl

or-swap : (a b : Bool) → (a || b) ≡ (b || a)
or-swap true true = refl
or-swap true false = refl
or-swap false true = refl
or-swap false false = refl

any-first : (a : ℕ) (x : Bool) (qs : List ℕ) → list_any (λ q. nat_eq q a && x) qs ≡ (list_any (nat_eq a) qs && x)
any-first a x [] = refl
any-first a x (q ∷ qs) =
    ap₂ (λ b rest. (b && x) || rest) (eqb-sym q a) (any-first a x qs) ∙ spread (nat_eq a q) (list_any (nat_eq a) qs) x

any-second : (a : ℕ) (x : Bool) (qs : List ℕ) → list_any (λ q. x && nat_eq q a) qs ≡ (x && list_any (nat_eq a) qs)
any-second a true [] = refl
any-second a false [] = refl
any-second a x (q ∷ qs) =
    ap₂ (λ b rest. (x && b) || rest) (eqb-sym q a) (any-second a x qs)
    ∙ spread_left (nat_eq a q) (list_any (nat_eq a) qs) x

-- s is in the list below t just where s is a face of t
list_any-faces_of : (c : CellComplex) → IsComplex c → (s t : ℕ) → list_any (nat_eq s) (faces_of c t) ≡ is_face c s t
list_any-faces_of c h s t =
    any-filter_same (nat_eq s) (λ q. is_face c q t) (is_face c s t)
    (λ k e. ap (λ q. is_face c q t) (sym (eqb-true s k e))) (all_cells c)
    ∙ by (is_face c s t) refl
  where
    by : (b : Bool) → is_face c s t ≡ b → (b && list_any (nat_eq s) (all_cells c)) ≡ b
    by true e =
        let i = incident_from_face c h s t e in
        list_any_at (nat_eq s) (all_cells c) s 0 (omega (arith, i.s_is_cell, length-range_with_len 0 (length c.dims)))
        (eq-eqb s (get_or (all_cells c) s 0) (omega (arith, get_or-range_with_len 0 (length c.dims) s 0 i.s_is_cell)))
    by false e = refl

-- a face of the complex is one
own-face : (c : CellComplex) (k : ℕ) (d : Face) → k < length c.faces
    → is_face c (get_or c.faces k d).s (get_or c.faces k d).t ≡ true
own-face c k d l =
    let f : Face = get_or c.faces k d in
    list_any_at (joins f.s f.t) c.faces k d l (and_from (nat_eq f.s f.s) (nat_eq f.t f.t) (eq-eqb f.s f.s refl)
    (eq-eqb f.t f.t refl))

-- what is above or below a cell is what has it as an end
pub ends-at : (c : CellComplex) → IsComplex c → (s : ℕ)
    → All (λ f. (is_from (faces_of c s) s f || is_to (cofaces_of c s) s f) ≡ is_end s f) c.faces
ends-at c h s k d l =
    ap₂ (λ x y. x || y)
    (any-first f.s (nat_eq s f.t) (faces_of c s) ∙ ap (λ b. b && nat_eq s f.t) (list_any-faces_of c h f.s s)
    ∙ below (nat_eq s f.t) refl)
    (any-second f.t (nat_eq s f.s) (cofaces_of c s) ∙ ap (λ b. nat_eq s f.s && b) (list_any-cofaces_of c h s f.t)
    ∙ above (nat_eq s f.s) refl)
    ∙ or-swap (nat_eq s f.t) (nat_eq s f.s)
  where
    f : Face
    f = get_or c.faces k d

    there : is_face c f.s f.t ≡ true
    there = own-face c k d l

    below : (b : Bool) → nat_eq s f.t ≡ b → (is_face c f.s s && b) ≡ b
    below true e = ap (λ t. is_face c f.s t && true) (eqb-true s f.t e) ∙ ap (λ b. b && true) there
    below false e = by (is_face c f.s s)
      where
        by : (b : Bool) → (b && false) ≡ false
        by true = refl
        by false = refl

    above : (b : Bool) → nat_eq s f.s ≡ b → (b && is_face c s f.t) ≡ b
    above true e = ap (λ q. is_face c q f.t) (eqb-true s f.s e) ∙ there
    above false e = refl
