-- Where the value of a cochain of degree 0 at a cell stands.
use Rattle.std.proofs.Common.{◌≡◌, ◌<◌, ◌||◌, ◌+◌, ◌++◌, ℕ, Bool, true, false, cond, eqb, List, [], ◌∷◌, Vec, length}
use Rattle.std.proofs.Common.{map}
use Rattle.std.proofs.Common.{take, drop, get_or, refl, sym, ap, ap₂, ◌∙◌, subst, arith}
use Rattle.std.proofs.lemmas.Bool.{eq-eqb}
use Rattle.std.proofs.lemmas.List.{take_more, take_all, map-append, get_or-map, length-map}
use Rattle.dense_blocks.specs.Solutions.{lists}
use Rattle.cochain_vec.specs.declared.cochain.Cochain.{Cochain}
use Rattle.cochain_vec.specs.Complexes.{total_size, value_at}
use Rattle.cochain_vec.proofs.CoboundaryLaws.{size_at}
use Rattle.rising_lists.specs.Rising.{IsRising, has}
use Rattle.rising_lists.proofs.Keyed.{has-at}
use Rattle.block_complexes.specs.BlockComplexes.{cells, degree_of, size_of}
use Rattle.block_complexes.specs.Cochains.{cell_of, of_degree}
use Rattle.block_complexes.proofs.LiveLaws.{cell-at, length-cells, of_cell-at, of_cell-absent}
use Rattle.block_complexes.proofs.DegreeLaws.{value-place, value-within, value-absent}
use Rattle.equivalences.specs.CochainLists.{values_of}
use Rattle.sections.specs.Places.{BeginAt}

-- a cell that has degree 0, where it is live, has its size among the cells of degree 0
pub vertex-size : (live : List (ℕ × ℕ × ℕ)) (s : ℕ) → (has s (cells live) ≡ true → degree_of live s ≡ 0)
    → size_at (of_degree 0 live) s ≡ size_of live s
unfolding size_at
vertex-size [] s h = refl
vertex-size (l ∷ ls) s h = go (eqb l.1 0) (eqb l.0 s) refl refl h (vertex-size ls s)
  where
    go : (b e : Bool) → eqb l.1 0 ≡ b → eqb l.0 s ≡ e
        → ((e || has s (cells ls)) ≡ true → cond e l.1 (degree_of ls s) ≡ 0)
        → ((has s (cells ls) ≡ true → degree_of ls s ≡ 0) → size_at (of_degree 0 ls) s ≡ size_of ls s)
        → size_at (cond b (cell_of l ∷ of_degree 0 ls) (of_degree 0 ls)) s ≡ cond e l.2 (size_of ls s)
    go true true f g vertex r = rw g refl
    go true false f g vertex r = rw g (r vertex)
    go false true f g vertex r = let zero : eqb l.1 0 ≡ true = eq-eqb l.1 0 (vertex refl) in cc
    go false false f g vertex r = r vertex

module _ (live : List (ℕ × ℕ × ℕ)) (s start : ℕ) where
  -- at a cell that is not live there is nothing
  pub start-absent : has s (cells live) ≡ false → start ≡ total_size (of_degree 0 live) → BeginAt live s start
  start-absent absent is =
      let none : size_of live s ≡ 0 = of_cell-absent (λ l. l.2) live s absent in record {
        value = λ z. value-absent 0 live z s absent ∙ sym (ap (λ n. take n (drop start z)) none);
        within = omega (arith, none, is);
      }

  pub start-found : (i : ℕ) → IsRising (cells live) → i < length live → (get_or live i (0, 0, 0)).0 ≡ s
      → (has s (cells live) ≡ true → degree_of live s ≡ 0) → start ≡ total_size (of_degree 0 (take i live))
      → BeginAt live s start
  start-found i rises inside at vertex is =
      let live_cell : has s (cells live) ≡ true =
      subst (λ c. has c (cells live) ≡ true) (cell-at live i inside ∙ at)
      (has-at (cells live) i (omega (arith, inside, length-cells live))) in
      let degree : (get_or live i (0, 0, 0)).1 ≡ 0 =
      sym (of_cell-at (λ l. l.1) live i s rises inside at) ∙ vertex live_cell in
      let size : size_of live s ≡ (get_or live i (0, 0, 0)).2 = of_cell-at (λ l. l.2) live i s rises inside at in
      record {
        value = λ z. ap (value_at (of_degree 0 live) z) (sym at) ∙ value-place 0 live z i rises inside degree
            ∙ ap₂ (λ (n m : ℕ). take n (drop m z)) (sym size) (sym is);
        within = omega (arith, value-within 0 live i inside degree, size, is);
      }

-- the coordinates of the cochain at a place
pub coordinates-at : (zs : List Cochain) (i : ℕ) (z : Cochain) → i < length zs → z ≡ get_or zs i z
    → z.values.items ≡ get_or (values_of zs) i []
coordinates-at zs i z inside is =
    let items : Cochain → List ℕ = λ z. z.values.items in ap items is ∙ sym (get_or-map items zs i z [] inside)

-- one value more
pub values-more : {Z : Type 0} (f : List ℕ → List ℕ) (zs : List Cochain) (i : ℕ) (z : Cochain)
    (now new : List (Vec ℕ Z)) (v : Vec ℕ Z) → i < length zs → z ≡ get_or zs i z
    → lists now ≡ map f (take i (values_of zs)) → v.items ≡ f z.values.items → new ≡ now ++ v ∷ []
    → lists new ≡ map f (take (i + 1) (values_of zs))
values-more {Z} f zs i z now new v inside is so_far value e =
    let count : length (values_of zs) ≡ length zs = length-map zs (λ (z : Cochain). z.values.items) in
    let row : List ℕ = get_or (values_of zs) i [] in
    ap lists e ∙ map-append (λ (u : Vec ℕ Z). u.items) now (v ∷ [])
    ∙ ap₂ (λ (us : List (List ℕ)) (u : List ℕ). us ++ u ∷ []) so_far (value ∙ ap f (coordinates-at zs i z inside is))
    ∙ sym (map-append f (take i (values_of zs)) (row ∷ []))
    ∙ ap (map f) (sym (take_more (values_of zs) i [] (omega (arith, inside, count))))

pub values-all : {Z : Type 0} (f : List ℕ → List ℕ) (zs : List Cochain) (i : ℕ) (now : List (Vec ℕ Z))
    → length zs ≡ i → lists now ≡ map f (take i (values_of zs)) → lists now ≡ map f (values_of zs)
values-all f zs i now e h =
    let count : length (values_of zs) ≡ length zs = length-map zs (λ (z : Cochain). z.values.items) in
    h ∙ ap (map f) (take_all i (values_of zs) (omega (arith, e, count)))
