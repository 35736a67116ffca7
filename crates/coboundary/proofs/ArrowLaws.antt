-- The arrows of a sheaf from one cell to another: none, or the one of a face.
use Rattle.std.proofs.Common.{◌≡◌, ℕ, suc, ◌+◌, Bool, true, false, cond, not, ◌&&◌, nat_eq, nat_lt, eqb, List, [], ◌∷◌}
use Rattle.std.proofs.Common.{length, find, slice_get, None, Some, All, AllPairs, refl, sym, ap, ap₂, ◌∙◌, arith}
use Rattle.std.specs.Prelude.{position}
use Rattle.std.specs.List.{list_any, position_or_len}
use Rattle.std.specs.Option.{option_map, option_and_then}
use Rattle.std.proofs.lemmas.Bool.{and_parts, eqb-true, eq-eqb, or_parts, or_from, lt-ltb, le-ltb, ltb-true, ltb-false}
use Rattle.std.proofs.lemmas.List.Elements.{All-head, All-tail, All-cons}
use Rattle.cell_complex.specs.declared.face.Face.{Face}
use Rattle.cell_complex.specs.declared.face.Sign.{Sign}
use Rattle.cell_complex.specs.Complexes.{joins}
use Rattle.cell_complex.specs.Invariants.{AreApart}
use Rattle.dense_blocks.specs.Field.{Ops}
use Rattle.dense_blocks.specs.FieldLaws.{IsField}
use Rattle.dense_blocks.specs.Vectors.{zeros, plus}
use Rattle.dense_blocks.specs.Matrices.{image_of}
use Rattle.dense_blocks.specs.Blocks.{matrix_of}
use Rattle.dense_blocks.specs.declared.block.Block.{Block}
use Rattle.dense_blocks.proofs.Shapes.{Vector}
use Rattle.dense_blocks.proofs.VectorLaws.{plus-zeros}
use Rattle.square_check.proofs.Placed.{some-same}
use Rattle.cochain_vec.specs.Complexes.{Arrow, sum_into}
use Rattle.cochain_vec.proofs.CoboundaryLaws.{RowsInto, image_of-rows}
use Rattle.cochain_vec.proofs.PathLaws.{arrows_from}
use Rattle.sheaf_data.specs.Betti.{signed_matrix}
use Rattle.sheaf_data.specs.Arrows.{arrow_of_face, arrows_of}

pub eqb-sym : (a b : ℕ) → eqb a b ≡ eqb b a
eqb-sym a b = go (eqb a b) (eqb b a) refl refl
  where
    go : (x y : Bool) → eqb a b ≡ x → eqb b a ≡ y → x ≡ y
    go true true e f = refl
    go true false e f = sym (eq-eqb b a (sym (eqb-true a b e))) ∙ f
    go false true e f = sym e ∙ eq-eqb a b (sym (eqb-true b a f))
    go false false e f = refl

-- where the head fails the test, what is found lies behind it; where it passes, the head is found
pub find-behind : {X : Type 0} (p : X → Bool) (x : X) (xs : List X) → p x ≡ false → find p (x ∷ xs) ≡ find p xs
find-behind p x xs e = ap (λ b. cond b (Some x) (find p xs)) e

pub at_place-behind : {X Y : Type 0} (p : X → Bool) (x : X) (xs : List X) (y : Y) (ys : List Y) → p x ≡ false
    → option_and_then (slice_get (y ∷ ys)) (position p (x ∷ xs)) ≡ option_and_then (slice_get ys) (position p xs)
at_place-behind {X} {Y} p x xs y ys e =
    ap (λ b. option_and_then (slice_get (y ∷ ys)) (cond (nat_lt (cond (not b) (1 + n) 0) (suc (length xs)))
    (Some (cond (not b) (1 + n) 0)) None)) e
    ∙ ap (λ m. option_and_then (slice_get (y ∷ ys)) (cond (nat_lt m (suc (length xs))) (Some m) None)) step
    ∙ go (nat_lt n (length xs)) refl
  where
    n : ℕ
    n = position_or_len p xs

    step : 1 + n ≡ suc n
    step = omega arith

    go : (b : Bool) → nat_lt n (length xs) ≡ b
        → option_and_then (slice_get (y ∷ ys)) (cond (nat_lt (suc n) (suc (length xs))) (Some (suc n)) None)
        ≡ option_and_then (slice_get ys) (cond b (Some n) None)
    go true e = ap (λ c. option_and_then (slice_get (y ∷ ys)) (cond c (Some (suc n)) None))
        (lt-ltb (suc n) (suc (length xs)) (omega (arith, ltb-true n (length xs) e)))
    go false e = ap (λ c. option_and_then (slice_get (y ∷ ys)) (cond c (Some (suc n)) None))
        (le-ltb (suc n) (suc (length xs)) (omega (arith, ltb-false n (length xs) e)))

pub at_place-front : {X Y : Type 0} (p : X → Bool) (x : X) (xs : List X) (y : Y) (ys : List Y) → p x ≡ true
    → option_and_then (slice_get (y ∷ ys)) (position p (x ∷ xs)) ≡ Some y
at_place-front {X} p x xs y ys e =
    ap (λ b. option_and_then (slice_get (y ∷ ys))
    (cond (nat_lt (cond (not b) (1 + position_or_len p xs) 0) (suc (length xs)))
    (Some (cond (not b) (1 + position_or_len p xs) 0)) None)) e
    ∙ ap (λ c. option_and_then (slice_get (y ∷ ys)) (cond c (Some 0) None)) (lt-ltb 0 (suc (length xs)) (omega arith))

module _ (K : Ops) (F : IsField K) (s t n : ℕ) (value : ℕ → List ℕ) where
  -- the sum over the arrows from s to t
  abbrev pub between : List Face → List Block → List ℕ
  between fs bs = sum_into K (arrows_from (arrows_of K fs bs) s) value n t

  between-more : (f : Face) (fs : List Face) (b : Block) (bs : List Block)
      → between (f ∷ fs) (b ∷ bs) ≡ cond (joins s t f)
      (plus K (image_of K (signed_matrix K f.sign (matrix_of b)) (value s)) (between fs bs)) (between fs bs)
  between-more f fs b bs =
      go (eqb f.s s) (eqb-true f.s s)
      ∙ ap₂ (λ x y. cond (x && y) (plus K (image_of K A (value s)) rest) rest) (eqb-sym f.s s) (eqb-sym f.t t)
    where
      A : List (List ℕ)
      A = signed_matrix K f.sign (matrix_of b)

      rest : List ℕ
      rest = between fs bs

      go : (x : Bool) → (x ≡ true → f.s ≡ s)
          → sum_into K (cond x (arrow_of_face K f b ∷ arrows_from (arrows_of K fs bs) s)
          (arrows_from (arrows_of K fs bs) s)) value n t
          ≡ cond (x && eqb f.t t) (plus K (image_of K A (value s)) rest) rest
      go true e = ap (λ i. cond (eqb f.t t) (plus K (image_of K A (value i)) rest) rest) (e refl)
      go false e = refl

  pub between-none : (fs : List Face) (bs : List Block) → list_any (joins s t) fs ≡ false → between fs bs ≡ zeros n
  between-none [] bs h = refl
  between-none (f ∷ fs) [] h = refl
  between-none (f ∷ fs) (b ∷ bs) h =
      let p = or_parts (joins s t f) (list_any (joins s t) fs) h in
      between-more f fs b bs ∙ ap
      (λ x. cond x (plus K (image_of K (signed_matrix K f.sign (matrix_of b)) (value s)) (between fs bs))
      (between fs bs)) p.0
      ∙ between-none fs bs p.1

  -- no later face joins what the first one does
  apart : (f : Face) (fs : List Face) → joins s t f ≡ true → All (AreApart f) fs → list_any (joins s t) fs ≡ false
  apart f [] e h = refl
  apart f (g ∷ fs) e h =
      let p = and_parts (nat_eq s f.s) (nat_eq t f.t) e in
      or_from (joins s t g) (list_any (joins s t) fs)
      (ap₂ (λ i j. joins i j g) (eqb-true s f.s p.0) (eqb-true t f.t p.1) ∙ All-head (AreApart f) g fs h)
      (apart f fs e (All-tail (AreApart f) g fs h))

  pub between-face : (fs : List Face) (bs : List Block) → length bs ≡ length fs → AllPairs AreApart fs
      → RowsInto (arrows_of K fs bs) n t
      → (g : Sign) (b : Block) → option_map (λ f. f.sign) (find (joins s t) fs) ≡ Some g
      → option_and_then (slice_get bs) (position (joins s t) fs) ≡ Some b
      → between fs bs ≡ image_of K (signed_matrix K g (matrix_of b)) (value s)
  unfolding RowsInto
  between-face [] bs e h rows g b is_sign is_block = cc
  between-face (f ∷ fs) [] e h rows g b is_sign is_block = absurd (omega arith)
  between-face (f ∷ fs) (c ∷ bs) e h rows g b is_sign is_block =
      between-more f fs c bs
      ∙ go (joins s t f) refl
      (λ later_sign later_block. between-face fs bs (omega arith)
      (λ i j d l m. h (suc i) (suc j) d (omega arith) (omega arith))
      (All-tail Rows (arrow_of_face K f c) (arrows_of K fs bs) rows) g b later_sign later_block)
    where
      Rows : Arrow → Type 0
      Rows a = a.to ≡ t → length a.matrix ≡ n

      first : List ℕ
      first = image_of K (signed_matrix K f.sign (matrix_of c)) (value s)

      go : (x : Bool) → joins s t f ≡ x
          → (option_map (λ (f : Face). f.sign) (find (joins s t) fs) ≡ Some g
          → option_and_then (slice_get bs) (position (joins s t) fs) ≡ Some b
          → between fs bs ≡ image_of K (signed_matrix K g (matrix_of b)) (value s))
          → cond x (plus K first (between fs bs)) (between fs bs) ≡ image_of K (signed_matrix K g (matrix_of b))
          (value s)
      go true at later =
          let ends = and_parts (nat_eq s f.s) (nat_eq t f.t) at in
          let sign : Some f.sign ≡ Some g =
          ap (λ x. option_map (λ (f : Face). f.sign) (cond x (Some f) (find (joins s t) fs))) (sym at) ∙ is_sign in
          let block : Some c ≡ Some b = sym (at_place-front (joins s t) f fs c bs at) ∙ is_block in
          let none : between fs bs ≡ zeros n =
          between-none fs bs (apart f fs at (λ i d l. h 0 (suc i) d (omega arith) (omega arith))) in
          let shape : Vector K n first =
          image_of-rows K F n (signed_matrix K f.sign (matrix_of c)) (value s)
          (All-head Rows (arrow_of_face K f c) (arrows_of K fs bs) rows (sym (eqb-true t f.t ends.1))) in
          ap (plus K first) none ∙ plus-zeros K F n first shape
          ∙ ap₂ (λ x y. image_of K (signed_matrix K x (matrix_of y)) (value s)) (some-same f.sign g sign)
          (some-same c b block)
      go false at later =
          later (ap (option_map (λ (f : Face). f.sign)) (sym (find-behind (joins s t) f fs at)) ∙ is_sign)
          (sym (at_place-behind (joins s t) f fs c bs at) ∙ is_block)

-- what holds of the arrow of each face holds of each arrow
pub all-arrows : (K : Ops) (P : Arrow → Type 0) (fs : List Face) (bs : List Block)
    → ((p : ℕ) (f : Face) (b : Block) → slice_get fs p ≡ Some f → slice_get bs p ≡ Some b → P (arrow_of_face K f b))
    → All P (arrows_of K fs bs)
all-arrows K P [] bs h = λ k d l. absurd (omega arith)
all-arrows K P (f ∷ fs) [] h = λ k d l. absurd (omega arith)
all-arrows K P (f ∷ fs) (b ∷ bs) h =
    All-cons P (arrow_of_face K f b) (arrows_of K fs bs) (h 0 f b refl refl)
    (all-arrows K P fs bs (λ p g c e d. h (suc p) g c e d))
