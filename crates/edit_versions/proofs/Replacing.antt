-- Matrices replaced at the faces that pass a test.
use Rattle.std.proofs.Common.{◌≡◌, ℕ, zero, suc, ◌+◌, ◌<◌, Bool, true, false, cond, not, ◌||◌, nat_eq, nat_lt, List, []}
use Rattle.std.proofs.Common.{◌∷◌, length, get_or, set, slice_get, None, Some, is_some, All, AllPairs, refl, sym, ap}
use Rattle.std.proofs.Common.{ap₂, ◌∙◌, arith}
use Rattle.std.specs.List.{list_any, prefix_len}
use Rattle.std.proofs.lemmas.Bool.{both_ways, lt-ltb, ltb-true, ltb_from_iff, and_parts, eqb-true}
use Rattle.std.proofs.lemmas.List.Elements.{All-head, All-tail}
use Rattle.std.proofs.lemmas.Option.{slice_get_within, get_or_from_slice_get}
use Rattle.cell_complex.specs.declared.face.Face.{Face}
use Rattle.cell_complex.specs.Complexes.{CellComplex, joins, is_face}
use Rattle.cell_complex.specs.Invariants.{place, AreApart}
use Rattle.square_check.proofs.Placed.{some-same}
use Rattle.dense_blocks.specs.Blocks.{WrittenMatrix}
use Rattle.edit_versions.specs.Works.{with_replacements}

ltb-suc : (a b : ℕ) → nat_lt (suc a) (suc b) ≡ nat_lt a b
ltb-suc a b = ltb_from_iff (
  λ e. let l : suc a < suc b = ltb-true (suc a) (suc b) e in omega arith,
  λ l.
      lt-ltb (suc a) (suc b) (omega arith),
)

-- there is a first element that passes just where one passes
first-any : {X : Type 0} (p : X → Bool) (xs : List X) → nat_lt (prefix_len (λ x. not (p x)) xs) (length xs)
    ≡ list_any p xs
first-any p [] = refl
first-any {X} p (x ∷ xs) = by (p x) (first-any p xs)
  where
    n : ℕ
    n = prefix_len (λ x. not (p x)) xs

    by : (b : Bool) → nat_lt n (length xs) ≡ list_any p xs → nat_lt (cond (not b) (1 + n) 0) (suc (length xs))
        ≡ (b || list_any p xs)
    by true later = lt-ltb 0 (suc (length xs)) (omega arith)
    by false later =
        let e : 1 + n ≡ suc n = omega arith in
        ap (λ m. nat_lt m (suc (length xs))) e ∙ ltb-suc n (length xs) ∙ later

is_some-cond : (b : Bool) (n : ℕ) → is_some (cond b (Some n) None) ≡ b
is_some-cond true n = refl
is_some-cond false n = refl

-- s has a place in t just where it is a face of t
pub is_some-place : (c : CellComplex) (s t : ℕ) → is_some (place c s t) ≡ is_face c s t
is_some-place c s t =
    is_some-cond (nat_lt (prefix_len (λ f. not (joins s t f)) c.faces) (length c.faces))
    (prefix_len (λ f. not (joins s t f)) c.faces)
    ∙ first-any (joins s t) c.faces

pub length-replaced : (p : Face → Bool) (make : Face → WrittenMatrix) (fs : List Face) (ms : List WrittenMatrix)
    → length fs ≡ length ms
    → length (with_replacements p make fs ms) ≡ length ms
length-replaced p make [] [] e = refl
length-replaced p make [] (m ∷ ms) e = absurd (omega arith)
length-replaced p make (f ∷ fs) [] e = absurd (omega arith)
length-replaced p make (f ∷ fs) (m ∷ ms) e = ap suc (length-replaced p make fs ms (omega arith))

-- where no face passes, nothing is replaced
pub replaced-none : (p : Face → Bool) (make : Face → WrittenMatrix) (fs : List Face) (ms : List WrittenMatrix)
    → length fs ≡ length ms
    → All (λ f. p f ≡ false) fs → with_replacements p make fs ms ≡ ms
replaced-none p make [] [] e h = refl
replaced-none p make [] (m ∷ ms) e h = absurd (omega arith)
replaced-none p make (f ∷ fs) [] e h = absurd (omega arith)
replaced-none p make (f ∷ fs) (m ∷ ms) e h =
    ap₂ (λ b rest. cond b (make f) m ∷ rest) (All-head (λ f. p f ≡ false) f fs h)
    (replaced-none p make fs ms (omega arith) (All-tail (λ f. p f ≡ false) f fs h))

-- two tests that agree on the faces replace the same
pub replaced-same : (p q : Face → Bool) (make : Face → WrittenMatrix) (fs : List Face) (ms : List WrittenMatrix)
    → All (λ f. p f ≡ q f) fs
    → with_replacements p make fs ms ≡ with_replacements q make fs ms
replaced-same p q make [] ms h = refl
replaced-same p q make (f ∷ fs) [] h = refl
replaced-same p q make (f ∷ fs) (m ∷ ms) h =
    ap₂ (λ b rest. cond b (make f) m ∷ rest) (All-head (λ f. p f ≡ q f) f fs h)
    (replaced-same p q make fs ms (All-tail (λ f. p f ≡ q f) f fs h))

-- replaced twice: at the faces that pass either test
pub replaced-replaced : (p q : Face → Bool) (make again : Face → WrittenMatrix) (fs : List Face)
    (ms : List WrittenMatrix)
    → ((f : Face) → q f ≡ true → again f ≡ make f) → with_replacements q again fs (with_replacements p make fs ms)
    ≡ with_replacements (λ f. p f || q f) make fs ms
replaced-replaced p q make again [] ms h = refl
replaced-replaced p q make again (f ∷ fs) [] h = refl
replaced-replaced p q make again (f ∷ fs) (m ∷ ms) h =
    ap₂ (λ first rest. first ∷ rest) (by (p f) (q f) (h f)) (replaced-replaced p q make again fs ms h)
  where
    by : (b d : Bool) → (d ≡ true → again f ≡ make f) → cond d (again f) (cond b (make f) m) ≡ cond (b || d) (make f) m
    by true true g = g refl
    by true false g = refl
    by false true g = g refl
    by false false g = refl

-- a face apart from that of s in t is not that of s in t
apart-from : (s t : ℕ) (g h : Face) → joins s t g ≡ true → AreApart g h → joins s t h ≡ false
apart-from s t g h is away =
    let p = and_parts (nat_eq s g.s) (nat_eq t g.t) is in
    ap₂ (λ a b. joins a b h) (eqb-true s g.s p.0) (eqb-true t g.t p.1) ∙ away

-- a matrix put at the place of a face
pub replaced-one : (s t : ℕ) (x : WrittenMatrix) (fs : List Face) (ms : List WrittenMatrix) (i : ℕ) (f : Face)
    → length fs ≡ length ms
    → AllPairs AreApart fs → slice_get fs i ≡ Some f → joins s t f ≡ true → set ms i x ≡ with_replacements (joins s t)
    (λ g. x) fs ms
replaced-one s t x [] ms i f e apart here is = cc
replaced-one s t x (g ∷ fs) [] i f e apart here is = absurd (omega arith)
replaced-one s t x (g ∷ fs) (m ∷ ms) zero f e apart here is =
    let head : joins s t g ≡ true = ap (joins s t) (some-same g f here) ∙ is in
    let others : All (λ h. joins s t h ≡ false) fs = λ k d l. apart-from s t g (get_or fs k d) head
    (apart zero (suc k) d (omega arith) (omega arith)) in
    ap₂ (λ b rest. cond b x m ∷ rest) (sym head) (sym (replaced-none (joins s t) (λ h. x) fs ms (omega arith) others))
replaced-one s t x (g ∷ fs) (m ∷ ms) (suc i) f e apart here is =
    ap₂ (λ b rest. cond b x m ∷ rest) (sym (other (joins s t g) refl))
    (replaced-one s t x fs ms i f (omega arith) (λ j k d l h. apart (suc j) (suc k) d (omega arith) (omega arith)) here
    is)
  where
    there : AreApart g f
    there =
        let l : i < length fs = slice_get_within fs i f here in
        let a : AreApart g (get_or fs i f) = apart zero (suc i) f (omega arith) (omega arith) in
        ap (joins g.s g.t) (sym (get_or_from_slice_get fs i f f here)) ∙ a

    other : (b : Bool) → joins s t g ≡ b → b ≡ false
    other true h = absurd (both_ways (joins s t f) (apart-from s t g f h there) is)
    other false h = refl

-- two makings that agree where the test passes replace the same
pub replaced-agree : (p : Face → Bool) (make again : Face → WrittenMatrix) (fs : List Face) (ms : List WrittenMatrix)
    → ((f : Face) → p f ≡ true → make f ≡ again f) → with_replacements p make fs ms ≡ with_replacements p again fs ms
replaced-agree p make again [] ms h = refl
replaced-agree p make again (f ∷ fs) [] h = refl
replaced-agree p make again (f ∷ fs) (m ∷ ms) h = ap₂ (λ first rest. first ∷ rest) (by (p f) (h f))
    (replaced-agree p make again fs ms h)
  where
    by : (b : Bool) → (b ≡ true → make f ≡ again f) → cond b (make f) m ≡ cond b (again f) m
    by true g = g refl
    by false g = refl
