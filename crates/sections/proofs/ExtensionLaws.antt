-- Sections with a given value, and what stands against them.
use Rattle.std.proofs.Common.{◌≡◌, ℕ, true, List, [], ◌∷◌, Vec, length, map, take, drop, get_or, All, refl, sym, ap}
use Rattle.std.proofs.Common.{ap₂}
use Rattle.std.proofs.Common.{◌∙◌, subst, arith}
use Rattle.std.proofs.lemmas.List.{length-map, get_or-map}
use Rattle.std.proofs.lemmas.List.Elements.{All-head, All-tail, All-map}
use Rattle.dense_blocks.specs.Field.{Ops}
use Rattle.dense_blocks.specs.FieldLaws.{IsField}
use Rattle.dense_blocks.specs.Vectors.{IsVector, zeros, plus, multiple, dot, combination}
use Rattle.dense_blocks.specs.Solutions.{Combines, Separates, lists}
use Rattle.dense_blocks.proofs.Shapes.{Matrix, to_vector, from_vector, matrix_of_rows}
use Rattle.dense_blocks.proofs.VectorLaws.{combination-vector, combination-dot, dot-comm, dot-zeros, multiple-zeros}
use Rattle.dense_blocks.proofs.VectorLaws.{plus-zeros, zeros-plus-zeros}
use Rattle.dense_blocks.proofs.LinearMaps.{IsLinear, linear-combination}
use Rattle.cochain_vec.specs.declared.cochain.Cochain.{Cochain}
use Rattle.cochain_vec.specs.Complexes.{CellularComplex, cells_of, coordinates, coboundary, value_at}
use Rattle.cochain_vec.specs.Cohomology.{IsCocycle, IsBasis}
use Rattle.cochain_vec.specs.Shapes.{RowsFit}
use Rattle.cochain_vec.proofs.CoboundaryLaws.{size_at, value-vector, value-plus, value-multiple, coboundary-combination}
use Rattle.rising_lists.specs.Rising.{has}
use Rattle.block_complexes.specs.BlockComplexes.{BlockComplex, IsBlockComplex, cells, degree_of, size_of}
use Rattle.block_complexes.specs.Cochains.{complex_of, of_degree}
use Rattle.equivalence_laws.proofs.CompositeLaws.{complex_fits}
use Rattle.sections.specs.Extensions.{IsSectionWith, IsObstruction, IsLeadingSection, section_values}
use Rattle.sections.specs.Places.{BeginAt}
use Rattle.sections.proofs.PlaceLaws.{vertex-size}

-- no section has a value that an obstruction stands against
pub obstructed : (K : Ops) (C : CellularComplex) (s : ℕ) (v z p : List ℕ) → IsSectionWith K C s v z
    → IsObstruction K C s v p → ⊥
obstructed K C s v z p h k =
    let same : 1 ≡ 0 = sym k.one ∙ ap (dot K p) (sym h.value) ∙ k.zero z h.cocycle in
    omega (arith, same)

-- the parts of cochains are their values
pub parts-are-values : (live : List (ℕ × ℕ × ℕ)) (s start n : ℕ) (B : List (List ℕ)) → BeginAt live s start
    → n ≡ size_of live s
    → map (λ z. take n (drop start z)) B ≡ map (λ z. value_at (of_degree 0 live) z s) B
parts-are-values live s start n [] begin e = refl
parts-are-values live s start n (z ∷ B) begin e =
    ap₂ ◌∷◌ (ap (λ k. take k (drop start z)) e ∙ sym (begin.value z)) (parts-are-values live s start n B begin e)

-- what holds of the lists in vectors
pub each-list : {Z : Type 0} (P : List ℕ → Type 0) (vs : List (Vec ℕ Z)) → All P (lists vs) → All (λ v. P v.items) vs
each-list {Z} P vs h k d l =
    let items : Vec ℕ Z → List ℕ = λ v. v.items in
    subst P (get_or-map items vs k d d.items l) (h k d.items (omega (arith, l, length-map vs items)))

-- what holds of the coordinates of cochains
pub each-cochain : (P : List ℕ → Type 0) (zs : List Cochain) → All P (map (λ z. z.values.items) zs)
    → All (λ z. P z.values.items) zs
each-cochain P zs h k d l =
    let items : Cochain → List ℕ = λ z. z.values.items in
    subst P (get_or-map items zs k d d.values.items l) (h k d.values.items (omega (arith, l, length-map zs items)))

module _ (K : Ops) (F : IsField K) where
  dots-zero : (p : List ℕ) (vs : List (List ℕ)) → All (λ v. dot K p v ≡ 0) vs
      → map (λ v. dot K v p) vs ≡ zeros (length vs)
  dots-zero p [] h = refl
  dots-zero p (v ∷ vs) h =
      ap₂ ◌∷◌ (dot-comm K F v p ∙ All-head (λ v. dot K p v ≡ 0) v vs h)
      (dots-zero p vs (All-tail (λ v. dot K p v ≡ 0) v vs h))

  -- a functional that is 0 on the vectors is 0 on their combinations
  dot-combination : (m n : ℕ) (p c : List ℕ) (vs : List (List ℕ)) → Matrix K m n vs → All (λ v. dot K p v ≡ 0) vs
      → dot K p (combination K n c vs) ≡ 0
  dot-combination m n p c vs h zero =
      dot-comm K F p (combination K n c vs) ∙ combination-dot K F m n c vs p h ∙ ap (dot K c) (dots-zero p vs zero)
      ∙ dot-zeros K F (length vs) c

  module _ (C : CellularComplex) (fits : RowsFit C) (B : List (List ℕ)) (b : IsBasis K C 0 B) where
    abbrev n : ℕ
    n = coordinates C 0

    pub basis-vectors : All (IsVector K n) B
    basis-vectors k d l = (b.cocycles k d l).cochain

    basis-rows : Matrix K (length B) n B
    basis-rows = matrix_of_rows K (length B) n B refl basis-vectors

    closed-sum : (cs : List ℕ) (zs : List (List ℕ)) → All (IsCocycle K C 0) zs
        → combination K (coordinates C 1) cs (map (coboundary K C 0) zs) ≡ zeros (coordinates C 1)
    closed-sum [] zs h = refl
    closed-sum (c ∷ cs) [] h = refl
    closed-sum (c ∷ cs) (z ∷ zs) h =
        ap₂ (plus K) (ap (multiple K c) (All-head (IsCocycle K C 0) z zs h).closed
        ∙ multiple-zeros K F c (coordinates C 1)) (closed-sum cs zs (All-tail (IsCocycle K C 0) z zs h))
        ∙ zeros-plus-zeros K F (coordinates C 1)

    -- combinations of the basis are sections
    combination-cocycle : (c : List ℕ) → IsCocycle K C 0 (combination K n c B)
    combination-cocycle c = record {
      cochain = from_vector K n (combination K n c B) (combination-vector K F (length B) n c B basis-rows);
      closed = coboundary-combination K F C fits 0 (length B) c B basis-rows ∙ closed-sum c B b.cocycles;
    }

    -- and each section is one
    section-combination : (z : List ℕ) → (h : IsCocycle K C 0 z)
        → z ≡ combination K n ((b.spans z h).coefficients) B
    section-combination z h =
        let r = b.spans z h in
        r.sum ∙ ap (plus K (combination K n r.coefficients B)) r.is_coboundary
        ∙ plus-zeros K F n (combination K n r.coefficients B)
        (combination-vector K F (length B) n r.coefficients B basis-rows)

    module _ (s : ℕ) where
      abbrev m : ℕ
      m = size_at (cells_of C 0) s

      abbrev value : List ℕ → List ℕ
      value z = value_at (cells_of C 0) z s

      value-linear : IsLinear K m n value
      value-linear = record {
        vector = λ z h. value-vector K (cells_of C 0) z s h;
        sums = λ u z hu hz. value-plus K (cells_of C 0) u z s;
        multiples = λ c z h. value-multiple K (cells_of C 0) c z s;
      }

      value-combination : (c : List ℕ) → value (combination K n c B) ≡ combination K m c (section_values C s B)
      value-combination c = linear-combination K F m n value value-linear (length B) c B basis-rows

      -- the values at s of the basis
      pub value-vectors : All (IsVector K m) (section_values C s B)
      value-vectors = All-map (IsVector K m) value B
          (λ k d l. from_vector K m (value (get_or B k d)) (value-vector K (cells_of C 0) (get_or B k d) s
          (to_vector K n (get_or B k d) (basis-vectors k d l))))

      value-rows : Matrix K (length B) m (section_values C s B)
      value-rows = matrix_of_rows K (length B) m (section_values C s B) (length-map B value) value-vectors

      pub section-leading : (v c z : List ℕ) → length v ≡ m → Combines K (section_values C s B) v c
          → z ≡ combination K n c B → IsSectionWith K C s v z × IsLeadingSection K C s v B z
      section-leading v c z size h e = (
        record {
          cocycle = subst (IsCocycle K C 0) (sym e) (combination-cocycle c);
          value = ap value e ∙ value-combination c
              ∙ ap (λ k. combination K k c (section_values C s B)) (sym size) ∙ h.gives;
        },
        record { coefficients = c; combines = h; sum = e },
      )

      pub separates-obstructs : (v p : List ℕ) → Separates K (section_values C s B) v p → IsObstruction K C s v p
      separates-obstructs v p h = record {
        functional = h.functional;
        zero = λ z cocycle.
            let c = (b.spans z cocycle).coefficients in
            ap (λ u. dot K p (value u)) (section-combination z cocycle)
            ∙ ap (dot K p) (value-combination c)
            ∙ dot-combination (length B) m p c (section_values C s B) value-rows h.zero;
        one = h.one;
      }

-- what solves for the values at s of a basis answers for the sections
module _ {Z : Type 0} (K : Ops) (F : IsField K) (w : BlockComplex) (is : IsBlockComplex K w) (B : List (List ℕ))
    (b : IsBasis K (complex_of w) 0 B) (s start : ℕ) (begin : BeginAt w.live s start)
    (vertex : has s (cells w.live) ≡ true → degree_of w.live s ≡ 0) (v : List ℕ) (size : length v ≡ size_of w.live s)
    (columns : List (Vec ℕ Z)) (parts : lists columns ≡ map (λ z. take (length v) (drop start z)) B) where
  abbrev C : CellularComplex
  C = complex_of w

  fits : RowsFit C
  fits = complex_fits K F w is

  size-is : length v ≡ size_at (cells_of C 0) s
  size-is = size ∙ sym (vertex-size w.live s vertex)

  columns-are : lists columns ≡ section_values C s B
  columns-are = parts ∙ parts-are-values w.live s start (length v) B begin size

  pub column-vectors : All (λ c. IsVector K (length v) c.items) columns
  column-vectors = each-list (IsVector K (length v)) columns
      (subst (All (IsVector K (length v))) (sym columns-are)
      (subst (λ m. All (IsVector K m) (section_values C s B)) (sym size-is) (value-vectors K F C fits B b s)))

  pub combined-section : (c z : List ℕ) → Combines K (lists columns) v c → z ≡ combination K (coordinates C 0) c B
      → IsSectionWith K C s v z × IsLeadingSection K C s v B z
  combined-section c z h e =
      section-leading K F C fits B b s v c z size-is (subst (λ vs. Combines K vs v c) columns-are h) e

  pub separating-obstruction : (p : List ℕ) → Separates K (lists columns) v p
      → ((z : List ℕ) → IsSectionWith K C s v z → ⊥) × IsObstruction K C s v p
      × Separates K (section_values C s B) v p
  separating-obstruction p h =
      let apart : Separates K (section_values C s B) v p = subst (λ vs. Separates K vs v p) columns-are h in
      let against : IsObstruction K C s v p = separates-obstructs K F C fits B b s v p apart in
      (λ z section. obstructed K C s v z p section against, against, apart)
