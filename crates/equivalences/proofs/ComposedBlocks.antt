-- Blocks of a composite: each degree by itself, all degrees, and the equivalence that they are.
use Rattle.std.proofs.Common.{◌≡◌, ℕ, zero, suc, ◌≤◌, List, [], ◌∷◌, ◌++◌, length, Some, slice_get, refl, sym, ap, ap₂}
use Rattle.std.proofs.Common.{◌+◌, ◌∙◌, subst, inl, inr}
use Rattle.std.proofs.lemmas.List.{length_push}
use Rattle.std.proofs.lemmas.Option.{same_Some, none-some, slice_get_past, slice_get_cases}
use Rattle.std.specs.Option.{option_map_or}
use Rattle.dense_blocks.specs.Field.{Ops}
use Rattle.dense_blocks.specs.FieldLaws.{IsField}
use Rattle.dense_blocks.specs.Vectors.{AllScalars, zeros}
use Rattle.dense_blocks.specs.Matrices.{product}
use Rattle.dense_blocks.specs.MatrixFacts.{zero_matrix, matrix_sum}
use Rattle.dense_blocks.specs.declared.block.Block.{Block}
use Rattle.dense_blocks.specs.Blocks.{matrix_of}
use Rattle.dense_blocks.specs.BlockFacts.{IsBlock}
use Rattle.dense_blocks.proofs.Shapes.{Matrix, matrix-size}
use Rattle.dense_blocks.proofs.BlockLaws.{block-matrix_at}
use Rattle.dense_blocks.proofs.MatrixLaws.{product-zero_matrix, matrix_sum-zero_matrix}
use Rattle.cochain_vec.specs.Complexes.{CellularComplex, coordinates}
use Rattle.equivalence_laws.specs.Equivalences.{GradedMatrix, composite_pi, composite_iota, composite_h, IsEquivalence}
use Rattle.equivalence_laws.proofs.CompositionLaws.{equivalences_compose}
use Rattle.equivalences.specs.declared.equivalence.Equivalence.{Equivalence}
use Rattle.equivalences.specs.GradedBlocks.{HoldsMatrix, AreBlocksOver}
use Rattle.equivalence_laws.specs.Equivalences.{graded_matrix}
use Rattle.equivalences.specs.Between.{AreMapsBetween}
use Rattle.equivalences.specs.Composition.{ForComposable, IsCompositeBetween, IsCompositeOf, JoinsEquivalences}

-- the matrix of a degree that has a block
pub graded-at : (blocks : List Block) (k : ℕ) (b : Block) → slice_get blocks k ≡ Some b
    → graded_matrix blocks k ≡ matrix_of b
graded-at blocks k b here = ap (λ o. option_map_or matrix_of o []) here

-- and of one above them
pub graded-past : (blocks : List Block) (k : ℕ) → length blocks ≤ k → graded_matrix blocks k ≡ []
graded-past blocks k above = ap (λ o. option_map_or matrix_of o []) (slice_get_past blocks k above)

-- what holds of each member, and of one more
pub each-push : {A : Type 0} (P : ℕ → A → Type 0) (xs : List A) (x : A)
    → ((k : ℕ) (a : A) → slice_get xs k ≡ Some a → P k a) → P (length xs) x
    → (k : ℕ) (a : A) → slice_get (xs ++ x ∷ []) k ≡ Some a → P k a
each-push P [] x each last zero a here = subst (P 0) (same_Some x a here) last
each-push P [] x each last (suc k) a here = absurd (none-some a here)
each-push P (y ∷ xs) x each last zero a here = each zero a here
each-push P (y ∷ xs) x each last (suc k) a here =
    each-push (λ j. P (suc j)) xs x (λ j. each (suc j)) last k a here

pub count-push : (xs ys : List Block) (b : Block) (k : ℕ) → length xs ≡ k → ys ≡ xs ++ b ∷ [] → length ys ≡ k + 1
count-push xs ys b k size is = ap length is ∙ length_push xs b ∙ ap (λ n. n + 1) size

-- block k holds the matrix A k
abbrev pub HoldMatrices : Ops → (rows columns : ℕ → ℕ) → GradedMatrix → List Block → Type 0
HoldMatrices K rows columns A blocks = (k : ℕ) (b : Block) → slice_get blocks k ≡ Some b
    → HoldsMatrix K (rows k) (columns k) (A k) b

pub own-matrix : (K : Ops) (rows columns : ℕ → ℕ) (blocks : List Block) → AreBlocksOver K rows columns blocks
    → HoldMatrices K rows columns (graded_matrix blocks) blocks
own-matrix K rows columns blocks over k b here =
    record { shape = over k b here; matrix_is = sym (graded-at blocks k b here) }

pub matrices-over : (K : Ops) (rows columns : ℕ → ℕ) (A : GradedMatrix) (blocks : List Block)
    → HoldMatrices K rows columns A blocks → AreBlocksOver K rows columns blocks
matrices-over K rows columns A blocks each k b here = (each k b here).shape

-- where A has no rows above, these are its matrices
pub graded-is : (K : Ops) (rows columns : ℕ → ℕ) (A : GradedMatrix) (blocks : List Block)
    → HoldMatrices K rows columns A blocks → ((k : ℕ) → length blocks ≤ k → A k ≡ []) → (k : ℕ)
    → graded_matrix blocks k ≡ A k
graded-is K rows columns A blocks each above k =
    elim (slice_get_cases blocks k).1 [
      | inl w ↦ graded-at blocks k w.0 w.2 ∙ (each k w.0 w.2).matrix_is
      | inr w ↦ graded-past blocks k w.0 ∙ sym (above k w.0)
    ]

pub product-holds : (K : Ops) (l m n : ℕ) (A B : List (List ℕ)) (a b c : Block) → HoldsMatrix K l m A a
    → HoldsMatrix K m n B b → IsBlock c a.rows b.cols (product K b.cols (matrix_of a) (matrix_of b))
    → AllScalars K c.entries → HoldsMatrix K l n (product K n A B) c
product-holds K l m n A B a b c ha hb is scalars = record {
  shape = record {
    rows_are = is.rows_are ∙ ha.shape.rows_are;
    columns_are = is.columns_are ∙ hb.shape.columns_are;
    scalars = scalars;
  };
  matrix_is = is.matrix_is ∙ ap (λ j. product K j (matrix_of a) (matrix_of b)) hb.shape.columns_are
      ∙ ap₂ (product K n) ha.matrix_is hb.matrix_is;
}

pub sum-holds : (K : Ops) (m n : ℕ) (A B : List (List ℕ)) (a b c : Block) → HoldsMatrix K m n A a
    → HoldsMatrix K m n B b → IsBlock c a.rows a.cols (matrix_sum K (matrix_of a) (matrix_of b))
    → AllScalars K c.entries → HoldsMatrix K m n (matrix_sum K A B) c
sum-holds K m n A B a b c ha hb is scalars = record {
  shape = record {
    rows_are = is.rows_are ∙ ha.shape.rows_are;
    columns_are = is.columns_are ∙ ha.shape.columns_are;
    scalars = scalars;
  };
  matrix_is = is.matrix_is ∙ ap₂ (matrix_sum K) ha.matrix_is hb.matrix_is;
}

-- a product with a matrix that has no rows
product-nil : (K : Ops) (n : ℕ) (A : List (List ℕ)) → product K n A [] ≡ zero_matrix (length A) n
product-nil K n [] = refl
product-nil K n ([] ∷ A) = ap (λ B. zeros n ∷ B) (product-nil K n A)
product-nil K n ((c ∷ r) ∷ A) = ap (λ B. zeros n ∷ B) (product-nil K n A)

holds-matrix : (K : Ops) (m n : ℕ) (A : List (List ℕ)) (b : Block) → HoldsMatrix K m n A b → Matrix K m n A
holds-matrix K m n A b h =
    subst (Matrix K m n) h.matrix_is
    (block-matrix_at K b m n h.shape.rows_are h.shape.columns_are h.shape.scalars)

module _ (K : Ops) (F : IsField K) where
  -- where pi1 has no rows in the degree above, h1 + iota1 h2 pi1 is h1
  pub last-h : (l m p n : ℕ) (A B H : List (List ℕ)) (a b c : Block) → HoldsMatrix K l n H c → HoldsMatrix K l m A a
      → HoldsMatrix K m p B b
      → H ≡ matrix_sum K H (product K n A (product K n B []))
  last-h l m p n A B H a b c hc ha hb =
      sym (ap (λ D. matrix_sum K H (product K n A D))
      (product-nil K n B ∙ ap (λ j. zero_matrix j n) (matrix-size K m p B (holds-matrix K m p B b hb)))
      ∙ ap (matrix_sum K H) (product-zero_matrix K F l m n A (holds-matrix K l m A a ha))
      ∙ matrix_sum-zero_matrix K F l n H (holds-matrix K l n H c hc))

module _ (K : Ops) (first second : Equivalence) where
  abbrev pub pi_matrix : CellularComplex → GradedMatrix
  pi_matrix C = composite_pi K C (graded_matrix first.pi) (graded_matrix second.pi)

  abbrev pub iota_matrix : CellularComplex → GradedMatrix
  iota_matrix E = composite_iota K E (graded_matrix first.iota) (graded_matrix second.iota)

  abbrev pub h_matrix : CellularComplex → GradedMatrix
  h_matrix C = composite_h K C (graded_matrix first.pi) (graded_matrix first.iota) (graded_matrix first.h)
      (graded_matrix second.h)

  -- each block of a degree
  module _ (F : IsField K) (C D E : CellularComplex) (one : AreMapsBetween K C D first)
      (two : AreMapsBetween K D E second) (k : ℕ) where
    pub pi-holds : (a b c : Block) → slice_get second.pi k ≡ Some a → slice_get first.pi k ≡ Some b
        → IsBlock c a.rows b.cols (product K b.cols (matrix_of a) (matrix_of b)) → AllScalars K c.entries
        → HoldsMatrix K (coordinates E k) (coordinates C k) (pi_matrix C k) c
    pi-holds a b c a_is b_is is scalars =
        product-holds K (coordinates E k) (coordinates D k) (coordinates C k) (graded_matrix second.pi k)
        (graded_matrix first.pi k) a b c
        (own-matrix K (coordinates E) (coordinates D) second.pi two.pi k a a_is)
        (own-matrix K (coordinates D) (coordinates C) first.pi one.pi k b b_is) is scalars

    pub iota-holds : (a b c : Block) → slice_get first.iota k ≡ Some a → slice_get second.iota k ≡ Some b
        → IsBlock c a.rows b.cols (product K b.cols (matrix_of a) (matrix_of b)) → AllScalars K c.entries
        → HoldsMatrix K (coordinates C k) (coordinates E k) (iota_matrix E k) c
    iota-holds a b c a_is b_is is scalars =
        product-holds K (coordinates C k) (coordinates D k) (coordinates E k) (graded_matrix first.iota k)
        (graded_matrix second.iota k) a b c
        (own-matrix K (coordinates C) (coordinates D) first.iota one.iota k a a_is)
        (own-matrix K (coordinates D) (coordinates E) second.iota two.iota k b b_is) is scalars

    -- in the last degree, where pi1 has no rows above, h1 + iota1 h2 pi1 is h1
    pub last-h-holds : (own iota other copy : Block) → slice_get first.h k ≡ Some own
        → slice_get first.iota k ≡ Some iota → slice_get second.h k ≡ Some other → 16 ≤ suc k → copy ≡ own
        → HoldsMatrix K (coordinates C k) (coordinates C (suc k)) (h_matrix C k) copy
    last-h-holds own iota other copy own_is iota_is other_is last is =
        let m = coordinates C k in
        let n = coordinates C (suc k) in
        let A = graded_matrix first.iota k in
        let B = graded_matrix second.h k in
        let H = graded_matrix first.h k in
        let holds = own-matrix K (coordinates C) (λ j. coordinates C (suc j)) first.h one.h k own own_is in
        subst (λ P. HoldsMatrix K m n (matrix_sum K H (product K n A (product K n B P))) copy)
        (sym (graded-past first.pi (suc k) (subst (λ j. j ≤ suc k) (sym first.pi_count) last)))
        (subst (λ S. HoldsMatrix K m n S copy)
        (last-h K F m (coordinates D k) (coordinates D (suc k)) n A B H iota other own holds
        (own-matrix K (coordinates C) (coordinates D) first.iota one.iota k iota iota_is)
        (own-matrix K (coordinates D) (λ j. coordinates D (suc j)) second.h two.h k other other_is))
        (subst (HoldsMatrix K m n H) (sym is) holds))

    pub h-holds : (own iota other pi inner carried h : Block) → slice_get first.h k ≡ Some own
        → slice_get first.iota k ≡ Some iota → slice_get second.h k ≡ Some other → slice_get first.pi (suc k) ≡ Some pi
        → IsBlock inner other.rows pi.cols (product K pi.cols (matrix_of other) (matrix_of pi))
        → AllScalars K inner.entries
        → IsBlock carried iota.rows inner.cols (product K inner.cols (matrix_of iota) (matrix_of inner))
        → AllScalars K carried.entries
        → IsBlock h own.rows own.cols (matrix_sum K (matrix_of own) (matrix_of carried)) → AllScalars K h.entries
        → HoldsMatrix K (coordinates C k) (coordinates C (suc k)) (h_matrix C k) h
    h-holds own iota other pi inner carried h own_is iota_is other_is pi_is inner_block inner_scalars carried_block
        carried_scalars h_block h_scalars =
        let m = coordinates C k in
        let n = coordinates C (suc k) in
        let A = graded_matrix first.iota k in
        let B = graded_matrix second.h k in
        let P = graded_matrix first.pi (suc k) in
        sum-holds K m n (graded_matrix first.h k) (product K n A (product K n B P)) own carried h
        (own-matrix K (coordinates C) (λ j. coordinates C (suc j)) first.h one.h k own own_is)
        (product-holds K m (coordinates D k) n A (product K n B P) iota inner carried
        (own-matrix K (coordinates C) (coordinates D) first.iota one.iota k iota iota_is)
        (product-holds K (coordinates D k) (coordinates D (suc k)) n B P other pi inner
        (own-matrix K (coordinates D) (λ j. coordinates D (suc j)) second.h two.h k other other_is)
        (own-matrix K (coordinates D) (coordinates C) first.pi one.pi (suc k) pi pi_is) inner_block inner_scalars)
        carried_block carried_scalars)
        h_block h_scalars

  -- three lists that hold the composite, as far as they go
  pub record HoldComposite (C E : CellularComplex) (pi iota h : List Block) : Type 0 where
    pub pi_holds : HoldMatrices K (coordinates E) (coordinates C) (pi_matrix C) pi
    pub iota_holds : HoldMatrices K (coordinates C) (coordinates E) (iota_matrix E) iota
    pub h_holds : HoldMatrices K (coordinates C) (λ k. coordinates C (suc k)) (h_matrix C) h

  -- a degree more
  pub more-hold : (C E : CellularComplex) (k : ℕ) (pi iota h pi' iota' h' : List Block) (p i q : Block)
      → HoldComposite C E pi iota h → length pi ≡ k → length iota ≡ k → length h ≡ k
      → HoldsMatrix K (coordinates E k) (coordinates C k) (pi_matrix C k) p
      → HoldsMatrix K (coordinates C k) (coordinates E k) (iota_matrix E k) i
      → HoldsMatrix K (coordinates C k) (coordinates C (suc k)) (h_matrix C k) q
      → pi' ≡ pi ++ p ∷ [] → iota' ≡ iota ++ i ∷ [] → h' ≡ h ++ q ∷ [] → HoldComposite C E pi' iota' h'
  more-hold C E k pi iota h pi' iota' h' p i q all pi_size iota_size h_size pi_next iota_next h_next pi_is iota_is
      h_is =
      record {
        pi_holds = one-more (coordinates E) (coordinates C) (pi_matrix C) pi pi' p pi_size all.pi_holds pi_next pi_is;
        iota_holds = one-more (coordinates C) (coordinates E) (iota_matrix E) iota iota' i iota_size all.iota_holds
            iota_next iota_is;
        h_holds = one-more (coordinates C) (λ j. coordinates C (suc j)) (h_matrix C) h h' q h_size all.h_holds h_next
            h_is;
      }
    where
      one-more : (rows columns : ℕ → ℕ) (A : GradedMatrix) (xs ys : List Block) (b : Block) → length xs ≡ k
          → HoldMatrices K rows columns A xs → HoldsMatrix K (rows k) (columns k) (A k) b → ys ≡ xs ++ b ∷ []
          → HoldMatrices K rows columns A ys
      one-more rows columns A xs ys b size each last is =
          subst (HoldMatrices K rows columns A) (sym is)
          (each-push (λ j x. HoldsMatrix K (rows j) (columns j) (A j) x) xs b each
          (subst (λ j. HoldsMatrix K (rows j) (columns j) (A j) b) (sym size) last))

  -- the same of all degrees
  all-hold : (C E : CellularComplex) (e : Equivalence) → HoldComposite C E e.pi e.iota e.h
      → IsCompositeBetween K C E first second e
  all-hold C E e all = record {
    maps = record {
      pi = matrices-over K (coordinates E) (coordinates C) (pi_matrix C) e.pi all.pi_holds;
      iota = matrices-over K (coordinates C) (coordinates E) (iota_matrix E) e.iota all.iota_holds;
      h = matrices-over K (coordinates C) (λ k. coordinates C (suc k)) (h_matrix C) e.h all.h_holds;
    };
    pi_is = graded-is K (coordinates E) (coordinates C) (pi_matrix C) e.pi all.pi_holds
        (λ k above. ap (λ A. product K (coordinates C k) A (graded_matrix first.pi k))
        (graded-past second.pi k (subst (λ n. n ≤ k) (e.pi_count ∙ sym second.pi_count) above)));
    iota_is = graded-is K (coordinates C) (coordinates E) (iota_matrix E) e.iota all.iota_holds
        (λ k above. ap (λ A. product K (coordinates E k) A (graded_matrix second.iota k))
        (graded-past first.iota k (subst (λ n. n ≤ k) (e.iota_count ∙ sym first.iota_count) above)));
    h_is = graded-is K (coordinates C) (λ k. coordinates C (suc k)) (h_matrix C) e.h all.h_holds
        (λ k above. ap (λ A. matrix_sum K A (product K (coordinates C (suc k)) (graded_matrix first.iota k)
        (product K (coordinates C (suc k)) (graded_matrix second.h k) (graded_matrix first.pi (suc k)))))
        (graded-past first.h k (subst (λ n. n ≤ k) (e.h_count ∙ sym first.h_count) above)));
  }

  pub whole-composite : (pi iota h : List Block) (e : Equivalence)
      → ForComposable K first second (λ C D E. HoldComposite C E pi iota h) → e.pi ≡ pi → e.iota ≡ iota → e.h ≡ h
      → IsCompositeOf K first second e
  whole-composite pi iota h e each is_pi is_iota is_h C D E one two =
      let all = each C D E one two in
      all-hold C E e (record {
        pi_holds = subst (HoldMatrices K (coordinates E) (coordinates C) (pi_matrix C)) (sym is_pi) all.pi_holds;
        iota_holds = subst (HoldMatrices K (coordinates C) (coordinates E) (iota_matrix E)) (sym is_iota)
            all.iota_holds;
        h_holds = subst (HoldMatrices K (coordinates C) (λ k. coordinates C (suc k)) (h_matrix C)) (sym is_h)
            all.h_holds;
      })

  -- it is an equivalence where the two are
  pub composite-joins : IsField K → (e : Equivalence) → IsCompositeOf K first second e
      → JoinsEquivalences K first second e
  composite-joins F e composite C D E fits fits_D fits_E e1 e2 =
      let is = composite C D E e1.maps e2.maps in
      let same_pi : pi_matrix C ≡ graded_matrix e.pi = λ i k. sym (is.pi_is k) i in
      let same_iota : iota_matrix E ≡ graded_matrix e.iota = λ i k. sym (is.iota_is k) i in
      let same_h : h_matrix C ≡ graded_matrix e.h = λ i k. sym (is.h_is k) i in
      record {
        maps = is.maps;
        equivalence = subst (λ (p : GradedMatrix). IsEquivalence K C E p (graded_matrix e.iota) (graded_matrix e.h))
            same_pi
            (subst (λ (j : GradedMatrix). IsEquivalence K C E (pi_matrix C) j (graded_matrix e.h)) same_iota
            (subst (λ (h : GradedMatrix). IsEquivalence K C E (pi_matrix C) (iota_matrix E) h) same_h
            (equivalences_compose K C D E (graded_matrix first.pi) (graded_matrix first.iota) (graded_matrix first.h)
            (graded_matrix second.pi) (graded_matrix second.iota) (graded_matrix second.h) F fits fits_D fits_E
            e1.equivalence e2.equivalence)));
      }
