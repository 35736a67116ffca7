-- More vectors than coordinates are dependent: some coefficients, not all of them zero, combine them to zero.
use Rattle.std.proofs.Common.{◌≡◌, ◌≢◌, ◌⊎◌, inl, inr, ℕ, zero, suc, ◌+◌, ◌<◌, List, [], ◌∷◌, ◌++◌, map, length, refl}
use Rattle.std.proofs.Common.{sym, ap, ap₂, ◌∙◌, subst, arith, length-append}
use Rattle.std.proofs.lemmas.Bool.{cases_eq}
use Rattle.std.proofs.lemmas.List.{length-map}
use Rattle.dense_blocks.specs.Field.{Ops}
use Rattle.dense_blocks.specs.FieldLaws.{IsField}
use Rattle.dense_blocks.specs.Vectors.{zeros, plus, multiple, dot, combination}
use Rattle.dense_blocks.specs.MatrixFacts.{negative}
use Rattle.dense_blocks.specs.Columns.{Annihilate}
use Rattle.dense_blocks.proofs.ScalarLaws.{zero_below, one_below, neg_add, one_mul, mul_neg}
use Rattle.dense_blocks.proofs.Shapes.{Vector, Matrix, matrix-size}
use Rattle.dense_blocks.proofs.VectorLaws.{zeros-vector, plus-vector, negative-vector, multiple-vector, dot-below}
use Rattle.dense_blocks.proofs.VectorLaws.{dot-zeros, plus-dot, negative-dot, multiple-dot}
use Rattle.dense_blocks.proofs.ClearingLaws.{kills-append, kills-join}
use Rattle.dense_blocks.proofs.InverseLaws.{kills-image_of}
use Rattle.dense_blocks.proofs.LinearMaps.{by_columns, columns-matrix, image_of-columns}

-- each row has n scalars
abbrev AreRows : Ops → ℕ → List (List ℕ) → Type 0
AreRows K n [] = Unit {0}
AreRows K n (r ∷ A) = Vector K n r × AreRows K n A

-- the first entry of a row, and the others
abbrev head : List ℕ → ℕ
head [] = 0
head (a ∷ v) = a

abbrev tail : List ℕ → List ℕ
tail [] = []
tail (a ∷ v) = v

-- the first entry of each row is zero
abbrev ZeroHeads : List (List ℕ) → Type 0
ZeroHeads [] = Unit {0}
ZeroHeads (r ∷ A) = (head r ≡ 0) × ZeroHeads A

-- a row with a first entry that is not zero, and the rows before and after it
record NonzeroHead (A : List (List ℕ)) : Type 0 where
  before : List (List ℕ)
  row : List ℕ
  after : List (List ℕ)
  is : A ≡ before ++ (row ∷ after)
  not_zero : head row ≢ 0

-- each first entry is zero, or there is a row where it is not
split_at_head : (A : List (List ℕ)) → ZeroHeads A ⊎ NonzeroHead A
split_at_head [] = inl tt
split_at_head (r ∷ A) = elim (cases_eq (head r) 0) [
  | inl e ↦ elim (split_at_head A) [
    | inl h ↦ inl (e, h)
    | inr p ↦ inr (record {
      before = r ∷ p.before;
      row = p.row;
      after = p.after;
      is = ap (λ t. r ∷ t) p.is;
      not_zero = p.not_zero;
    })
  ]
  | inr n ↦ inr (record { before = []; row = r; after = A; is = refl; not_zero = n })
]

-- rows one list after another
rows-append : (K : Ops) (n : ℕ) (A B : List (List ℕ)) → AreRows K n (A ++ B) → AreRows K n A × AreRows K n B
rows-append K n [] B h = (tt, h)
rows-append K n (r ∷ A) B h = let p : AreRows K n A × AreRows K n B = rows-append K n A B h.1 in ((h.0, p.0), p.1)

append-rows : (K : Ops) (n : ℕ) (A B : List (List ℕ)) → AreRows K n A → AreRows K n B → AreRows K n (A ++ B)
append-rows K n [] B ha hb = hb
append-rows K n (r ∷ A) B ha hb = (ha.0, append-rows K n A B ha.1 hb)

one_not_zero : ◌≡◌ {A = ℕ} 1 0 → ⊥
one_not_zero e = omega arith

module _ (K : Ops) (F : IsField K) where
  no-head-kills : (n : ℕ) (A : List (List ℕ)) → AreRows K (suc n) A → ZeroHeads A → Annihilate K A (1 ∷ zeros n)
  no-head-kills n [] h z = tt
  no-head-kills n ([] ∷ A) h z = absurd h.0
  no-head-kills n ((a ∷ r) ∷ A) h z = (
    ap₂ K.add (F.mul_one a h.0.0 ∙ z.0) (dot-zeros K F n r) ∙ F.add_zero 0 (zero_below K F),
    no-head-kills n A h.1 z.1,
  )

  -- the row r without its first entry, which p takes away
  module _ (n : ℕ) (p0 : ℕ) (p : List ℕ) (p0_is : p0 < K.order) (p_is : Vector K n p) (p0_not : p0 ≢ 0) where
    without_head : List ℕ → List ℕ
    without_head r = plus K (tail r) (negative K (multiple K (K.mul (head r) (K.inv p0)) p))

    without_head-rows : (A : List (List ℕ)) → AreRows K (suc n) A → AreRows K n (map without_head A)
    unfolding without_head
    without_head-rows [] h = tt
    without_head-rows ([] ∷ A) h = absurd h.0
    without_head-rows ((a ∷ r) ∷ A) h = (
      plus-vector K F n r (negative K (multiple K (K.mul a (K.inv p0)) p)) h.0.1
          (negative-vector K F n (multiple K (K.mul a (K.inv p0)) p)
          (multiple-vector K F n (K.mul a (K.inv p0)) p p_is)),
      without_head-rows A h.1,
    )

    -- the first unknown, from the others
    first : List ℕ → ℕ
    first x = K.neg (K.mul (K.inv p0) (dot K p x))

    first-below : (x : List ℕ) → first x < K.order
    unfolding first
    first-below x = F.neg_below (K.mul (K.inv p0) (dot K p x))

    pivot-kills : (x : List ℕ) → dot K (p0 ∷ p) (first x ∷ x) ≡ 0
    unfolding first
    pivot-kills x =
        ap (λ t. K.add t (dot K p x))
        (mul_neg K F p0 (K.mul (K.inv p0) (dot K p x))
        ∙ ap K.neg (sym (F.mul_assoc p0 (K.inv p0) (dot K p x))
        ∙ ap (λ t. K.mul t (dot K p x)) (F.mul_inv p0 p0_is p0_not) ∙ one_mul K F (dot K p x) (dot-below K F p x)))
        ∙ neg_add K F (dot K p x)

    row-kills : (a : ℕ) (r x : List ℕ) → a < K.order → Vector K n r → dot K (without_head (a ∷ r)) x ≡ 0
        → dot K (a ∷ r) (first x ∷ x) ≡ 0
    unfolding first without_head
    row-kills a r x ha hr e =
        let c : ℕ = K.mul a (K.inv p0) in
        ap (λ t. K.add t (dot K r x)) (mul_neg K F a (K.mul (K.inv p0) (dot K p x))
        ∙ ap K.neg (sym (F.mul_assoc a (K.inv p0) (dot K p x))))
        ∙ F.add_comm (K.neg (K.mul c (dot K p x))) (dot K r x)
        ∙ ap (K.add (dot K r x)) (sym (negative-dot K F (multiple K c p) x ∙ ap K.neg (multiple-dot K F c p x)))
        ∙ sym (plus-dot K F n r (negative K (multiple K c p)) x hr
        (negative-vector K F n (multiple K c p) (multiple-vector K F n c p p_is)))
        ∙ e

    rows-kill : (A : List (List ℕ)) (x : List ℕ) → AreRows K (suc n) A → Annihilate K (map without_head A) x
        → Annihilate K A (first x ∷ x)
    rows-kill [] x h s = tt
    rows-kill ([] ∷ A) x h s = absurd h.0
    rows-kill ((a ∷ r) ∷ A) x h s = (row-kills a r x h.0.0 h.0.1 s.0, rows-kill A x h.1 s.1)

  -- a vector that is not zero, on which each row is zero
  abbrev KernelVector : ℕ → List (List ℕ) → Type 0
  KernelVector n A = (x : List ℕ) × Vector K n x × (x ≢ zeros n) × Annihilate K A x

  with-head : (n : ℕ) → ((A : List (List ℕ)) → AreRows K n A → length A < n → KernelVector n A)
      → (before : List (List ℕ)) (row : List ℕ) (after : List (List ℕ)) → AreRows K (suc n) (before ++ (row ∷ after))
      → head row ≢ 0
      → length (before ++ (row ∷ after)) < suc n → KernelVector (suc n) (before ++ (row ∷ after))
  with-head n ih before [] after h nz l = absurd (nz refl)
  with-head n ih before (p0 ∷ p) after h nz l =
      let split : AreRows K (suc n) before × AreRows K (suc n) ((p0 ∷ p) ∷ after) =
      rows-append K (suc n) before ((p0 ∷ p) ∷ after) h in
      let others : List (List ℕ) = before ++ after in
      let others_rows : AreRows K (suc n) others = append-rows K (suc n) before after split.0 split.1.1 in
      let p0_is : p0 < K.order = split.1.0.0 in
      let p_is : Vector K n p = split.1.0.1 in
      let small : List (List ℕ) = map (without_head n p0 p p0_is p_is nz) others in
      let less : length small < n =
      (let e1 : length small ≡ length others = length-map others (without_head n p0 p p0_is p_is nz) in
      let e2 : length others ≡ length before + length after = length-append before after in
      let e3 : length (before ++ ((p0 ∷ p) ∷ after)) ≡ length before + suc (length after) =
      length-append before ((p0 ∷ p) ∷ after) in
      omega arith) in
      let found : KernelVector n small = ih small (without_head-rows n p0 p p0_is p_is nz others others_rows) less in
      let x : List ℕ = first n p0 p p0_is p_is nz found.0 ∷ found.0 in
      let all : Annihilate K others x = rows-kill n p0 p p0_is p_is nz others found.0 others_rows found.3 in
      let parts : Annihilate K before x × Annihilate K after x = kills-append K before after x all in (
        x,
        (first-below n p0 p p0_is p_is nz found.0, found.1),
        (λ e. found.2 (ap tail {x = first n p0 p p0_is p_is nz found.0 ∷ found.0} e)),
        kills-join K before ((p0 ∷ p) ∷ after) x parts.0 (pivot-kills n p0 p p0_is p_is nz found.0, parts.1),
      )

  -- fewer equations than unknowns
  kernel : (n : ℕ) (A : List (List ℕ)) → AreRows K n A → length A < n → KernelVector n A
  kernel zero A h l = absurd (omega arith)
  kernel (suc n) A h l = elim (split_at_head A) [
    | inl z ↦ (
      1 ∷ zeros n,
      (one_below K F, zeros-vector K F n),
      (λ e. one_not_zero (ap head e)),
      no-head-kills n A h z,
    )
    | inr s ↦
        subst (KernelVector (suc n)) (sym s.is)
        (with-head n (λ B hb lb. kernel n B hb lb) s.before s.row s.after (subst (AreRows K (suc n)) s.is h) s.not_zero
        (subst (λ B. length B < suc n) s.is l))
  ]

  matrix-rows-are : (m n : ℕ) (A : List (List ℕ)) → Matrix K m n A → AreRows K n A
  matrix-rows-are zero n [] h = tt
  matrix-rows-are zero n (r ∷ A) h = absurd h
  matrix-rows-are (suc m) n [] h = absurd h
  matrix-rows-are (suc m) n (r ∷ A) h = (h.0, matrix-rows-are m n A h.1)

  -- more vectors than coordinates are dependent
  pub dependent : (n m : ℕ) (A : List (List ℕ)) → Matrix K n m A → m < n → (d : List ℕ) × Vector K n d × (d ≢ zeros n)
      × (combination K m d A ≡ zeros m)
  dependent n m A h l =
      let C : Matrix K m n (by_columns m A) = columns-matrix K F n m A h in
      let e : length (by_columns m A) ≡ m = matrix-size K m n (by_columns m A) C in
      let x : KernelVector n (by_columns m A) =
      kernel n (by_columns m A) (matrix-rows-are m n (by_columns m A) C) (omega arith) in
      (x.0, x.1, x.2, sym (image_of-columns K F n m A x.0 h x.1) ∙ kills-image_of K (by_columns m A) x.0 m e x.3)
