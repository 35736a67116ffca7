-- Two bases of the cohomology of one degree have the same length.
use Rattle.std.proofs.Common.{◌≡◌, ℕ, zero, suc, ◌<◌, List, [], ◌∷◌, length, All, refl, sym, ap, ap₂, ◌∙◌, subst}
use Rattle.std.proofs.Common.{arith, suc-le-suc, get_or}
use Rattle.std.proofs.lemmas.List.{ext_get_or}
use Rattle.dense_blocks.specs.Field.{Ops}
use Rattle.dense_blocks.specs.FieldLaws.{IsField}
use Rattle.dense_blocks.specs.Vectors.{zeros, plus, multiple, combination}
use Rattle.dense_blocks.proofs.Shapes.{Vector, Matrix, to_vector, from_vector, matrix_of_rows}
use Rattle.dense_blocks.proofs.VectorLaws.{zeros-vector, zeros-plus, zeros-plus-zeros, plus-vector, multiple-vector}
use Rattle.dense_blocks.proofs.VectorLaws.{plus-cross, multiple-plus, multiple-zeros, combination-nil}
use Rattle.dense_blocks.proofs.VectorLaws.{combination-vector, combination-multiple, combination-plus}
use Rattle.dense_blocks.proofs.VectorLaws.{combination-zeros}
use Rattle.dense_blocks.proofs.Dependence.{dependent}
use Rattle.cochain_vec.specs.Complexes.{CellularComplex, coordinates}
use Rattle.cochain_vec.specs.Shapes.{RowsFit}
use Rattle.cochain_vec.specs.Cohomology.{IsCocycle, IsCoboundary, IsRepresented, IsBasis, AreDimensions}
use Rattle.cochain_vec.specs.Dimensions.{HasOneDimension, DimensionsAgree}
use Rattle.cochain_vec.proofs.CoboundaryLaws.{coboundary-cochain, coboundary-plus, coboundary-multiple}
use Rattle.cochain_vec.proofs.CoboundaryLaws.{coboundary-zeros}

module _ (K : Ops) (F : IsField K) where
  -- coboundaries of one degree are closed under sums and multiples
  module _ (C : CellularComplex) (fits : RowsFit C) where
    pub coboundary-vector : (k : ℕ) (z : List ℕ) → IsCoboundary K C k z → Vector K (coordinates C k) z
    coboundary-vector zero z s = subst (Vector K (coordinates C 0)) (sym s) (zeros-vector K F (coordinates C 0))
    coboundary-vector (suc k) z s = subst (Vector K (coordinates C (suc k))) (sym s.2)
        (coboundary-cochain K F C fits k s.0)

    pub zeros-coboundary : (k : ℕ) → IsCoboundary K C k (zeros (coordinates C k))
    zeros-coboundary zero = refl
    zeros-coboundary (suc k) =
        let n = coordinates C k in (
          zeros n,
          from_vector K n (zeros n) (zeros-vector K F n),
          sym (coboundary-zeros K F C fits k),
        )

    pub plus-coboundary : (k : ℕ) (u v : List ℕ) → IsCoboundary K C k u → IsCoboundary K C k v
        → IsCoboundary K C k (plus K u v)
    plus-coboundary zero u v s t = ap₂ (plus K) s t ∙ zeros-plus-zeros K F (coordinates C 0)
    plus-coboundary (suc k) u v s t =
        let n = coordinates C k in
        let hs = to_vector K n s.0 s.1 in
        let ht = to_vector K n t.0 t.1 in (
          plus K s.0 t.0,
          from_vector K n (plus K s.0 t.0) (plus-vector K F n s.0 t.0 hs ht),
          ap₂ (plus K) s.2 t.2 ∙ sym (coboundary-plus K F C fits k s.0 t.0 hs ht),
        )

    multiple-coboundary : (k c : ℕ) (v : List ℕ) → IsCoboundary K C k v → IsCoboundary K C k (multiple K c v)
    multiple-coboundary zero c v s = ap (multiple K c) s ∙ multiple-zeros K F c (coordinates C 0)
    multiple-coboundary (suc k) c v s =
        let n = coordinates C k in (
          multiple K c s.0,
          from_vector K n (multiple K c s.0) (multiple-vector K F n c s.0 (to_vector K n s.0 s.1)),
          ap (multiple K c) s.2 ∙ sym (coboundary-multiple K F C fits k c s.0),
        )

    module _ (k : ℕ) where
      abbrev n : ℕ
      n = coordinates C k

      -- the members of A as combinations of B, up to coboundaries: a row of coefficients for each, and so for each
      -- combination of A
      record Expansion (B A : List (List ℕ)) : Type 0 where
        rows : List (List ℕ)
        rows_are : Matrix K (length A) (length B) rows
        expands : (d : List ℕ) → Vector K (length A) d
            → (u : List ℕ) × IsCoboundary K C k u × (combination K n d A
            ≡ plus K (combination K n (combination K (length B) d rows) B) u)

      module _ (B : List (List ℕ)) (b : IsBasis K C k B) where
        B_rows : Matrix K (length B) n B
        B_rows = matrix_of_rows K (length B) n B refl (λ j d l. (b.cocycles j d l).cochain)

        nil_expands : (d : List ℕ) → combination K n d []
            ≡ plus K (combination K n (combination K (length B) d []) B) (zeros n)
        nil_expands d =
            combination-nil K n d
            ∙ sym (ap (λ u. plus K u (zeros n)) (ap (λ t. combination K n t B) (combination-nil K (length B) d)
            ∙ combination-zeros K F (length B) (length B) n B B_rows)
            ∙ zeros-plus-zeros K F n)

        one_expands : (x : List ℕ) (A : List (List ℕ)) (sp : IsRepresented K C k B x) (below : Expansion B A)
            (d : List ℕ) → Vector K (suc (length A)) d
            → (u : List ℕ) × IsCoboundary K C k u × (combination K n d (x ∷ A)
            ≡ plus K (combination K n (combination K (length B) d (sp.coefficients ∷ below.rows)) B) u)
        one_expands x A sp below [] hd = absurd hd
        one_expands x A sp below (q ∷ d) hd =
            let m : ℕ = length B in
            let later = below.expands d hd.1 in
            let by_is : Vector K m sp.coefficients = to_vector K m sp.coefficients sp.one_each in
            let rest_is : Vector K m (combination K m d below.rows) =
            combination-vector K F (length A) m d below.rows below.rows_are in (
              plus K (multiple K q sp.rest) later.0,
              plus-coboundary k (multiple K q sp.rest) later.0
                  (multiple-coboundary k q sp.rest sp.is_coboundary) later.1,
              ap₂ (plus K) (ap (multiple K q) sp.sum ∙ multiple-plus K F q (combination K n sp.coefficients B) sp.rest)
                  later.2
                  ∙ plus-cross K F (multiple K q (combination K n sp.coefficients B)) (multiple K q sp.rest)
                  (combination K n (combination K m d below.rows) B) later.0
                  ∙ ap (λ u. plus K u (plus K (multiple K q sp.rest) later.0))
                  (sym (combination-plus K F m n (multiple K q sp.coefficients) (combination K m d below.rows) B
                  (multiple-vector K F m q sp.coefficients by_is) rest_is
                  ∙ ap (λ t. plus K t (combination K n (combination K m d below.rows) B))
                  (combination-multiple K F n q sp.coefficients B))),
            )

        expansion : (A : List (List ℕ)) → All (IsCocycle K C k) A → Expansion B A
        expansion [] h = record {
          rows = [];
          rows_are = tt;
          expands = λ d hd. (zeros n, zeros-coboundary k, nil_expands d);
        }
        expansion (x ∷ A) h =
            let sp : IsRepresented K C k B x = b.spans x (h 0 [] (omega arith)) in
            let below : Expansion B A = expansion A (λ j d l. h (suc j) d (suc-le-suc l)) in
            record {
              rows = sp.coefficients ∷ below.rows;
              rows_are = (to_vector K (length B) sp.coefficients sp.one_each, below.rows_are);
              expands = λ d hd. one_expands x A sp below d hd;
            }

      -- else the rows of coefficients would be dependent, and so the members of A, up to a coboundary
      not_longer : (A B : List (List ℕ)) → IsBasis K C k A → IsBasis K C k B → length B < length A → ⊥
      not_longer A B a b l =
          let e : Expansion B A = expansion B b A a.cocycles in
          let d = dependent K F (length A) (length B) e.rows e.rows_are l in
          let x = e.expands d.0 d.1 in
          d.2 (a.independent d.0 (from_vector K (length A) d.0 d.1)
          (subst (IsCoboundary K C k)
          (sym (x.2
          ∙ ap (λ t. plus K t x.0) (ap (λ t. combination K n t B) d.3
          ∙ combination-zeros K F (length B) (length B) n B (B_rows B b))
          ∙ zeros-plus K F n x.0 (coboundary-vector k x.0 x.1)))
          x.1))

module _ (K : Ops) (F : IsField K) (C : CellularComplex) (fits : RowsFit C) where
  one-dimension : (k : ℕ) → HasOneDimension K C k
  one-dimension k = record { bases = same; dimensions = λ m n a b. sym a.1 ∙ same a.0 b.0 a.2 b.2 ∙ b.1 }
    where
      same : (A B : List (List ℕ)) → IsBasis K C k A → IsBasis K C k B → length A ≡ length B
      same A B a b =
          let one : length B < length A → ⊥ = not_longer K F C fits k A B a b in
          let two : length A < length B → ⊥ = not_longer K F C fits k B A b a in
          omega arith

  one-list : (degrees : ℕ) (a b : List ℕ) → AreDimensions K C degrees a → AreDimensions K C degrees b → a ≡ b
  one-list degrees a b ha hb =
      ext_get_or 0 a b (ha.one_each ∙ sym hb.one_each)
      (λ k l. (one-dimension k).dimensions (get_or a k 0) (get_or b k 0) (ha.dimensions k l)
      (hb.dimensions k (omega (arith, ha.one_each, hb.one_each))))

pub dimensions_agree : DimensionsAgree
dimensions_agree K C F fits = (one-dimension K F C fits, one-list K F C fits)
