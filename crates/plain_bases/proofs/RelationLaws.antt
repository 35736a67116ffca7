-- What one more column does to the relations among columns.
use Rattle.std.proofs.Common.{◌≡◌, ◌≢◌, ◌⊎◌, inl, inr, ℕ, zero, suc, ◌+◌, ◌<◌, List, [], ◌∷◌, ◌++◌, length, get_or}
use Rattle.std.proofs.Common.{take, drop, All, refl, sym, ap, ap₂, ◌∙◌, subst, arith, append_assoc, add-one}
use Rattle.std.proofs.lemmas.List.{length-append, length-drop, append-nil, length-take-le, take-append-drop}
use Rattle.std.proofs.Math.Seq.{take-append_seam, take-append-add, take-length, drop-cons}
use Rattle.std.proofs.lemmas.List.Elements.{All-push}
use Rattle.std.proofs.lemmas.Bool.{cases_eq}
use Rattle.dense_blocks.specs.Field.{Ops}
use Rattle.dense_blocks.specs.FieldLaws.{IsField}
use Rattle.dense_blocks.specs.Vectors.{IsVector, zeros, plus, multiple, combination}
use Rattle.dense_blocks.specs.MatrixFacts.{negative}
use Rattle.dense_blocks.specs.Spans.{IsCombination}
use Rattle.dense_blocks.proofs.ScalarLaws.{zero_add, mul_neg, neg_neg}
use Rattle.dense_blocks.proofs.Shapes.{Vector, Matrix, to_vector, from_vector, vector-size, append-vector}
use Rattle.dense_blocks.proofs.Shapes.{matrix_of_rows, matrix-size}
use Rattle.dense_blocks.proofs.VectorLaws.{zeros-vector, plus-vector, multiple-vector, combination-vector}
use Rattle.dense_blocks.proofs.VectorLaws.{combination-plus, combination-multiple, combination-negative}
use Rattle.dense_blocks.proofs.VectorLaws.{combination-zeros, combination-append, combination-push, plus-append}
use Rattle.dense_blocks.proofs.VectorLaws.{multiple-append, multiple-zeros, multiple-zero, multiple-neg_one}
use Rattle.dense_blocks.proofs.VectorLaws.{multiple-neg, multiple-mul, multiple-one, plus-zeros, plus-negative}
use Rattle.dense_blocks.proofs.VectorLaws.{negative-unique, zeros-plus-zeros, plus-assoc}
use Rattle.dense_blocks.proofs.SpanLaws.{spans-append, spans-last, spans-plus, spans-multiple}
use Rattle.plain_bases.specs.Relations.{IsRelation, SpansRelations, SpansRelationsBelow}

-- a vector of one coordinate more ends with a scalar
pub record Ends (K : Ops) (n : ℕ) (w : List ℕ) : Type 0 where
  pub prefix : List ℕ
  pub last : ℕ
  pub is : w ≡ prefix ++ last ∷ []
  pub prefix_is : Vector K n prefix
  pub last_is : last < K.order

pub vector_ends : (K : Ops) (n : ℕ) (w : List ℕ) → Vector K (suc n) w → Ends K n w
vector_ends K n [] h = absurd h
vector_ends K zero (a ∷ []) h = record { prefix = []; last = a; is = refl; prefix_is = tt; last_is = h.0 }
vector_ends K zero (a ∷ b ∷ w) h = absurd h.1
vector_ends K (suc n) (a ∷ w) h =
    let e = vector_ends K n w h.1 in
    record {
      prefix = a ∷ e.prefix;
      last = e.last;
      is = ap (λ t. a ∷ t) e.is;
      prefix_is = (h.0, e.prefix_is);
      last_is =
          e.last_is;
    }

module _ (K : Ops) (F : IsField K) (n : ℕ) where
  -- the columns before and after one of them
  module _ (before : List (List ℕ)) (column : List ℕ) (after : List (List ℕ)) (hb : Matrix K (length before) n before)
      (hc : Vector K n column)
      (ha : Matrix K (length after) n after) where
    whole : List (List ℕ)
    whole = before ++ column ∷ after

    -- the combination of the columns by coefficients that use none after the column
    without_later : (u : List ℕ) (a : ℕ) → length u ≡ length before
        → combination K n (u ++ a ∷ zeros (length after)) whole ≡ plus K (combination K n u before)
        (multiple K a column)
    unfolding whole
    without_later u a e =
        combination-append K F (suc (length after)) n u (a ∷ zeros (length after)) before (column ∷ after) e (hc, ha)
        ∙ ap (λ t. plus K (combination K n u before) (plus K (multiple K a column) t))
        (combination-zeros K F (length after) (length after) n after ha)
        ∙ ap (plus K (combination K n u before))
        (plus-zeros K F n (multiple K a column) (multiple-vector K F n a column hc))

    whole-size : length whole ≡ length before + suc (length after)
    unfolding whole
    whole-size = length-append before (column ∷ after)

    spread : (u : List ℕ) (a : ℕ) → Vector K (length before) u → a < K.order
        → Vector K (length whole) (u ++ a ∷ zeros (length after))
    spread u a hu l =
        subst (λ k. Vector K k (u ++ a ∷ zeros (length after))) (sym whole-size)
        (append-vector K (length before) (suc (length after)) u (a ∷ zeros (length after)) hu
        (l, zeros-vector K F (length after)))

    -- the relation that says that the column is a combination of those before it
    module _ (c : List ℕ) (hcs : Vector K (length before) c) (gives : combination K n c before ≡ column) where
      own : List ℕ
      own = c ++ K.neg 1 ∷ zeros (length after)

      own-vector : Vector K (length whole) own
      unfolding own
      own-vector = spread c (K.neg 1) hcs (F.neg_below 1)

      own-zero : combination K n own whole ≡ zeros n
      unfolding own
      own-zero =
          without_later c (K.neg 1) (vector-size K (length before) c hcs)
          ∙ ap₂ (plus K) gives (multiple-neg_one K F n column hc) ∙ plus-negative K F n column hc

      -- a relation up to the column is one before the column, less a multiple of the column's own
      moved : List ℕ → ℕ → List ℕ
      moved u a = plus K u (multiple K a c)

      moved-vector : (u : List ℕ) (a : ℕ) → Vector K (length before) u → Vector K (length before) (moved u a)
      unfolding moved
      moved-vector u a hu = plus-vector K F (length before) u (multiple K a c) hu
          (multiple-vector K F (length before) a c hcs)

      moved-zero : (u : List ℕ) (a : ℕ) → Vector K (length before) u
          → plus K (combination K n u before) (multiple K a column) ≡ zeros n
          → combination K n (moved u a) before ≡ zeros n
      unfolding moved
      moved-zero u a hu e =
          combination-plus K F (length before) n u (multiple K a c) before hu
          (multiple-vector K F (length before) a c hcs)
          ∙ ap (plus K (combination K n u before)) (combination-multiple K F n a c before ∙ ap (multiple K a) gives) ∙ e

      moved-back : (u : List ℕ) (a : ℕ) → Vector K (length before) u → a < K.order
          → plus K (moved u a ++ 0 ∷ zeros (length after)) (multiple K (K.neg a) own) ≡ u ++ a ∷ zeros (length after)
      unfolding moved own
      moved-back u a hu l =
          let k = K.neg a in
          let same : length (plus K u (multiple K a c)) ≡ length (multiple K k c) =
          vector-size K (length before) (plus K u (multiple K a c))
          (plus-vector K F (length before) u (multiple K a c) hu (multiple-vector K F (length before) a c hcs))
          ∙ sym (vector-size K (length before) (multiple K k c) (multiple-vector K F (length before) k c hcs)) in
          let gone : plus K (multiple K a c) (multiple K k c) ≡ zeros (length before) =
          ap (plus K (multiple K a c)) (multiple-neg K F a c) ∙ plus-negative K F (length before) (multiple K a c)
          (multiple-vector K F (length before) a c hcs) in
          let prefix : plus K (plus K u (multiple K a c)) (multiple K k c) ≡ u =
          plus-assoc K F u (multiple K a c) (multiple K k c) ∙ ap (plus K u) gone ∙ plus-zeros K F (length before) u hu
          in
          let last : K.add 0 (K.mul k (K.neg 1)) ≡ a =
          ap (K.add 0) (mul_neg K F k 1 ∙ ap K.neg (F.mul_one k (F.neg_below a)) ∙ neg_neg K F a l)
          ∙ zero_add K F a l in
          let rest : plus K (zeros (length after)) (multiple K k (zeros (length after))) ≡ zeros (length after) =
          ap (plus K (zeros (length after))) (multiple-zeros K F k (length after)) ∙ zeros-plus-zeros K F (length after)
          in
          ap (plus K (plus K u (multiple K a c) ++ 0 ∷ zeros (length after)))
          (multiple-append K k c (K.neg 1 ∷ zeros (length after)))
          ∙ plus-append K (plus K u (multiple K a c)) (multiple K k c) (0 ∷ zeros (length after))
          (multiple K k (K.neg 1 ∷ zeros (length after))) same
          ∙ ap₂ ◌++◌ prefix (ap₂ ◌∷◌ last rest)

      -- with the column's own relation, the relations up to the column are spanned
      spans_with_own : (zs : List (List ℕ)) → Matrix K (length zs) (length whole) zs
          → ((u : List ℕ) → Vector K (length before) u → combination K n u before ≡ zeros n
          → IsCombination K (length whole) zs (u ++ 0 ∷ zeros (length after)))
          → (u : List ℕ) (a : ℕ) → Vector K (length before) u → a < K.order
          → plus K (combination K n u before) (multiple K a column) ≡ zeros n
          → IsCombination K (length whole) (zs ++ own ∷ []) (u ++ a ∷ zeros (length after))
      spans_with_own zs hz all u a hu l e =
          let w = length whole in
          let first = spans-append K F w (length zs) zs (own ∷ []) (moved u a ++ 0 ∷ zeros (length after)) hz
          (own-vector, tt)
          (all (moved u a) (moved-vector u a hu) (moved-zero u a hu e)) in
          let second = spans-multiple K F w (zs ++ own ∷ []) (K.neg a) own
          (spans-last K F w (length zs) zs own hz own-vector) in
          subst (IsCombination K w (zs ++ own ∷ [])) (moved-back u a hu l)
          (spans-plus K F w (zs ++ own ∷ []) (moved u a ++ 0 ∷ zeros (length after)) (multiple K (K.neg a) own) first
          second)

    -- a column that is no combination of those before it has coefficient 0 in each relation up to it
    not_used : ((c : List ℕ) → combination K n c before ≢ column)
        → (u : List ℕ) (a : ℕ) → Vector K (length before) u → a < K.order
        → plus K (combination K n u before) (multiple K a column) ≡ zeros n → a ≡ 0
    not_used apart u a hu l e = go (cases_eq a 0)
      where
        go : (a ≡ 0) ⊎ (a ≡ 0 → ⊥) → a ≡ 0
        go (inl z) = z
        go (inr not) =
            let v = combination K n u before in
            let hv = combination-vector K F (length before) n u before hb in
            let k = K.inv a in
            let other : multiple K a column ≡ negative K v = negative-unique K F n v (multiple K a column) hv
            (multiple-vector K F n a column hc) e in
            let back : multiple K k (negative K v) ≡ column =
            ap (multiple K k) (sym other) ∙ sym (multiple-mul K F k a column)
            ∙ ap (λ x. multiple K x column) (F.mul_comm k a ∙ F.mul_inv a l not) ∙ multiple-one K F n column hc in
            absurd (apart (multiple K k (negative K u))
            (combination-multiple K F n k (negative K u) before
            ∙ ap (multiple K k) (combination-negative K F n u before) ∙ back))

    -- the columns up to the column
    upto : take (suc (length before)) whole ≡ before ++ column ∷ []
    unfolding whole
    upto = ap (λ k. take k whole) (sym (add-one (length before))) ∙ take-append-add before (column ∷ after) 1

    below : take (length before) whole ≡ before
    unfolding whole
    below = take-append_seam before (column ∷ after)

    rows_of_relations : (zs : List (List ℕ)) → All (IsRelation K n whole) zs → Matrix K (length zs) (length whole) zs
    rows_of_relations zs h = matrix_of_rows K (length zs) (length whole) zs refl (λ k d l. (h k d l).coefficients)

    spanned_before : (zs : List (List ℕ)) → SpansRelationsBelow K n whole (length before) zs → (u : List ℕ)
        → Vector K (length before) u
        → combination K n u before ≡ zeros n → IsCombination K (length whole) zs (u ++ 0 ∷ zeros (length after))
    spanned_before zs h u hu e = h.all u (suc (length after)) (sym whole-size) (from_vector K (length before) u hu)
        (ap (combination K n u) below ∙ e)

    -- coefficients up to the column, in two parts
    record Parts (w : List ℕ) (more : ℕ) : Type 0 where
      ends : Ends K (length before) w
      rest : more ≡ length after
      zero : plus K (combination K n ends.prefix before) (multiple K ends.last column) ≡ zeros n

    parts : (w : List ℕ) (more : ℕ) → suc (length before) + more ≡ length whole → IsVector K (suc (length before)) w
        → combination K n w (take (suc (length before)) whole) ≡ zeros n → Parts w more
    parts w more e hw z =
        let ends = vector_ends K (length before) w (to_vector K (suc (length before)) w hw) in record {
          ends = ends;
          rest = omega (arith, whole-size);
          zero =
              sym (combination-push K F n ends.prefix before ends.last column
              (vector-size K (length before) ends.prefix ends.prefix_is) hc)
              ∙ ap₂ (combination K n) (sym ends.is) (sym upto) ∙ z;
        }

    rejoined : (w : List ℕ) (more : ℕ) (p : Parts w more) → w ++ zeros more ≡ p.ends.prefix ++ p.ends.last
        ∷ zeros (length after)
    rejoined w more p =
        ap₂ ◌++◌ p.ends.is (ap zeros p.rest) ∙ append_assoc p.ends.prefix (p.ends.last ∷ []) (zeros (length after))

    with_own : (c : List ℕ) → Vector K (length before) c → combination K n c before ≡ column → (zs : List (List ℕ))
        → SpansRelationsBelow K n whole (length before) zs
        → SpansRelationsBelow K n whole (suc (length before)) (zs ++ (c ++ K.neg 1 ∷ zeros (length after)) ∷ [])
    unfolding own
    with_own c hcs gives zs h = record {
      relations = All-push (IsRelation K n whole) zs (own c hcs gives) h.relations
          (record {
            coefficients = from_vector K (length whole) (own c hcs gives) (own-vector c hcs gives);
            zero =
                own-zero c hcs gives;
          });
      all = λ w more e hw z.
          let p = parts w more e hw z in
          subst (IsCombination K (length whole) (zs ++ own c hcs gives ∷ [])) (sym (rejoined w more p))
          (spans_with_own c hcs gives zs (rows_of_relations zs h.relations) (spanned_before zs h) p.ends.prefix
          p.ends.last p.ends.prefix_is p.ends.last_is p.zero);
    }

    without_own : ((c : List ℕ) → combination K n c before ≢ column) → (zs : List (List ℕ))
        → SpansRelationsBelow K n whole (length before) zs → SpansRelationsBelow K n whole (suc (length before)) zs
    without_own apart zs h = record {
      relations = h.relations;
      all = λ w more e hw z.
          let p = parts w more e hw z in
          let none : p.ends.last ≡ 0 =
          not_used apart p.ends.prefix p.ends.last p.ends.prefix_is p.ends.last_is p.zero in
          let prefix_zero : combination K n p.ends.prefix before ≡ zeros n =
          sym (plus-zeros K F n (combination K n p.ends.prefix before)
          (combination-vector K F (length before) n p.ends.prefix before hb))
          ∙ ap (plus K (combination K n p.ends.prefix before)) (sym (multiple-zero K F n column hc)
          ∙ ap (λ a. multiple K a column) (sym none)) ∙ p.zero in
          subst (IsCombination K (length whole) zs) (ap (λ a. p.ends.prefix ++ a ∷ zeros (length after)) (sym none)
          ∙ sym (rejoined w more p))
          (spanned_before zs h p.ends.prefix p.ends.prefix_is prefix_zero);
    }

  place : (columns : List (List ℕ)) (j : ℕ) → j < length columns → columns ≡ take j columns ++ get_or columns j []
      ∷ drop (suc j) columns
  place columns j l = sym (take-append-drop j columns) ∙ ap (λ t. take j columns ++ t) (drop-cons columns j [] l)

  module _ (columns : List (List ℕ)) (j : ℕ) (l : j < length columns) (hm : Matrix K (length columns) n columns) where
    front_size : length (take j columns) ≡ j
    front_size = length-take-le j columns (omega arith)

    split : Matrix K (length (take j columns)) n (take j columns) × Vector K n (get_or columns j [])
        × Matrix K (length (drop (suc j) columns)) n (drop (suc j) columns)
    split = split_rows (take j columns) (get_or columns j []) (drop (suc j) columns) (length columns)
        (subst (Matrix K (length columns) n) (place columns j l) hm)
      where
        split_rows : (before : List (List ℕ)) (column : List ℕ) (after : List (List ℕ)) (m : ℕ)
            → Matrix K m n (before ++ column ∷ after)
            → Matrix K (length before) n before × Vector K n column × Matrix K (length after) n after
        split_rows [] column after zero h = absurd h
        split_rows [] column after (suc m) h =
            (tt, h.0, subst (λ k. Matrix K k n after) (sym (matrix-size K m n after h.1)) h.1)
        split_rows (b ∷ before) column after zero h = absurd h
        split_rows (b ∷ before) column after (suc m) h =
            let r = split_rows before column after m h.1 in ((h.0, r.0), r.1, r.2)

    module _ (zs : List (List ℕ)) (h : SpansRelationsBelow K n columns j zs) where
      here : SpansRelationsBelow K n (take j columns ++ get_or columns j [] ∷ drop (suc j) columns)
          (length (take j columns)) zs
      here = subst (λ (cs : List (List ℕ)). SpansRelationsBelow K n cs (length (take j columns)) zs) (place columns j l)
          (subst (λ (k : ℕ). SpansRelationsBelow K n columns k zs) (sym front_size) h)

      there : (ys : List (List ℕ))
          → SpansRelationsBelow K n (take j columns ++ get_or columns j [] ∷ drop (suc j) columns)
          (suc (length (take j columns))) ys
          → SpansRelationsBelow K n columns (j + 1) ys
      there ys g =
          subst (λ (k : ℕ). SpansRelationsBelow K n columns k ys) (ap suc front_size ∙ sym (add-one j))
          (subst (λ (cs : List (List ℕ)). SpansRelationsBelow K n cs (suc (length (take j columns))) ys)
          (sym (place columns j l)) g)

      -- a column that is a combination of those before it brings its own relation
      pub relations_more : (c z : List ℕ) (more : ℕ) → j + 1 + more ≡ length columns → IsVector K j c
          → combination K n c (take j columns) ≡ get_or columns j []
          → z ≡ c ++ K.neg 1 ∷ zeros more → SpansRelationsBelow K n columns (j + 1) (zs ++ z ∷ [])
      unfolding whole
      relations_more c z more e hcs gives is =
          let after : length (drop (suc j) columns) ≡ more = omega (arith, length-drop {A = List ℕ}) in
          there (zs ++ z ∷ [])
          (subst (λ (y : List ℕ). SpansRelationsBelow K n (take j columns ++ get_or columns j [] ∷ drop (suc j) columns)
          (suc (length (take j columns))) (zs ++ y ∷ []))
          (ap (λ k. c ++ K.neg 1 ∷ zeros k) after ∙ sym is)
          (with_own (take j columns) (get_or columns j []) (drop (suc j) columns) split.0 split.1 split.2 c
          (subst (λ k. Vector K k c) (sym front_size) (to_vector K j c hcs)) gives zs here))

      -- a column apart from those before it brings none
      pub relations_same : ((c : List ℕ) → combination K n c (take j columns) ≢ get_or columns j [])
          → SpansRelationsBelow K n columns (j + 1) zs
      unfolding whole
      relations_same apart = there zs (without_own (take j columns) (get_or columns j []) (drop (suc j) columns) split.0
          split.1 split.2 apart zs here)

  -- all columns
  pub relations_all : (columns zs : List (List ℕ)) → SpansRelationsBelow K n columns (length columns) zs
      → SpansRelations K n columns zs
  relations_all columns zs h = record {
    relations = h.relations;
    all = λ z r.
        subst (IsCombination K (length columns) zs) (append-nil z)
        (h.all z 0 (omega arith) r.coefficients (ap (combination K n z) (take-length columns) ∙ r.zero));
  }
