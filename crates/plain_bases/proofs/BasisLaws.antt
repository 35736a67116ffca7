-- Relations among the columns of a coboundary are cocycles; cocycles that complete the coboundaries are a basis.
use Rattle.std.proofs.Common.{◌≡◌, ℕ, zero, suc, List, [], ◌++◌, length, get_or, take, drop, All, refl, sym, ap, ◌∙◌}
use Rattle.std.proofs.Common.{subst, ◌+◌}
use Rattle.std.proofs.lemmas.List.{length-map, length-append, take-append-drop}
use Rattle.std.proofs.lemmas.List.Elements.{All-contains, All-map}
use Rattle.dense_blocks.specs.Field.{Ops}
use Rattle.dense_blocks.specs.FieldLaws.{IsField}
use Rattle.dense_blocks.specs.Vectors.{IsVector, plus, combination}
use Rattle.dense_blocks.specs.MatrixFacts.{identity}
use Rattle.dense_blocks.specs.Spans.{IsCombination}
use Rattle.dense_blocks.proofs.Shapes.{Vector, Matrix, to_vector, from_vector, vector-size, matrix-size, matrix_of_rows}
use Rattle.dense_blocks.proofs.Shapes.{append-matrix}
use Rattle.dense_blocks.proofs.VectorLaws.{combination-append, combination-nil, plus-comm}
use Rattle.dense_blocks.proofs.MatrixLaws.{identity-matrix}
use Rattle.dense_blocks.proofs.SpanLaws.{coefficients-vector, combines, spans-through}
use Rattle.cochain_vec.specs.Complexes.{CellularComplex, coordinates, coboundary}
use Rattle.cochain_vec.specs.Shapes.{RowsFit}
use Rattle.cochain_vec.specs.Cohomology.{IsCocycle, IsCoboundary, IsRepresented, IsBasis}
use Rattle.cochain_vec.proofs.CoboundaryLaws.{take-vector, drop-vector, coboundary-columns, coboundary-cochain}
use Rattle.plain_bases.specs.Relations.{IsRelation, SpansRelations}
use Rattle.plain_bases.specs.Complements.{Completes}
use Rattle.plain_bases.specs.Columns.{columns_from, columns_into}

module _ (K : Ops) (F : IsField K) (C : CellularComplex) (fits : RowsFit C) where
  pub columns-size : (k : ℕ) → length (columns_from K C k) ≡ coordinates C k
  columns-size k =
      length-map (identity (coordinates C k)) (coboundary K C k)
      ∙ matrix-size K (coordinates C k) (coordinates C k) (identity (coordinates C k))
      (identity-matrix K F (coordinates C k))

  -- the columns from a degree are cochains of the next one
  pub columns_from-rows : (k : ℕ) → Matrix K (length (columns_from K C k)) (coordinates C (suc k)) (columns_from K C k)
  columns_from-rows k =
      let n = coordinates C (suc k) in
      let units = identity (coordinates C k) in
      matrix_of_rows K (length (columns_from K C k)) n (columns_from K C k) refl
      (All-map (IsVector K n) (coboundary K C k) units
      (λ i d l. from_vector K n (coboundary K C k (get_or units i d))
      (coboundary-cochain K F C fits k (get_or units i d))))

  columns_into-rows : (k : ℕ) → Matrix K (length (columns_into K C k)) (coordinates C k) (columns_into K C k)
  columns_into-rows zero = tt
  columns_into-rows (suc k) = columns_from-rows k

  -- a relation among the columns is a cocycle
  relation_is_cocycle : (k : ℕ) (z : List ℕ) → IsRelation K (coordinates C (suc k)) (columns_from K C k) z
      → IsCocycle K C k z
  relation_is_cocycle k z r =
      let h : Vector K (coordinates C k) z = subst (λ n. Vector K n z) (columns-size k)
      (to_vector K (length (columns_from K C k)) z r.coefficients) in
      record { cochain = from_vector K (coordinates C k) z h; closed = coboundary-columns K F C fits k z h ∙ r.zero }

  cocycle_is_relation : (k : ℕ) (z : List ℕ) → IsCocycle K C k z
      → IsRelation K (coordinates C (suc k)) (columns_from K C k) z
  cocycle_is_relation k z c =
      let h : Vector K (coordinates C k) z = to_vector K (coordinates C k) z c.cochain in
      record {
        coefficients = from_vector K (length (columns_from K C k)) z
            (subst (λ n. Vector K n z) (sym (columns-size k)) h);
        zero = sym (coboundary-columns K F C fits k z h) ∙ c.closed;
      }

  -- the coboundaries are the combinations of the columns into the degree
  combination_is_coboundary : (k : ℕ) (z : List ℕ) → IsCombination K (coordinates C k) (columns_into K C k) z
      → IsCoboundary K C k z
  combination_is_coboundary zero z s = sym s.gives ∙ combination-nil K (coordinates C 0) s.coefficients
  combination_is_coboundary (suc k) z s =
      let h : Vector K (coordinates C k) s.coefficients =
      subst (λ n. Vector K n s.coefficients) (columns-size k)
      (coefficients-vector K F (coordinates C (suc k)) (columns_from K C k) z s) in (
        s.coefficients,
        from_vector K (coordinates C k) s.coefficients h,
        sym (coboundary-columns K F C fits k s.coefficients h ∙ s.gives),
      )

  coboundary_is_combination : (k : ℕ) (z : List ℕ) → IsCoboundary K C k z
      → IsCombination K (coordinates C k) (columns_into K C k) z
  coboundary_is_combination zero z e = combines K (coordinates C 0) [] z [] tt (sym e)
  coboundary_is_combination (suc k) z c =
      let h : Vector K (coordinates C k) c.0 = to_vector K (coordinates C k) c.0 c.1 in
      combines K (coordinates C (suc k)) (columns_from K C k) z c.0
      (subst (λ n. Vector K n c.0) (sym (columns-size k)) h)
      (sym (coboundary-columns K F C fits k c.0 h) ∙ sym c.2)

  -- the coefficients of two lists together, in two parts
  record Halves (n : ℕ) (us vs : List (List ℕ)) (z : List ℕ) : Type 0 where
    first : List ℕ
    second : List ℕ
    first_is : Vector K (length us) first
    second_is : Vector K (length vs) second
    is : z ≡ plus K (combination K n first us) (combination K n second vs)

  halves : (n : ℕ) (us vs : List (List ℕ)) (z : List ℕ) → Matrix K (length vs) n vs → IsCombination K n (us ++ vs) z
      → Halves n us vs z
  halves n us vs z hv s =
      let m = length us in
      let c = s.coefficients in
      let both : Vector K (m + length vs) c = subst (λ k. Vector K k c) (length-append us vs)
      (coefficients-vector K F n (us ++ vs) z s) in
      let first = take-vector K m (length vs) c both in
      record {
        first = take m c;
        second = drop m c;
        first_is = first;
        second_is = drop-vector K m (length vs) c both;
        is = sym s.gives ∙ ap (λ d. combination K n d (us ++ vs)) (sym (take-append-drop m c))
            ∙ combination-append K F (length vs) n (take m c) (drop m c) us vs (vector-size K m (take m c) first) hv;
      }

  -- cocycles that span all cocycles, and those of them that complete the coboundaries: these are a basis
  pub completes_is_basis : (k : ℕ) (zs chosen : List (List ℕ)) → SpansRelations K (coordinates C (suc k))
      (columns_from K C k) zs
      → Completes K (coordinates C k) (columns_into K C k) zs (length zs) chosen → IsBasis K C k chosen
  completes_is_basis k zs chosen spans completes = record {
    cocycles = each_cocycle;
    spans = each_spanned;
    independent = λ c h b. completes.independent c h
        (coboundary_is_combination k (combination K (coordinates C k) c chosen) b);
  }
    where
      candidate_cocycles : All (IsCocycle K C k) zs
      candidate_cocycles i d l = relation_is_cocycle k (get_or zs i d) (spans.relations i d l)

      each_cocycle : All (IsCocycle K C k) chosen
      each_cocycle i d l = All-contains (IsCocycle K C k) zs (get_or chosen i d) candidate_cocycles
          (completes.candidates_all i d l)

      candidate_rows : Matrix K (length zs) (coordinates C k) zs
      candidate_rows = matrix_of_rows K (length zs) (coordinates C k) zs refl
          (λ i d l. (candidate_cocycles i d l).cochain)

      chosen_rows : Matrix K (length chosen) (coordinates C k) chosen
      chosen_rows = matrix_of_rows K (length chosen) (coordinates C k) chosen refl
          (λ i d l. (each_cocycle i d l).cochain)

      each_spanned : (z : List ℕ) → IsCocycle K C k z → IsRepresented K C k chosen z
      each_spanned z c =
          let m = coordinates C k in
          let of_all : IsCombination K (length (columns_from K C k)) zs z = spans.all z (cocycle_is_relation k z c) in
          let of_candidates : IsCombination K m zs z = subst (λ j. IsCombination K j zs z) (columns-size k) of_all in
          let both : IsCombination K m (columns_into K C k ++ chosen) z =
          spans-through K F m (length zs) (length (columns_into K C k) + length chosen) zs
          (columns_into K C k ++ chosen) z candidate_rows
          (append-matrix K (length (columns_into K C k)) (length chosen) m (columns_into K C k) chosen
          (columns_into-rows k) chosen_rows)
          completes.spans of_candidates in
          let parts = halves m (columns_into K C k) chosen z chosen_rows both in
          record {
            coefficients = parts.second;
            one_each = from_vector K (length chosen) parts.second parts.second_is;
            rest = combination K m parts.first (columns_into K C k);
            is_coboundary = combination_is_coboundary k (combination K m parts.first (columns_into K C k))
                (combines K m (columns_into K C k) (combination K m parts.first (columns_into K C k)) parts.first
                parts.first_is refl);
            sum = parts.is ∙ plus-comm K F (combination K m parts.first (columns_into K C k))
                (combination K m parts.second chosen);
          }
