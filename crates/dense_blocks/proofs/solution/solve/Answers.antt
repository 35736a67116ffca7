use Rattle.std.proofs.Common.{◌≡◌, ℕ, ◌<◌, List, length, take, get_or, refl, sym, ap, ◌∙◌, subst, arith}
use Rattle.std.proofs.lemmas.List.{get_or_read}
use Rattle.dense_blocks.specs.Field.{Ops}
use Rattle.dense_blocks.specs.FieldLaws.{IsField}
use Rattle.dense_blocks.specs.Vectors.{IsVector, combination, zeros}
use Rattle.dense_blocks.specs.MatrixFacts.{IsMatrix}
use Rattle.dense_blocks.specs.Elimination.{Eliminates, PullsBack, parts, remainder, rows}
use Rattle.dense_blocks.specs.Solutions.{lists, IsLeading, Separates}
use Rattle.dense_blocks.specs.declared.solution.Pivot.{Pivot}
use Rattle.dense_blocks.proofs.Shapes.{to_matrix, from_vector}
use Rattle.dense_blocks.proofs.Reductions.{parts-vector}
use Rattle.dense_blocks.proofs.Solutions.{lists_matrix, remainder-none, separates-none, pulls_back-separates}
use Rattle.dense_blocks.proofs.solution.solve.Goals as goal

pub of-requires : goal.of-requires
of-requires g c =
    lists_matrix (g.F.Scalars.ops c.args.f.now) (length c.args.v.now) c.args.columns.now c.requires.sizes
    c.requires.column_scalars

pub combination-requires-clause-columns : goal.combination-requires-clause-columns
combination-requires-clause-columns g c =
    let K : Ops = g.F.Scalars.ops c.args.f.now in
    subst (λ n. IsMatrix K (length c.args.columns.now) n (lists c.args.columns.now))
    (sym c.in_ok-elimination.ensures.size)
    (lists_matrix K (length c.args.v.now) c.args.columns.now c.requires.sizes c.requires.column_scalars)

pub combination-requires-clause-parts : goal.combination-requires-clause-parts
combination-requires-clause-parts g c =
    let K : Ops = g.F.Scalars.ops c.args.f.now in
    let h : IsField K = g.met.F.Scalars.is_field c.args.f.now in
    let ps : List Pivot = c.in_ok-elimination.elimination.pivots.items in
    subst (IsVector K (length ps)) (sym c.in_ok-row.ensures.parts)
    (from_vector K (length ps) (parts K ps c.args.v.now) (parts-vector K h ps c.args.v.now))

pub returns-in-None : goal.returns-in-None
returns-in-None g c =
    let K : Ops = g.F.Scalars.ops c.args.f.now in
    let h : IsField K = g.met.F.Scalars.is_field c.args.f.now in
    let v : List ℕ = c.args.v.now in
    let n : ℕ = length v in
    let vectors : List (List ℕ) = lists c.args.columns.now in
    let ps : List Pivot = c.in_ok-elimination.elimination.pivots.items in
    let coefficients : List ℕ = c.in_ok-combination-in-None.field-0.items in
    let size : c.in_ok-elimination.elimination.size ≡ n = c.in_ok-elimination.ensures.size in
    let columns : IsMatrix K (length c.args.columns.now) n vectors = lists_matrix K n c.args.columns.now
    c.requires.sizes c.requires.column_scalars in
    let nothing_left : remainder K ps v ≡ zeros n =
    sym c.in_ok-row.ensures.row ∙ sym c.as_slice.ensures.value ∙ c.in-None.ensures.none
    ∙ ap zeros (ap length c.as_slice.ensures.value ∙ c.in_ok-row.ensures.vector.size ∙ size) in
    record {
      coefficients = subst (λ m. IsVector K m coefficients) (sym columns.size)
          c.in_ok-combination-in-None.ensures.scalars;
      gives = ap (λ m. combination K m coefficients vectors) (sym size)
          ∙ c.in_ok-combination-in-None.ensures.same
          ∙ ap (λ m. combination K m c.in_ok-row.field-0.parts.items (rows ps)) size
          ∙ ap (λ t. combination K n t (rows ps)) c.in_ok-row.ensures.parts
          ∙ remainder-none K h n ps v c.in_ok-elimination.ensures.eliminates.fit
          (record { size = refl; scalars = c.requires.v_scalars }) nothing_left;
      leading = subst (λ m. IsLeading K m vectors coefficients) size c.in_ok-combination-in-None.ensures.leading;
    }

pub returns : goal.returns
returns g c =
    let K : Ops = g.F.Scalars.ops c.args.f.now in
    let h : IsField K = g.met.F.Scalars.is_field c.args.f.now in
    let v : List ℕ = c.args.v.now in
    let n : ℕ = length v in
    let vectors : List (List ℕ) = lists c.args.columns.now in
    let ps : List Pivot = c.in_ok-elimination.elimination.pivots.items in
    let row : List ℕ = c.in_ok-row.field-0.row.items in
    let at : ℕ = c.in-Some.place in
    let p : List ℕ = c.in_ok-functional-in-Some.field-0.items in
    let columns : IsMatrix K (length c.args.columns.now) n vectors = lists_matrix K n c.args.columns.now
    c.requires.sizes c.requires.column_scalars in
    let all : Eliminates K n vectors (length vectors) ps =
    subst (λ m. Eliminates K n vectors m ps) (sym columns.size) c.in_ok-elimination.ensures.eliminates in
    let inside : at < length row = omega (arith, c.in-Some.ensures.inside, ap length c.as_slice.ensures.value) in
    let entry : get_or row at 0 ≡ get_or (remainder K ps v) at 0 = ap (λ t. get_or t at 0) c.in_ok-row.ensures.row in
    let is_v : IsVector K n v = record { size = refl; scalars = c.requires.v_scalars } in
    let pulls : PullsBack K n ps at c.inv.result p =
    subst (λ m. PullsBack K m ps at c.inv.result p) c.in_ok-elimination.ensures.size c.in_ok-functional-in-Some.ensures
    in
    let apart : Separates K vectors v p =
    pulls_back-separates K h n vectors ps v p at c.inv.result refl is_v columns.rows_are all
    (omega (arith, inside, c.in_ok-row.ensures.vector.size, c.in_ok-elimination.ensures.size))
    (ap (take at) (sym c.in_ok-row.ensures.row ∙ sym c.as_slice.ensures.value) ∙ c.in-Some.ensures.first)
    (λ e. c.in-Some.ensures.not_zero (ap (λ t. get_or t at 0) c.as_slice.ensures.value ∙ entry ∙ e))
    (c.inv.ensures ∙ ap K.inv (get_or_read row at c.index.result.now inside c.index.ensures 0 ∙ entry)) pulls in (
      apart,
      λ d. separates-none K h (length c.args.columns.now) vectors v p d
          (to_matrix K (length c.args.columns.now) n vectors columns) apart,
    )
