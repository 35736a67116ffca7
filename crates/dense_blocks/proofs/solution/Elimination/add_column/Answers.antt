use Rattle.std.proofs.Common.{◌≡◌, ℕ, ◌+◌, List, [], length, take, get_or, sym, ap, ap₂, ◌∙◌, subst, subst₂, arith}
use Rattle.std.proofs.lemmas.List.Elements.{All-get_or}
use Rattle.dense_blocks.specs.Field.{Ops}
use Rattle.dense_blocks.specs.FieldLaws.{IsField}
use Rattle.dense_blocks.specs.Vectors.{IsVector, zeros}
use Rattle.dense_blocks.specs.Elimination.{ComesFrom, Eliminates, IsPivot, parts, remainder}
use Rattle.dense_blocks.specs.Solutions.{lists}
use Rattle.dense_blocks.specs.declared.solution.Pivot.{Pivot}
use Rattle.dense_blocks.proofs.EliminationSteps.{list_at, own_matrix, eliminates-zero, eliminates-pivot}
use Rattle.dense_blocks.proofs.solution.Elimination.add_column.Goals as goal

pub reduce-requires-clause-vector : goal.reduce-requires-clause-vector
reduce-requires-clause-vector g c =
    let K : Ops = g.F.Scalars.ops c.args.f.now in
    let is : c.as_slice.result.now ≡ get_or (lists c.args.columns.now) c.args.source [] =
    c.as_slice.ensures.value ∙ list_at c.args.columns.now c.args.source c.index-columns-source.result c.requires.source
    c.index-columns-source.is in
    subst (IsVector K c.args.self.now.size) (sym is)
    (All-get_or (IsVector K c.args.self.now.size) (lists c.args.columns.now) c.args.source []
    (omega (arith, c.requires.columns.size)) c.requires.columns.rows_are)

pub returns-in_ok-push-clause-after : goal.returns-in_ok-push-clause-after
returns-in_ok-push-clause-after g c =
    let K : Ops = g.F.Scalars.ops c.args.f.now in
    let h : IsField K = g.met.F.Scalars.is_field c.args.f.now in
    let n : ℕ = c.args.self.now.size in
    let vectors : List (List ℕ) = lists c.args.columns.now in
    let ps : List Pivot = c.args.self.now.pivots.items in
    let j : ℕ = c.args.source in
    let q : Pivot = c.of-pivot.result in
    let at : ℕ = c.in-Some.place in
    let row : List ℕ = c.in_ok-remainder.remainder.row.items in
    let is : c.as_slice.result.now ≡ get_or vectors q.source [] =
    c.as_slice.ensures.value ∙ list_at c.args.columns.now j c.index-columns-source.result c.requires.source
    c.index-columns-source.is
    ∙ ap (λ t. get_or vectors t []) (sym c.of-pivot.ensures.source) in
    let place_is : get_or row at 0 ≡ get_or q.row.items q.place 0 =
    ap (λ t. get_or t at 0) (sym c.of-pivot.ensures.row)
    ∙ ap (λ t. get_or q.row.items t 0) (sym c.of-pivot.ensures.place) in
    let fit : IsPivot K n q = record {
      place = omega (
        arith,
        c.of-pivot.ensures.place,
        c.in-Some.ensures.inside,
        ap length c.as_slice-2.ensures.value,
        c.in_ok-remainder.ensures.vector.size,
      );
      row = subst (IsVector K n) (sym c.of-pivot.ensures.row) c.in_ok-remainder.ensures.vector;
      first = ap₂ take c.of-pivot.ensures.place (c.of-pivot.ensures.row ∙ sym c.as_slice-2.ensures.value)
          ∙ c.in-Some.ensures.first ∙ ap zeros (sym c.of-pivot.ensures.place);
      not_zero = λ e. c.in-Some.ensures.not_zero (ap (λ t. get_or t at 0) c.as_slice-2.ensures.value ∙ place_is ∙ e);
      inverse = omega (arith, c.of-pivot.ensures.inverse, h.inv_below (get_or row at 0));
      inverse_is = c.of-pivot.ensures.inverse ∙ ap K.inv place_is;
    } in
    let from : ComesFrom K vectors ps q = record {
      source = omega (arith, c.of-pivot.ensures.source, c.requires.source, c.requires.columns.size);
      row_is = c.of-pivot.ensures.row ∙ c.in_ok-remainder.ensures.row ∙ ap (remainder K ps) is;
      parts_are = c.of-pivot.ensures.parts ∙ c.in_ok-remainder.ensures.parts ∙ ap (parts K ps) is;
    } in
    subst₂ (Eliminates K n vectors) (ap (λ t. t + 1) c.of-pivot.ensures.source) (sym c.in_ok-push.ensures.items)
    (eliminates-pivot K h n vectors ps q (own_matrix K (length c.args.columns.now) n vectors c.requires.columns)
    (subst (λ t. Eliminates K n vectors t ps) (sym c.of-pivot.ensures.source) c.requires.before) fit from)

pub returns-in_default-clause-after : goal.returns-in_default-clause-after
returns-in_default-clause-after g c =
    let K : Ops = g.F.Scalars.ops c.args.f.now in
    let h : IsField K = g.met.F.Scalars.is_field c.args.f.now in
    let vectors : List (List ℕ) = lists c.args.columns.now in
    let j : ℕ = c.args.source in
    let is : c.as_slice.result.now ≡ get_or vectors j [] =
    c.as_slice.ensures.value ∙ list_at c.args.columns.now j c.index-columns-source.result c.requires.source
    c.index-columns-source.is in
    eliminates-zero K h c.args.self.now.size vectors j c.args.self.now.pivots.items c.requires.before
    (ap (remainder K c.args.self.now.pivots.items) (sym is)
    ∙ sym c.in_ok-remainder.ensures.row
    ∙ sym c.as_slice-2.ensures.value
    ∙ c.in_default.ensures.none
    ∙ ap zeros (ap length c.as_slice-2.ensures.value ∙ c.in_ok-remainder.ensures.vector.size))
