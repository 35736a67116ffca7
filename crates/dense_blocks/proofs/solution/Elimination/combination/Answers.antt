use Rattle.std.proofs.Common.{◌≡◌, ℕ, ◌<◌, List, [], ◌∷◌, ◌++◌, length, get_or, set, take, drop, refl, sym, ap, ap₂}
use Rattle.std.proofs.Common.{◌∙◌, subst, subst₂, arith, length-append}
use Rattle.std.specs.Prelude.{All}
use Rattle.std.proofs.lemmas.List.{get_or_read, take_at}
use Rattle.dense_blocks.specs.Field.{Ops}
use Rattle.dense_blocks.specs.FieldLaws.{IsField}
use Rattle.dense_blocks.specs.Vectors.{combination, plus, multiple, zeros}
use Rattle.dense_blocks.specs.Elimination.{ComesFrom, rows}
use Rattle.dense_blocks.specs.Solutions.{lists}
use Rattle.dense_blocks.specs.declared.solution.Pivot.{Pivot}
use Rattle.dense_blocks.proofs.Shapes.{vector-size, vector-scalars}
use Rattle.dense_blocks.proofs.EliminationSteps.{Rebuilding, own_matrix, come_from_at, front_all, last_all, parts-are}
use Rattle.dense_blocks.proofs.EliminationSteps.{rebuilding-start, rebuilding-next, rebuilding-end, rebuilding-leads}
use Rattle.dense_blocks.proofs.solution.Elimination.combination.Goals as goal

pub loop-last-init : goal.loop-last-init
loop-last-init g c =
    let K : Ops = g.F.Scalars.ops c.args.f.now in
    let h : IsField K = g.met.F.Scalars.is_field c.args.f.now in
    let n : ℕ = c.args.self.now.size in
    let vectors : List (List ℕ) = lists c.args.columns.now in
    rebuilding-start K h n vectors c.args.self.now.pivots.items c.in_ok-coefficients.coefficients.items
    c.args.parts.items
    (own_matrix K (length c.args.columns.now) n vectors c.requires.columns) c.requires.pivots.fit
    (c.in_ok-coefficients.ensures.items ∙ ap zeros (sym c.requires.columns.size)) c.requires.parts

pub neg-requires : goal.neg-requires
neg-requires g c =
    let K : Ops = g.F.Scalars.ops c.args.f.now in
    last_all (λ a. a < K.order) c.pop.new.self.items c.in-Some.last
    (subst (All (λ a. a < K.order)) c.in-Some.ensures.items c.loop-last.invariant.taken_are)

pub add_scaled-requires-clause-sizes : goal.add_scaled-requires-clause-sizes
add_scaled-requires-clause-sizes g c =
    let K : Ops = g.F.Scalars.ops c.args.f.now in
    let h : IsField K = g.met.F.Scalars.is_field c.args.f.now in
    let vectors : List (List ℕ) = lists c.args.columns.now in
    let ps : List Pivot = c.args.self.now.pivots.items in
    let k : ℕ = c.len.result in
    let q : Pivot = c.index-pivot.result.now in
    let inside : k < length ps =
    omega (
      arith,
      c.loop-last.invariant.short,
      ap length c.in-Some.ensures.items,
      length-append c.pop.new.self.items
          (c.in-Some.last ∷ []),
    ) in
    let from : ComesFrom K vectors (take k ps) q =
    come_from_at K c.args.self.now.size vectors (length c.args.columns.now) ps k k q c.requires.pivots inside refl
    c.index-pivot.ensures in
    ap length c.as_slice.ensures.value ∙ vector-size K k q.parts.items (parts-are K h vectors ps k q inside from)
    ∙ c.len.ensures ∙ sym c.as_mut_slice.ensures.len

pub add_scaled-requires-clause-target_scalars : goal.add_scaled-requires-clause-target_scalars
add_scaled-requires-clause-target_scalars g c =
    let K : Ops = g.F.Scalars.ops c.args.f.now in
    subst (All (λ a. a < K.order)) (sym c.as_mut_slice.ensures.value)
    (front_all (λ a. a < K.order) c.pop.new.self.items (c.in-Some.last ∷ [])
    (subst (All (λ a. a < K.order)) c.in-Some.ensures.items c.loop-last.invariant.taken_are))

pub add_scaled-requires-clause-row_scalars : goal.add_scaled-requires-clause-row_scalars
add_scaled-requires-clause-row_scalars g c =
    let K : Ops = g.F.Scalars.ops c.args.f.now in
    let h : IsField K = g.met.F.Scalars.is_field c.args.f.now in
    let vectors : List (List ℕ) = lists c.args.columns.now in
    let ps : List Pivot = c.args.self.now.pivots.items in
    let k : ℕ = c.len.result in
    let q : Pivot = c.index-pivot.result.now in
    let inside : k < length ps =
    omega (
      arith,
      c.loop-last.invariant.short,
      ap length c.in-Some.ensures.items,
      length-append c.pop.new.self.items
          (c.in-Some.last ∷ []),
    ) in
    let from : ComesFrom K vectors (take k ps) q =
    come_from_at K c.args.self.now.size vectors (length c.args.columns.now) ps k k q c.requires.pivots inside refl
    c.index-pivot.ensures in
    subst (All (λ a. a < K.order)) (sym c.as_slice.ensures.value)
    (vector-scalars K k q.parts.items (parts-are K h vectors ps k q inside from))

pub add-requires-clause-b_scalar : goal.add-requires-clause-b_scalar
add-requires-clause-b_scalar g c =
    let K : Ops = g.F.Scalars.ops c.args.f.now in
    last_all (λ a. a < K.order) c.pop.new.self.items c.in-Some.last
    (subst (All (λ a. a < K.order)) c.in-Some.ensures.items c.loop-last.invariant.taken_are)

pub loop-last-preserved : goal.loop-last-preserved
loop-last-preserved g c =
    let K : Ops = g.F.Scalars.ops c.args.f.now in
    let h : IsField K = g.met.F.Scalars.is_field c.args.f.now in
    let n : ℕ = c.args.self.now.size in
    let vectors : List (List ℕ) = lists c.args.columns.now in
    let ps : List Pivot = c.args.self.now.pivots.items in
    let target : List ℕ = combination K n c.args.parts.items (rows ps) in
    let shorter : List ℕ = c.pop.new.self.items in
    let last : ℕ = c.in-Some.last in
    let coefficients : List ℕ = c.loop-last.coefficients.items in
    let after : List ℕ = c.add_scaled.new.target in
    let k : ℕ = length shorter in
    let q : Pivot = c.index-pivot.result.now in
    let size : c.len.result ≡ k = omega arith in
    let inside : k < length ps =
    omega (arith, c.loop-last.invariant.short, ap length c.in-Some.ensures.items, length-append shorter (last ∷ [])) in
    let is : q ≡ get_or ps k q = c.index-pivot.ensures ∙ ap (λ t. get_or ps t q) size in
    let from : ComesFrom K vectors (take k ps) q = come_from_at K n vectors (length c.args.columns.now) ps k k q
    c.requires.pivots inside refl is in
    let taken_is : plus K shorter (multiple K (K.neg last) q.parts.items) ≡ take c.pop.new.self.len
    (after ++ drop (length after) shorter) =
    ap₂ (plus K) (sym c.as_mut_slice.ensures.value)
    (ap₂ (multiple K) (sym c.neg.ensures) (sym c.as_slice.ensures.value))
    ∙ sym c.add_scaled.ensures.sum
    ∙ sym (take_at after (drop (length after) shorter) c.pop.new.self.len (omega arith)) in
    let at : c.index.result.now ≡ get_or coefficients q.source 0 =
    get_or_read coefficients q.source c.index.result.now
    (omega (arith, from.source, c.loop-last.invariant.coefficients_are.size)) c.index.ensures 0 in
    let coefficients_is : set coefficients q.source (K.add (get_or coefficients q.source 0) last)
    ≡ set coefficients q.source c.add.result =
    ap (set coefficients q.source) (ap (λ t. K.add t last) (sym at) ∙ sym c.add.ensures) in
    subst₂ (Rebuilding K n vectors ps target) coefficients_is taken_is
    (rebuilding-next K h n vectors ps target coefficients shorter last q
    (own_matrix K (length c.args.columns.now) n vectors c.requires.columns) c.requires.pivots.fit inside is from
    (subst (Rebuilding K n vectors ps target coefficients) c.in-Some.ensures.items c.loop-last.invariant))

pub returns-clause-same : goal.returns-clause-same
returns-clause-same g c =
    let K : Ops = g.F.Scalars.ops c.args.f.now in
    let h : IsField K = g.met.F.Scalars.is_field c.args.f.now in
    let n : ℕ = c.args.self.now.size in
    let vectors : List (List ℕ) = lists c.args.columns.now in
    let ps : List Pivot = c.args.self.now.pivots.items in
    rebuilding-end K h n vectors ps (combination K n c.args.parts.items (rows ps)) c.loop-last.coefficients.items
    c.loop-last.parts.items
    (own_matrix K (length c.args.columns.now) n vectors c.requires.columns)
    (omega (arith, c.in_default.ensures.cases.0)) c.loop-last.invariant

pub returns-clause-leading : goal.returns-clause-leading
returns-clause-leading g c =
    let K : Ops = g.F.Scalars.ops c.args.f.now in
    let h : IsField K = g.met.F.Scalars.is_field c.args.f.now in
    let n : ℕ = c.args.self.now.size in
    let ps : List Pivot = c.args.self.now.pivots.items in
    rebuilding-leads K h n (lists c.args.columns.now) (length c.args.columns.now) ps
    (combination K n c.args.parts.items (rows ps))
    c.loop-last.coefficients.items c.loop-last.parts.items c.requires.pivots c.loop-last.invariant
