use Rattle.std.proofs.Common.{◌≡◌, ℕ, ◌+◌, ◌<◌, List, ◌++◌, length, get_or, take, drop, sym, ap, ap₂, ◌∙◌, subst}
use Rattle.std.proofs.Common.{subst₂, arith}
use Rattle.std.proofs.lemmas.List.{get_or_read, take_at}
use Rattle.std.proofs.lemmas.List.Elements.{All-get_or}
use Rattle.dense_blocks.specs.Field.{Ops}
use Rattle.dense_blocks.specs.FieldLaws.{IsField}
use Rattle.dense_blocks.specs.Vectors.{plus, multiple}
use Rattle.dense_blocks.specs.Elimination.{IsPivot, pivot_multiple}
use Rattle.dense_blocks.specs.declared.solution.Pivot.{Pivot}
use Rattle.dense_blocks.proofs.EliminationSteps.{Reducing, reducing-next, reducing-rest, reducing-parts}
use Rattle.dense_blocks.proofs.solution.Elimination.reduce.Goals as goal

pub loop-pivot-preserved : goal.loop-pivot-preserved
loop-pivot-preserved g c =
    let K : Ops = g.F.Scalars.ops c.args.f.now in
    let h : IsField K = g.met.F.Scalars.is_field c.args.f.now in
    let n : ℕ = c.args.self.now.size in
    let ps : List Pivot = c.args.self.now.pivots.items in
    let i : ℕ = c.loop-pivot.pivot-index in
    let u : List ℕ = c.loop-pivot.row.items in
    let after : List ℕ = c.add_scaled.new.target in
    let p : Pivot = c.pivot-item.result in
    let x : ℕ = c.mul-part.result in
    let inside : i < length ps = omega arith in
    let is : p ≡ get_or ps i p = c.pivot-item.is ∙ ap (λ t. get_or t i p) c.deref-pivot-items.ensures.value in
    let fit : IsPivot K n p = subst (IsPivot K n) (sym is) (All-get_or (IsPivot K n) ps i p inside c.requires.fit) in
    let at : c.index.result.now ≡ get_or u p.place 0 =
    get_or_read u p.place c.index.result.now (omega (arith, fit.place, c.loop-pivot.invariant.vector.size))
    c.index.ensures 0 in
    let is_x : x ≡ pivot_multiple K p u = c.mul-part.ensures ∙ ap (λ t. K.mul t p.inverse) at in
    let left : plus K u (multiple K (K.neg x) p.row.items) ≡ take c.loop-pivot.row.len
    (after ++ drop (length after) u) =
    ap₂ (plus K) (sym c.as_mut_slice.ensures.value)
    (ap₂ (multiple K) (sym c.neg.ensures) (sym c.as_slice.ensures.value))
    ∙ sym c.add_scaled.ensures.sum
    ∙ sym (take_at after (drop (length after) u) c.loop-pivot.row.len (omega arith)) in
    subst₂ (Reducing K n ps c.args.vector.now (i + 1)) left (sym c.in_ok-push.ensures.items)
    (reducing-next K h n ps c.args.vector.now i u c.loop-pivot.parts.items p x inside is fit is_x
    c.loop-pivot.invariant)

pub returns-clause-row : goal.returns-clause-row
returns-clause-row g c =
    reducing-rest (g.F.Scalars.ops c.args.f.now) c.args.self.now.size c.args.self.now.pivots.items c.args.vector.now
    c.loop-pivot.pivot-index
    c.loop-pivot.row.items c.loop-pivot.parts.items (omega arith) c.loop-pivot.invariant

pub returns-clause-parts : goal.returns-clause-parts
returns-clause-parts g c =
    reducing-parts (g.F.Scalars.ops c.args.f.now) c.args.self.now.size c.args.self.now.pivots.items c.args.vector.now
    c.loop-pivot.pivot-index
    c.loop-pivot.row.items c.loop-pivot.parts.items (omega arith) c.loop-pivot.invariant
