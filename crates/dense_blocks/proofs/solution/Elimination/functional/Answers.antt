use Rattle.std.proofs.Common.{◌≡◌, ℕ, ◌+◌, ◌-◌, ◌<◌, List, length, get_or, set, sym, ap, ap₂, ◌∙◌, subst, arith}
use Rattle.std.proofs.lemmas.List.{get_or_read}
use Rattle.std.proofs.lemmas.List.Elements.{All-get_or}
use Rattle.dense_blocks.specs.Field.{Ops}
use Rattle.dense_blocks.specs.FieldLaws.{IsField}
use Rattle.dense_blocks.specs.Vectors.{dot}
use Rattle.dense_blocks.specs.Elimination.{IsPivot}
use Rattle.dense_blocks.specs.declared.solution.Pivot.{Pivot}
use Rattle.dense_blocks.proofs.EliminationSteps.{Pulling, pulling-start, pulling-next, pulling-end}
use Rattle.dense_blocks.proofs.solution.Elimination.functional.Goals as goal

pub loop-i-init : goal.loop-i-init
loop-i-init g c =
    let K : Ops = g.F.Scalars.ops c.args.f.now in
    let h : IsField K = g.met.F.Scalars.is_field c.args.f.now in
    let place : ℕ = c.args.place in
    pulling-start K h c.args.self.now.size c.args.self.now.pivots.items place c.args.k c.len-i.result
    (set c.in_ok-functional.functional.items place c.args.k)
    c.requires.fit c.requires.place c.requires.scalar (omega arith)
    (ap (λ t. set t place c.args.k) c.in_ok-functional.ensures.items)

pub loop-i-preserved : goal.loop-i-preserved
loop-i-preserved g c =
    let K : Ops = g.F.Scalars.ops c.args.f.now in
    let h : IsField K = g.met.F.Scalars.is_field c.args.f.now in
    let n : ℕ = c.args.self.now.size in
    let ps : List Pivot = c.args.self.now.pivots.items in
    let i : ℕ = c.loop-i.i - 1 in
    let p : List ℕ = c.loop-i.functional.items in
    let q : Pivot = c.index-pivot.result.now in
    let less : ℕ = c.neg-less.result in
    let inside : i < length ps = omega arith in
    let fit : IsPivot K n q = subst (IsPivot K n) (sym c.index-pivot.ensures)
    (All-get_or (IsPivot K n) ps i q inside c.requires.fit) in
    let on_row : c.dot-on_row.result ≡ dot K p q.row.items =
    c.dot-on_row.ensures.value ∙ ap₂ (dot K) c.as_slice.ensures.value c.as_slice-in-loop-i.ensures.value in
    let is_less : less ≡ K.neg (K.mul (dot K p q.row.items) q.inverse) =
    c.neg-less.ensures ∙ ap K.neg (c.mul.ensures ∙ ap (λ t. K.mul t q.inverse) on_row) in
    let low : less < K.order = omega (arith, c.neg-less.ensures, h.neg_below c.mul.result) in
    let at : c.index.result.now ≡ get_or p q.place 0 =
    get_or_read p q.place c.index.result.now (omega (arith, fit.place, c.loop-i.invariant.functional.size))
    c.index.ensures 0 in
    let now : Pulling K n ps c.args.place c.args.k (i + 1) p =
    subst (λ t. Pulling K n ps c.args.place c.args.k t p) (omega arith) c.loop-i.invariant in
    subst (λ t. Pulling K n ps c.args.place c.args.k i (set p q.place t)) (ap (λ t. K.add t less) (sym at)
    ∙ sym c.add.ensures)
    (pulling-next K h n ps c.args.place c.args.k i p q less c.requires.fit inside c.index-pivot.ensures fit is_less low
    now)

pub returns : goal.returns
returns g c =
    let K : Ops = g.F.Scalars.ops c.args.f.now in
    let h : IsField K = g.met.F.Scalars.is_field c.args.f.now in
    pulling-end K h c.args.self.now.size c.args.self.now.pivots.items c.args.place c.args.k c.loop-i.i
    c.loop-i.functional.items (omega arith) c.loop-i.invariant
