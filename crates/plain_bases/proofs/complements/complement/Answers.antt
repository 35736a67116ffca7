use Rattle.std.proofs.Common.{◌≡◌, ◌<◌, ◌≤◌, ◌+◌, ◌∙◌, [], sym, subst, ap, Vec, ℕ, Global, length, List, drop, get_or}
use Rattle.std.proofs.Common.{arith}
use Rattle.std.proofs.lemmas.List.{drop-map, length-drop}
use Rattle.dense_blocks.specs.Vectors.{IsVector}
use Rattle.dense_blocks.specs.MatrixFacts.{IsMatrix}
use Rattle.dense_blocks.specs.Solutions.{lists}
use Rattle.dense_blocks.proofs.EliminationSteps.{list_at}
use Rattle.plain_bases.specs.Complements.{Completes, IsConsidered}
use Rattle.plain_bases.proofs.VecLaws.{lists-size, vector_at}
use Rattle.plain_bases.proofs.MemoryLaws.{taken_is_matrix, considered-size, next_candidate}
use Rattle.plain_bases.proofs.complements.complement.Goals as goal

pub consider-requires-clause-taken : goal.consider-requires-clause-taken
consider-requires-clause-taken g c =
    let K = g.F.Scalars.ops c.args.f.now in
    let others = c.args.others in
    let candidates = c.args.candidates.now in
    let kept = c.loop-candidate.invariant in
    let taken = c.loop-candidate.taken in
    let ho = subst (λ k. IsMatrix K k others.size (lists others.all.items)) (sym (lists-size others.all.items))
    c.requires.others in
    let hc = subst (λ k. IsMatrix K k others.size (lists candidates.all.items)) (sym (lists-size candidates.all.items))
    (subst (λ n. IsMatrix K (length candidates.all.items) n (lists candidates.all.items)) (sym c.requires.sizes)
    c.requires.candidates) in
    let whole = taken_is_matrix K (g.met.F.Scalars.is_field c.args.f.now) others.size (lists others.all.items)
    (lists candidates.all.items) ho hc
    c.loop-candidate.candidate-index (lists taken.all.items) c.len-count.result
    (omega (arith, lists-size others.all.items)) kept.kept kept.completes in
    subst (λ n. IsMatrix K (length taken.all.items) n (lists taken.all.items)) (sym kept.size)
    (subst (λ k. IsMatrix K k others.size (lists taken.all.items)) (lists-size taken.all.items) whole)

pub consider-requires-clause-candidate : goal.consider-requires-clause-candidate
consider-requires-clause-candidate g c =
    let K = g.F.Scalars.ops c.args.f.now in
    let candidates = c.args.candidates.now in
    let i = c.loop-candidate.candidate-index in
    let item = c.candidate-item.result in
    let inside : i < length candidates.all.items = subst (λ (vs : List (Vec ℕ Global)). i < length vs)
    c.deref-candidate-items.ensures.value c.loop-candidate-test.true in
    let is = c.deref.ensures.value ∙ ap (λ (v : Vec ℕ Global). v.items) (c.candidate-item.is
    ∙ ap (λ (vs : List (Vec ℕ Global)). get_or vs i item) c.deref-candidate-items.ensures.value) in
    subst (λ n. IsVector K n c.deref.result.now) (sym c.requires.sizes ∙ sym c.loop-candidate.invariant.size)
    (subst (IsVector K candidates.size) (sym is)
    (vector_at K _ candidates.size candidates.all.items c.requires.candidates i item inside))

pub loop-candidate-preserved : goal.loop-candidate-preserved
loop-candidate-preserved g c =
    let K = g.F.Scalars.ops c.args.f.now in
    let others = c.args.others in
    let candidates = c.args.candidates.now in
    let kept = c.loop-candidate.invariant in
    let taken = c.loop-candidate.taken in
    let i = c.loop-candidate.candidate-index in
    let item = c.candidate-item.result in
    let ho = subst (λ k. IsMatrix K k others.size (lists others.all.items)) (sym (lists-size others.all.items))
    c.requires.others in
    let hc = subst (λ k. IsMatrix K k others.size (lists candidates.all.items)) (sym (lists-size candidates.all.items))
    (subst (λ n. IsMatrix K (length candidates.all.items) n (lists candidates.all.items)) (sym c.requires.sizes)
    c.requires.candidates) in
    let inside : i < length candidates.all.items = subst (λ (vs : List (Vec ℕ Global)). i < length vs)
    c.deref-candidate-items.ensures.value c.loop-candidate-test.true in
    let is = c.deref.ensures.value
    ∙ list_at candidates.all.items i item inside (c.candidate-item.is
    ∙ ap (λ (vs : List (Vec ℕ Global)). get_or vs i item) c.deref-candidate-items.ensures.value) in
    let considered = subst (λ n. IsConsidered K n (lists taken.all.items) (get_or (lists candidates.all.items) i [])
    (lists c.consider.new.taken.all.items)) kept.size
    (subst (λ (v : List ℕ). IsConsidered K taken.size (lists taken.all.items) v (lists c.consider.new.taken.all.items))
    is c.in_ok-consider.ensures.considered) in
    let one_more : length c.consider.new.taken.all.items ≤ length taken.all.items + 1 =
    considered-size K others.size taken.all.items (get_or (lists candidates.all.items) i [])
    c.consider.new.taken.all.items considered in
    let step = next_candidate K (g.met.F.Scalars.is_field c.args.f.now) others.size (lists others.all.items)
    (lists candidates.all.items) ho hc i
    (lists taken.all.items) c.len-count.result (omega (arith, lists-size others.all.items)) kept.kept kept.completes
    (subst (λ k. i < k) (sym (lists-size candidates.all.items)) inside) (lists c.consider.new.taken.all.items)
    considered in
    record {
      size = c.consider.ensures.size ∙ kept.size;
      kept = step.0;
      completes = step.1;
      few =
          omega (arith, one_more);
    }

pub returns-clause-completes : goal.returns-clause-completes
returns-clause-completes g c =
    let K = g.F.Scalars.ops c.args.f.now in
    let others = c.args.others in
    let candidates = c.args.candidates.now in
    let taken = c.loop-candidate.taken.all.items in
    let end : c.loop-candidate.candidate-index ≡ length candidates.all.items =
    let size = ap length c.deref-candidate-items.ensures.value in omega arith in
    let tail : lists c.in_ok-chosen.chosen.items ≡ drop c.len-count.result (lists taken) =
    ap lists c.in_ok-chosen.ensures.tail ∙ sym (drop-map (λ (v : Vec ℕ Global). v.items) c.len-count.result taken) in
    subst (λ (chosen : List (List ℕ)). Completes K others.size (lists others.all.items) (lists candidates.all.items)
    (length candidates.all.items) chosen) (sym tail)
    (subst (λ (i : ℕ). Completes K others.size (lists others.all.items) (lists candidates.all.items) i
    (drop c.len-count.result (lists taken))) end
    c.loop-candidate.invariant.completes)

pub returns-clause-few : goal.returns-clause-few
returns-clause-few g c =
    omega (
      arith,
      ap length c.in_ok-chosen.ensures.tail,
      length-drop c.len-count.result c.loop-candidate.taken.all.items,
      ap length c.deref-candidate-items.ensures.value,
      c.loop-candidate.invariant.few,
    )
