use Rattle.std.proofs.Common.{◌≡◌, ◌≢◌, ◌<◌, ◌∙◌, ◌+◌, ◌∷◌, [], sym, subst, ap, All, Vec, ℕ, Global, length, List, take}
use Rattle.std.proofs.Common.{arith}
use Rattle.std.proofs.lemmas.List.{map-append}
use Rattle.std.proofs.lemmas.List.Elements.{All-take}
use Rattle.dense_blocks.specs.Vectors.{AllScalars, combination}
use Rattle.dense_blocks.specs.Solutions.{lists, Solves, Combines}
use Rattle.dense_blocks.proofs.EliminationSteps.{list_at}
use Rattle.plain_bases.specs.Relations.{SpansRelationsBelow}
use Rattle.plain_bases.proofs.VecLaws.{all_sizes, each_scalars, vector_at}
use Rattle.plain_bases.proofs.MemoryLaws.{own_added, none_added}
use Rattle.plain_bases.proofs.relations.add_relation.Goals as goal

pub solve-requires-clause-sizes : goal.solve-requires-clause-sizes
solve-requires-clause-sizes g c =
    let K = g.F.Scalars.ops c.args.f.now in
    let vectors = c.args.vectors.now in
    let own = vector_at K _ vectors.size vectors.all.items c.requires.vectors c.args.j c.index.result.now
    c.requires.place in
    let size : vectors.size ≡ length c.deref-2.result.now =
    sym (ap length (c.deref-2.ensures.value ∙ ap (λ (v : Vec ℕ Global). v.items) c.index.ensures) ∙ own.size) in
    subst (λ (vs : List (Vec ℕ Global)). All (λ v. length v.items ≡ length c.deref-2.result.now) (take c.args.j vs))
    (sym c.deref.ensures.value)
    (All-take (λ v. length v.items ≡ length c.deref-2.result.now) c.args.j vectors.all.items
    (λ k d l. all_sizes K _ vectors.size vectors.all.items c.requires.vectors k d l ∙ size))

pub solve-requires-clause-column_scalars : goal.solve-requires-clause-column_scalars
solve-requires-clause-column_scalars g c =
    let K = g.F.Scalars.ops c.args.f.now in
    let vectors = c.args.vectors.now in
    subst (λ (vs : List (Vec ℕ Global)). All (λ v. All (λ a. a < K.order) v.items) (take c.args.j vs))
    (sym c.deref.ensures.value)
    (All-take (λ v. All (λ a. a < K.order) v.items) c.args.j vectors.all.items
    (each_scalars K _ vectors.size vectors.all.items c.requires.vectors))

pub solve-requires-clause-v_scalars : goal.solve-requires-clause-v_scalars
solve-requires-clause-v_scalars g c =
    let K = g.F.Scalars.ops c.args.f.now in
    let vectors = c.args.vectors.now in
    let own = vector_at K _ vectors.size vectors.all.items c.requires.vectors c.args.j c.index.result.now
    c.requires.place in
    subst (AllScalars K) (sym (c.deref-2.ensures.value ∙ ap (λ (v : Vec ℕ Global). v.items) c.index.ensures))
    own.scalars

pub returns-in-Combination-clause-spans : goal.returns-in-Combination-clause-spans
returns-in-Combination-clause-spans g c =
    let K = g.F.Scalars.ops c.args.f.now in
    let vectors = c.args.vectors.now in
    let vs = vectors.all.items in
    let v = c.deref-2.result.now in
    let is = c.deref-2.ensures.value ∙ list_at vs c.args.j c.index.result.now c.requires.place c.index.ensures in
    let solved : Combines K (lists (take c.args.j c.deref.result.now)) v c.in-Combination.c.items =
    subst (Solves K (lists (take c.args.j c.deref.result.now)) v) c.in-Combination.is c.in_ok-c.ensures in
    let over : Combines K (lists (take c.args.j vs)) v c.in-Combination.c.items =
    subst (λ (us : List (Vec ℕ Global)). Combines K (lists (take c.args.j us)) v c.in-Combination.c.items)
    c.deref.ensures.value solved in
    subst (SpansRelationsBelow K vectors.size (lists vs) (c.args.j + 1))
    (sym (ap lists c.in_ok-push-in-Combination.ensures.items ∙ map-append (λ (v : Vec ℕ Global). v.items)
    c.args.found.now.items (c.in_ok-own-in-Combination.own ∷ [])))
    (own_added K (g.met.F.Scalars.is_field c.args.f.now) vectors.size vs c.requires.vectors c.args.j c.requires.place
    (lists c.args.found.now.items) c.requires.before v is
    c.in-Combination.c.items c.in_ok-own-in-Combination.own.items _ over c.in_ok-own-in-Combination.ensures
    (omega arith))

pub returns-clause-spans : goal.returns-clause-spans
returns-clause-spans g c =
    let K = g.F.Scalars.ops c.args.f.now in
    let vectors = c.args.vectors.now in
    let vs = vectors.all.items in
    let v = c.deref-2.result.now in
    let is = c.deref-2.ensures.value ∙ list_at vs c.args.j c.index.result.now c.requires.place c.index.ensures in
    let solved = subst (Solves K (lists (take c.args.j c.deref.result.now)) v) c.in-Apart.is c.in_ok-c.ensures in
    let apart = subst (λ (us : List (Vec ℕ Global)). (d : List ℕ)
    → combination K (length v) d (lists (take c.args.j us)) ≢ v) c.deref.ensures.value solved.1 in
    none_added K (g.met.F.Scalars.is_field c.args.f.now) vectors.size vs c.requires.vectors c.args.j c.requires.place
    (lists c.args.found.now.items) c.requires.before v is apart
