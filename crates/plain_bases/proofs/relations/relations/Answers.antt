use Rattle.std.proofs.Common.{◌≡◌, ℕ, subst, length, arith}
use Rattle.dense_blocks.specs.Solutions.{lists}
use Rattle.plain_bases.specs.Relations.{SpansRelationsBelow}
use Rattle.plain_bases.proofs.RelationLaws.{relations_all}
use Rattle.plain_bases.proofs.VecLaws.{lists-size}
use Rattle.plain_bases.proofs.relations.relations.Goals as goal

pub returns-clause-spans : goal.returns-clause-spans
returns-clause-spans g c =
    let K = g.F.Scalars.ops c.args.f.now in
    let vs = lists c.args.vectors.now.all.items in
    let end : c.loop-j.j ≡ length vs = omega (arith, lists-size c.args.vectors.now.all.items) in
    relations_all K (g.met.F.Scalars.is_field c.args.f.now) c.args.vectors.now.size vs (lists c.loop-j.found.items)
    (subst (λ (k : ℕ). SpansRelationsBelow K c.args.vectors.now.size vs k (lists c.loop-j.found.items)) end
    c.loop-j.invariant.spans)
