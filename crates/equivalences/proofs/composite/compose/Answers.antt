use Rattle.equivalences.proofs.ComposedBlocks.{count-push, more-hold, whole-composite, composite-joins}
use Rattle.equivalences.proofs.composite.compose.Goals as goal

pub loop-k-preserved : goal.loop-k-preserved
loop-k-preserved g c =
    let before = c.loop-k.invariant in
    let k = c.loop-k.k in
    let pi = c.in_ok-pi_at.field-0 in
    let iota = c.in_ok-iota_at.field-0 in
    let h = c.in_ok-h_at.field-0 in
    record {
      pi_count = count-push c.loop-k.pi.items c.push.new.self.items pi k before.pi_count c.in_ok-push.ensures.items;
      iota_count = count-push c.loop-k.iota.items c.push-in-loop-k.new.self.items iota k before.iota_count
          c.in_ok-push-2.ensures.items;
      h_count = count-push c.loop-k.h.items c.push-in-loop-k-2.new.self.items h k before.h_count
          c.in_ok-push-3.ensures.items;
      composite = λ C D E one two.
          more-hold (g.F.Scalars.ops c.args.f.now) c.args.first.now c.args.second.now C E k
          c.loop-k.pi.items c.loop-k.iota.items c.loop-k.h.items
          c.push.new.self.items c.push-in-loop-k.new.self.items c.push-in-loop-k-2.new.self.items
          pi iota h (before.composite C D E one two) before.pi_count before.iota_count before.h_count
          (c.in_ok-pi_at.ensures C D E one two) (c.in_ok-iota_at.ensures C D E one two)
          (c.in_ok-h_at.ensures C D E one two)
          c.in_ok-push.ensures.items c.in_ok-push-2.ensures.items c.in_ok-push-3.ensures.items;
    }

pub returns-clause-composite : goal.returns-clause-composite
returns-clause-composite g c =
    whole-composite (g.F.Scalars.ops c.args.f.now) c.args.first.now c.args.second.now
    c.loop-k.pi.items c.loop-k.iota.items c.loop-k.h.items _ c.loop-k.invariant.composite
    c.of.ensures c.of-2.ensures c.of-3.ensures

pub returns-clause-equivalence : goal.returns-clause-equivalence
returns-clause-equivalence g c =
    composite-joins (g.F.Scalars.ops c.args.f.now) c.args.first.now c.args.second.now
    (g.met.F.Scalars.is_field c.args.f.now) _ (returns-clause-composite g c)
