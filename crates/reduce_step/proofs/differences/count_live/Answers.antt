use Rattle.std.proofs.Common.{◌≡◌, ℕ, true, get_or, subst, arith, rules}
use Rattle.std.proofs.lemmas.List.Elements.{All-more}
use Rattle.reduce_step.specs.Differences.{IsSized}
use Rattle.reduce_step.proofs.differences.count_live.Goals as goal

pub loop-i-preserved : goal.loop-i-preserved
loop-i-preserved c =
    let live = c.args.b.now.live in
    let i : ℕ = c.loop-i.i in
    let is_live : c.is_live_as.result ≡ true = search rules in
    All-more (λ l. IsSized live l.0 l.1) c.args.listed.now i (0, 0) (omega arith) c.loop-i.invariant
    (subst (IsSized live (get_or c.args.listed.now i (0, 0)).0) c.from.ensures (c.is_live_as.ensures.0 is_live))
