use Rattle.std.proofs.Common.{◌≡◌, ◌∷◌, true, false, drop, refl, sym, ◌∙◌, ap}
use Rattle.pair_commit.proofs.SlotLaws.{next-candidate, first-is, first-inverse}
use Rattle.pair_commit.proofs.next.next_try.Goals as goal

pub returns-in_default-clause-may_finish : goal.returns-in_default-clause-may_finish
returns-in_default-clause-may_finish c = λ K is inverses. c.in_ok-foot.ensures.over K is

pub returns-then-stands-clause-takes : goal.returns-then-stands-clause-takes
returns-then-stands-clause-takes c =
    let v = c.args.b.now in
    let all = c.args.carried.now.items in
    let first = c.in-Some.first.now in (
      next-candidate v c.args.from c.args.pair c.requires.next,
      record {
        kept = first;
        rest = drop 1 all;
        first = first-is all first c.in-Some.ensures.item.3.0 c.in-Some.ensures.lookup;
        stands = c.if-stands.ensures.0 refl;
        footprint = c.in_ok-foot-2.ensures.footprint;
        pivot = c.in_ok-foot-2.ensures.pivot;
        inverse_is = c.in_ok-foot-2.ensures.inverse;
      },
      refl,
    )

pub returns-then-stands-clause-may_finish : goal.returns-then-stands-clause-may_finish
returns-then-stands-clause-may_finish c = λ K is inverses.
    let all = c.args.carried.now.items in
    let first = c.in-Some.first.now in
    let work = c.in_ok-foot-2.ensures in (
      work.over K is,
      first-inverse K all first (drop 1 all) c.in_ok-foot-2.foot.pivot c.in_ok-foot-2.inverse
          (first-is all first c.in-Some.ensures.item.3.0 c.in-Some.ensures.lookup) inverses work.pivot work.inverse,
    )

pub returns-clause-takes : goal.returns-clause-takes
returns-clause-takes c =
    let v = c.args.b.now in
    let all = c.args.carried.now.items in
    let first = c.in-Some.first.now in (
      next-candidate v c.args.from c.args.pair c.requires.next,
      record {
        kept = first;
        first = first-is all first c.in-Some.ensures.item.3.0 c.in-Some.ensures.lookup
            ∙ ap (λ rest. first ∷ rest) (sym c.pop_front-first.ensures.rest);
        from = refl;
        to = refl;
        differs = λ stands. let e : ◌≡◌ false true = c.if-stands.ensures.1 stands in cc;
      },
    )
