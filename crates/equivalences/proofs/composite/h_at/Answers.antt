use Rattle.std.proofs.Common.{◌≡◌, suc, Some, slice_get, sym, ◌∙◌, subst, arith, add-one}
use Rattle.equivalences.proofs.ComposedBlocks.{last-h-holds, h-holds}
use Rattle.equivalences.proofs.composite.h_at.Goals as goal

pub product_or_copy-requires : goal.product_or_copy-requires
product_or_copy-requires g c =
    let left = c.requires.composable.4.h c.args.k c.member-other.result.now c.member-other.ensures in
    let right = c.requires.composable.3.pi (suc c.args.k) c.member-pi.result.now
    (subst (λ j. slice_get c.args.first.now.pi j ≡ Some c.member-pi.result.now) (add-one c.args.k) c.member-pi.ensures)
    in
    record { shapes = left.columns_are ∙ sym right.rows_are; a_scalars = left.scalars; b_scalars = right.scalars }

pub product_or_copy-requires-2 : goal.product_or_copy-requires-2
product_or_copy-requires-2 g c =
    let left = c.requires.composable.3.iota c.args.k c.member-iota.result.now c.member-iota.ensures in
    let other = c.requires.composable.4.h c.args.k c.member-other.result.now c.member-other.ensures in
    record {
      shapes = left.columns_are ∙ sym (c.in_ok-inner.ensures.block.rows_are ∙ other.rows_are);
      a_scalars = left.scalars;
      b_scalars = c.in_ok-inner.ensures.scalars;
    }

pub sum-requires : goal.sum-requires
sum-requires g c =
    let own = c.requires.composable.3.h c.args.k c.member-own.result.now c.member-own.ensures in
    let iota = c.requires.composable.3.iota c.args.k c.member-iota.result.now c.member-iota.ensures in
    let pi = c.requires.composable.3.pi (suc c.args.k) c.member-pi.result.now
    (subst (λ j. slice_get c.args.first.now.pi j ≡ Some c.member-pi.result.now) (add-one c.args.k) c.member-pi.ensures)
    in
    record {
      rows = own.rows_are ∙ sym (c.in_ok-carried.ensures.block.rows_are ∙ iota.rows_are);
      cols = own.columns_are ∙ sym (c.in_ok-carried.ensures.block.columns_are ∙ c.in_ok-inner.ensures.block.columns_are
          ∙ pi.columns_are);
      a_scalars = own.scalars;
      b_scalars = c.in_ok-carried.ensures.scalars;
    }

pub returns-then-k-eq-DEGREES : goal.returns-then-k-eq-DEGREES
returns-then-k-eq-DEGREES g c = λ C D E one two.
    last-h-holds (g.F.Scalars.ops c.args.f.now) c.args.first.now c.args.second.now
    (g.met.F.Scalars.is_field c.args.f.now) C D E one two c.args.k
    c.member-own.result.now c.member-iota.result.now c.member-other.result.now c.in_ok-h.h
    c.member-own.ensures c.member-iota.ensures c.member-other.ensures (omega arith) c.in_ok-h.ensures

pub returns : goal.returns
returns g c = λ C D E one two.
    h-holds (g.F.Scalars.ops c.args.f.now) c.args.first.now c.args.second.now
    (g.met.F.Scalars.is_field c.args.f.now) C D E one two c.args.k
    c.member-own.result.now c.member-iota.result.now c.member-other.result.now c.member-pi.result.now
    c.in_ok-inner.inner c.in_ok-carried.carried c.in_ok-h-2.h
    c.member-own.ensures c.member-iota.ensures c.member-other.ensures
    (subst (λ j. slice_get c.args.first.now.pi j ≡ Some c.member-pi.result.now) (add-one c.args.k) c.member-pi.ensures)
    c.in_ok-inner.ensures.block c.in_ok-inner.ensures.scalars
    c.in_ok-carried.ensures.block c.in_ok-carried.ensures.scalars
    c.in_ok-h-2.ensures.block c.in_ok-h-2.ensures.scalars
