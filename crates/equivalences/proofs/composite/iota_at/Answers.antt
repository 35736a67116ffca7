use Rattle.std.proofs.Common.{sym, ◌∙◌}
use Rattle.equivalences.proofs.ComposedBlocks.{iota-holds}
use Rattle.equivalences.proofs.composite.iota_at.Goals as goal

pub product_or_copy-requires : goal.product_or_copy-requires
product_or_copy-requires g c =
    let one = c.requires.composable.3 in
    let two = c.requires.composable.4 in
    let left = one.iota c.args.k c.member-left.result.now c.member-left.ensures in
    let right = two.iota c.args.k c.member-right.result.now c.member-right.ensures in
    record { shapes = left.columns_are ∙ sym right.rows_are; a_scalars = left.scalars; b_scalars = right.scalars }

pub returns : goal.returns
returns g c = λ C D E one two.
    iota-holds (g.F.Scalars.ops c.args.f.now) c.args.first.now c.args.second.now
    (g.met.F.Scalars.is_field c.args.f.now) C D E one two c.args.k c.member-left.result.now c.member-right.result.now
    c.in_ok-iota.iota
    c.member-left.ensures c.member-right.ensures c.in_ok-iota.ensures.block c.in_ok-iota.ensures.scalars
