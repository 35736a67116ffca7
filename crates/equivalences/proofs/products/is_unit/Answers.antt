use Rattle.std.proofs.Common.{◌≡◌, true}
use Rattle.std.proofs.lemmas.Bool.{OnTrue_from}
use Rattle.equivalences.proofs.Identities.{unit_parts}
use Rattle.equivalences.proofs.products.is_unit.Goals as goal

pub returns : goal.returns
returns c = OnTrue_from c.are_zero-2.result _
    (λ (after : c.are_zero-2.result ≡ true).
    unit_parts c.args.row.now c.args.i c.requires c.if-row-i-ne1.false
    (c.are_zero.ensures.0 c.if-not-are_zero.false) (c.are_zero-2.ensures.0 after))
