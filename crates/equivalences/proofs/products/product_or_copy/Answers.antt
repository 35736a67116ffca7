use Rattle.equivalences.proofs.Identities.{identity-times, times-identity}
use Rattle.equivalences.proofs.products.product_or_copy.Goals as goal

pub returns-then-is_identity-clause-block : goal.returns-then-is_identity-clause-block
returns-then-is_identity-clause-block g c =
    identity-times (g.F.Scalars.ops c.args.f.now) (g.met.F.Scalars.is_field c.args.f.now) c.args.a.now c.args.b.now
    c.in_ok-copy.copy
    c.requires.shapes c.requires.b_scalars c.if-is_identity.ensures.square c.if-is_identity.ensures.identity
    c.in_ok-copy.ensures

pub returns-then-is_identity-2-clause-block : goal.returns-then-is_identity-2-clause-block
returns-then-is_identity-2-clause-block g c =
    times-identity (g.F.Scalars.ops c.args.f.now) (g.met.F.Scalars.is_field c.args.f.now) c.args.a.now c.args.b.now
    c.in_ok-copy-2.copy
    c.requires.shapes c.requires.a_scalars c.if-is_identity-2.ensures.square c.if-is_identity-2.ensures.identity
    c.in_ok-copy-2.ensures
