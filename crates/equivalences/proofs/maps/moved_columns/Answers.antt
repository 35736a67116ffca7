use Rattle.equivalences.proofs.maps.moved_columns.Goals as goal

pub product-requires-clause-a_scalars : goal.product-requires-clause-a_scalars
product-requires-clause-a_scalars g c = c.in_ok-inverse.ensures.scalars (g.F.Scalars.ops c.args.f.now)
    (g.met.F.Scalars.is_field c.args.f.now) c.requires.inverse_scalars
