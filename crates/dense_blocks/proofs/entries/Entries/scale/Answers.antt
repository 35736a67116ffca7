use Rattle.std.proofs.Common.{length, ap, ◌∙◌}
use Rattle.dense_blocks.specs.Vectors.{multiple}
use Rattle.dense_blocks.proofs.Tails.{whole-written}
use Rattle.dense_blocks.proofs.entries.Entries.scale.Goals as goal

pub returns : goal.returns
returns g c =
    whole-written c.self.inside.items.items c.scale.new.target
    (c.scale.auto.target ∙ ap length c.as_mut_slice.ensures.value)
    ∙ c.scale.ensures.product
    ∙ ap (multiple (g.F.Scalars.ops c.args.f.now) c.args.k) (c.as_mut_slice.ensures.value ∙ c.self.view_is)
