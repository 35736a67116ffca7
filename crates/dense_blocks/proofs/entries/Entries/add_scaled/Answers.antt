use Rattle.std.proofs.Common.{length, ap, ◌∙◌}
use Rattle.dense_blocks.specs.Field.{Ops}
use Rattle.dense_blocks.specs.Vectors.{plus, multiple}
use Rattle.dense_blocks.proofs.Tails.{whole-written}
use Rattle.dense_blocks.proofs.entries.Entries.add_scaled.Goals as goal

pub returns : goal.returns
returns g c =
    let K : Ops = g.F.Scalars.ops c.args.f.now in
    whole-written c.self.inside.items.items c.add_scaled.new.target
    (c.add_scaled.auto.target ∙ ap length c.as_mut_slice.ensures.value)
    ∙ c.add_scaled.ensures.sum
    ∙ ap (λ v. plus K v (multiple K c.args.k c.args.others.now)) (c.as_mut_slice.ensures.value ∙ c.self.view_is)
