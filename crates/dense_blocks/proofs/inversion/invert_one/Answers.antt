use Rattle.std.proofs.Common.{◌≡◌, ◌∷◌, ◌++◌, [], get_or, sym, ap, ◌∙◌}
use Rattle.dense_blocks.specs.Field.{Ops}
use Rattle.dense_blocks.specs.declared.block.Block.{Block}
use Rattle.dense_blocks.proofs.InvertingSteps.{one-inverse, one-kernel}
use Rattle.dense_blocks.proofs.inversion.invert_one.Goals as goal

pub returns-then-entry-eq0 : goal.returns-then-entry-eq0
returns-then-entry-eq0 g c =
    let a : Block = c.args.a.now in
    let entry : get_or c.as_slice.result.now 0 0 ≡ get_or a.entries 0 0 = ap (λ t. get_or t 0 0) c.as_slice.ensures in
    one-kernel (g.F.Scalars.ops c.args.f.now) (g.met.F.Scalars.is_field c.args.f.now) a c.requires.one c.requires.square
    c.requires.scalars c.push.new.self.items
    (sym entry ∙ c.if-entry-eq0.true) (c.in_ok-push.ensures.items ∙ ap (λ t. t ++ 1 ∷ []) c.new-one.ensures.items)

pub returns : goal.returns
returns g c =
    let K : Ops = g.F.Scalars.ops c.args.f.now in
    let a : Block = c.args.a.now in
    let entry : get_or c.as_slice.result.now 0 0 ≡ get_or a.entries 0 0 = ap (λ t. get_or t 0 0) c.as_slice.ensures in
    one-inverse K (g.met.F.Scalars.is_field c.args.f.now) a c.requires.one c.requires.square c.requires.scalars
    c.in_ok-inverse.inverse c.inv.result
    (λ e. c.if-entry-eq0.false (entry ∙ e)) (c.inv.ensures ∙ ap K.inv entry) c.in_ok-inverse.ensures.block
