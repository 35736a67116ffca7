use Rattle.std.proofs.Common.{◌≡◌, ℕ, ◌+◌, List, get_or, refl, ap, ◌∙◌, arith}
use Rattle.dense_blocks.specs.Field.{Ops}
use Rattle.dense_blocks.specs.FieldLaws.{IsField}
use Rattle.dense_blocks.proofs.ScalarLaws.{zero_below}
use Rattle.dense_blocks.proofs.RowSteps.{dot_from, dot_from-start, dot_from-next, dot_from-all}
use Rattle.dense_blocks.proofs.scalars.Scalars.dot.Goals as goal

pub loop-i-init : goal.loop-i-init
loop-i-init g c =
    let K : Ops = g.Self.Scalars.ops c.args.self.now in
    let h : IsField K = g.met.Self.Scalars.is_field c.args.self.now in
    record { scalar = zero_below K h; rest = dot_from-start K h c.args.u.now c.args.v.now }

pub loop-i-preserved : goal.loop-i-preserved
loop-i-preserved g c =
    let K : Ops = g.Self.Scalars.ops c.args.self.now in
    let h : IsField K = g.met.Self.Scalars.is_field c.args.self.now in
    let i : ℕ = c.loop-i.i in
    let u : List ℕ = c.args.u.now in
    let v : List ℕ = c.args.v.now in
    let product : ℕ = K.mul (get_or u i 0) (get_or v i 0) in
    let value : c.add-total.result ≡ K.add c.loop-i.total product = c.add-total.ensures
    ∙ ap (K.add c.loop-i.total) c.mul.ensures in
    record {
      scalar = omega (arith, value, h.add_below c.loop-i.total product);
      rest = ap (λ t. K.add t (dot_from K (i + 1) u v)) value
          ∙ dot_from-next K h i c.loop-i.total (get_or u i 0) (get_or v i 0) u v c.requires.sizes (omega arith) refl
          refl c.loop-i.invariant.rest;
    }

pub returns-clause-value : goal.returns-clause-value
returns-clause-value g c =
    let K : Ops = g.Self.Scalars.ops c.args.self.now in
    let h : IsField K = g.met.Self.Scalars.is_field c.args.self.now in
    dot_from-all K h c.loop-i.i c.loop-i.total c.args.u.now c.args.v.now (omega arith) c.loop-i.invariant.scalar
    c.loop-i.invariant.rest
