use Rattle.std.proofs.Common.{ℕ, ◌<◌, List, get_or, set, refl, sym, ap, ◌∙◌, arith}
use Rattle.std.proofs.lemmas.List.Elements.{All-set}
use Rattle.dense_blocks.specs.Field.{Ops}
use Rattle.dense_blocks.specs.FieldLaws.{IsField}
use Rattle.dense_blocks.specs.Vectors.{multiple}
use Rattle.dense_blocks.proofs.RowSteps.{changed-none, scale-next, scale-all}
use Rattle.dense_blocks.proofs.scalars.Scalars.scale.Goals as goal

pub loop-entry-init : goal.loop-entry-init
loop-entry-init g c =
    let K : Ops = g.Self.Scalars.ops c.args.self.now in
    record {
      now = sym (changed-none (multiple K c.args.k c.args.target.now) c.args.target.now);
      scalars = c.requires.target_scalars;
    }

pub loop-entry-preserved : goal.loop-entry-preserved
loop-entry-preserved g c =
    let K : Ops = g.Self.Scalars.ops c.args.self.now in
    let h : IsField K = g.met.Self.Scalars.is_field c.args.self.now in
    let i : ℕ = c.loop-entry.entry-index in
    let target : List ℕ = c.loop-entry.target in
    record {
      now = ap (set target i) c.mul.ensures
          ∙ scale-next K c.args.k i target c.args.target.now (get_or target i 0) (omega arith)
          c.loop-entry.invariant.now refl;
      scalars = All-set (λ a. a < K.order) target i c.mul.result
          (omega (arith, c.mul.ensures, h.mul_below c.args.k (get_or target i 0))) c.loop-entry.invariant.scalars;
    }

pub returns-clause-product : goal.returns-clause-product
returns-clause-product g c =
    let K : Ops = g.Self.Scalars.ops c.args.self.now in
    scale-all K c.args.k c.loop-entry.entry-index c.loop-entry.target c.args.target.now (omega arith)
    c.loop-entry.invariant.now
