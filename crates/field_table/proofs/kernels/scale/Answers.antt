use Rattle.std.proofs.Common.{◌≡◌, ℕ, ◌*◌, ◌%◌, List, set, sym, ap, subst, ◌∙◌, arith}
use Rattle.dense_blocks.specs.Vectors.{AllScalars, multiple}
use Rattle.dense_blocks.proofs.RowSteps.{changed-none, scale-next, scale-all}
use Rattle.field_table.specs.Modular.{modulo}
use Rattle.field_table.proofs.Remainders.{multiple-scalars}
use Rattle.field_table.proofs.kernels.scale.Goals as goal

pub loop-entry-init : goal.loop-entry-init
loop-entry-init g c = sym (changed-none (multiple (modulo g.row.Q) c.args.k c.args.target.now) c.args.target.now)

pub loop-entry-preserved : goal.loop-entry-preserved
loop-entry-preserved g c =
    let i : ℕ = c.loop-entry.entry-index in
    let target : List ℕ = c.loop-entry.target in
    ap (λ k. set target i ((k * c.from.result) % g.row.Q)) c.from-factor.ensures
    ∙ scale-next (modulo g.row.Q) c.args.k i target c.args.target.now c.from.result (omega arith)
    c.loop-entry.invariant c.from.ensures

pub returns : goal.returns
returns g c =
    let K : _ = modulo g.row.Q in
    let product : c.loop-entry.target ≡ multiple K c.args.k c.args.target.now =
    scale-all K c.args.k c.loop-entry.entry-index c.loop-entry.target c.args.target.now (omega arith)
    c.loop-entry.invariant in
    record {
      product = product;
      scalars = subst (AllScalars K) (sym product) (multiple-scalars g.row.Q (omega arith) c.args.k c.args.target.now);
    }
