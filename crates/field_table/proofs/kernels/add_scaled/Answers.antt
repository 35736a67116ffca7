use Rattle.std.proofs.Common.{◌≡◌, ℕ, ◌+◌, ◌*◌, ◌%◌, List, set, sym, ap, subst, ◌∙◌, arith}
use Rattle.std.proofs.Math.Nat.{add-mod-mod}
use Rattle.dense_blocks.specs.Vectors.{AllScalars, plus, multiple}
use Rattle.dense_blocks.proofs.RowSteps.{changed-none, add_scaled-next, add_scaled-all}
use Rattle.field_table.specs.Modular.{modulo}
use Rattle.field_table.proofs.Remainders.{plus-scalars}
use Rattle.field_table.proofs.kernels.add_scaled.Goals as goal

pub loop-i-init : goal.loop-i-init
loop-i-init g c =
    sym (changed-none (plus (modulo g.row.Q) c.args.target.now (multiple (modulo g.row.Q) c.args.k c.args.row.now))
    c.args.target.now)

pub loop-i-preserved : goal.loop-i-preserved
loop-i-preserved g c =
    let q : ℕ = g.row.Q in
    let i : ℕ = c.loop-i.i in
    let target : List ℕ = c.loop-i.target in
    let a : ℕ = c.from.result in
    let b : ℕ = c.from-in-loop-i.result in
    let value : (a + c.from-factor.result * b) % q ≡ (a + (c.args.k * b) % q) % q =
    ap (λ k. (a + k * b) % q) c.from-factor.ensures ∙ sym (add-mod-mod a (c.args.k * b) q) in
    ap (set target i) value
    ∙ add_scaled-next (modulo q) c.args.k i target c.args.target.now c.args.row.now a b
    c.requires.sizes (omega arith) c.loop-i.invariant c.from.ensures c.from-in-loop-i.ensures

pub returns : goal.returns
returns g c =
    let K : _ = modulo g.row.Q in
    let sum : c.loop-i.target ≡ plus K c.args.target.now (multiple K c.args.k c.args.row.now) =
    add_scaled-all K c.args.k c.loop-i.i c.loop-i.target c.args.target.now c.args.row.now c.requires.sizes
    (omega arith) c.loop-i.invariant in
    record {
      sum = sum;
      scalars = subst (AllScalars K) (sym sum)
          (plus-scalars g.row.Q (omega arith) c.args.target.now (multiple K c.args.k c.args.row.now));
    }
