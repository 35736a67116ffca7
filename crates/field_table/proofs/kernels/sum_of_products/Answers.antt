use Rattle.std.proofs.Common.{ℕ, ◌<◌, sym, subst, arith}
use Rattle.field_table.proofs.Remainders.{whole_dot-next, whole_dot-all, products-small}
use Rattle.field_table.proofs.kernels.sum_of_products.Goals as goal

pub loop-i-preserved : goal.loop-i-preserved
loop-i-preserved c =
    let i : ℕ = c.loop-i.i in
    let a : ℕ = c.from.result in
    let b : ℕ = c.from-in-loop-i.result in
    record {
      small = products-small i c.loop-i.total a b c.loop-i.invariant.small
          (subst (λ t. t < 256) (sym c.from.ensures) (c.type_inv.u i).fits)
          (subst (λ t. t < 256) (sym c.from-in-loop-i.ensures) (c.type_inv.v i).fits);
      rest = whole_dot-next c.args.u.now c.args.v.now i c.loop-i.total a b (omega arith) c.requires.sizes c.from.ensures
          c.from-in-loop-i.ensures c.loop-i.invariant.rest;
    }

pub overflow_add-total : goal.overflow_add-total
overflow_add-total c = omega (
  arith,
  c.requires.short,
  c.loop-i-test.true,
  products-small c.loop-i.i c.loop-i.total c.from.result c.from-in-loop-i.result c.loop-i.invariant.small
      (subst (λ t. t < 256) (sym c.from.ensures) (c.type_inv.u c.loop-i.i).fits)
      (subst (λ t. t < 256) (sym c.from-in-loop-i.ensures) (c.type_inv.v c.loop-i.i).fits),
)

pub returns : goal.returns
returns c =
    whole_dot-all c.args.u.now c.args.v.now c.loop-i.i c.loop-i.total (omega arith) c.requires.sizes
    c.loop-i.invariant.rest
