use Rattle.std.proofs.Common.{◌≡◌, ℕ, ◌%◌, List, sym, ap, ◌∙◌, arith}
use Rattle.dense_blocks.specs.Field.{Ops}
use Rattle.dense_blocks.specs.FieldLaws.{IsField}
use Rattle.dense_blocks.specs.Vectors.{dot}
use Rattle.dense_blocks.proofs.ScalarLaws.{zero_add, zero_below}
use Rattle.dense_blocks.proofs.VectorLaws.{dot-below}
use Rattle.field_table.specs.Table.{ops_of, order_of}
use Rattle.field_table.specs.TableLaws.{table_is_field}
use Rattle.field_table.proofs.Remainders.{whole_dot-remainder, dot-parts}
use Rattle.field_table.proofs.field.FieldScalars.dot.Goals as goal

pub loop-us-init : goal.loop-us-init
loop-us-init c =
    let K : Ops = ops_of c.args.self.now in
    let h : IsField K = table_is_field c.args.self.now in
    record {
      sizes = c.requires.sizes;
      scalar = zero_below K h;
      rest = zero_add K h (dot K c.args.u.now c.args.v.now) (dot-below K h c.args.u.now c.args.v.now);
    }

pub loop-us-preserved : goal.loop-us-preserved
loop-us-preserved c =
    let q : ℕ = order_of c.args.self.now in
    let K : Ops = ops_of c.args.self.now in
    let h : IsField K = table_is_field c.args.self.now in
    let total : ℕ = c.loop-us.total in
    let u_front : List ℕ = c.split_at.result.0.now in
    let v_front : List ℕ = c.split_at-in-loop-us.result.0.now in
    let u_back : List ℕ = c.split_at.result.1.now in
    let v_back : List ℕ = c.split_at-in-loop-us.result.1.now in
    let part : c.remainder.result ≡ dot K u_front v_front =
    c.remainder.ensures.value ∙ ap (λ n. n % q) c.sum_of_products.ensures ∙ whole_dot-remainder q u_front v_front in
    record {
      sizes = omega (
        arith,
        c.split_at.ensures.back_len,
        c.split_at-in-loop-us.ensures.back_len,
        c.loop-us.invariant.sizes,
      );
      scalar = omega (arith, c.add-total.ensures, h.add_below total c.remainder.result);
      rest = ap (λ t. K.add t (dot K u_back v_back)) (c.add-total.ensures ∙ ap (K.add total) part)
          ∙ h.add_assoc total (dot K u_front v_front) (dot K u_back v_back)
          ∙ ap (K.add total)
          (dot-parts K h 65536 c.loop-us.us.now c.loop-us.vs.now u_front v_front u_back v_back
          c.split_at.ensures.front c.split_at-in-loop-us.ensures.front c.split_at.ensures.back
          c.split_at-in-loop-us.ensures.back
          (c.split_at.ensures.front_len ∙ sym c.split_at-in-loop-us.ensures.front_len))
          ∙ c.loop-us.invariant.rest;
    }

pub returns-clause-value : goal.returns-clause-value
returns-clause-value c =
    let q : ℕ = order_of c.args.self.now in
    let K : Ops = ops_of c.args.self.now in
    c.add.ensures
    ∙ ap (K.add c.loop-us.total)
    (c.remainder-2.ensures.value ∙ ap (λ n. n % q) c.sum_of_products-2.ensures
    ∙ whole_dot-remainder q c.loop-us.us.now c.loop-us.vs.now)
    ∙ c.loop-us.invariant.rest
