use Rattle.std.proofs.Common.{ℕ, suc, ◌+◌, ◌<◌, ◌-◌, ◌*◌, List, length, ap, ◌∙◌, arith, sym, get_or, ◌≡◌}
use Rattle.std.proofs.lemmas.List.{length-map}
use Rattle.std.proofs.Math.Nat.{suc-mul}
use Rattle.dense_blocks.specs.Field.{Ops}
use Rattle.dense_blocks.specs.Vectors.{multiple}
use Rattle.dense_blocks.proofs.RowSteps.{length-plus}
use Rattle.field_table.specs.Modular.{modulo}
use Rattle.field_table.specs.ModularFacts.{plus_rows}
use Rattle.field_table.proofs.RowSums.{plus_rows-next, plus_rows-all}
use Rattle.field_table.proofs.kernels.add_each.Goals as goal

-- a row of n entries less
one_less : (m i n left all : ℕ) → i < m → left + n ≡ all → all ≡ (m - i) * n → left ≡ (m - (i + 1)) * n
one_less m i n left all l less size =
    let more : m - i ≡ suc (m - (i + 1)) = omega arith in
    let parts : (m - i) * n ≡ (m - (i + 1)) * n + n = ap (λ k. k * n) more ∙ suc-mul (m - (i + 1)) n in
    omega arith

pub loop-k-preserved : goal.loop-k-preserved
loop-k-preserved g c =
    let K : Ops = modulo g.row.Q in
    let n : ℕ = length c.args.target.now in
    let cs : List ℕ = c.args.coefficients.now in
    let i : ℕ = c.loop-k.k-index in
    let row : List ℕ = c.split_at.result.0.now in
    let wide : length row ≡ length c.loop-k.target = c.split_at.ensures.front_len ∙ sym c.loop-k.invariant.width in
    record {
      sum = plus_rows-next K n i (plus_rows K n c.args.target.now cs c.args.rows.now) cs c.loop-k.target
          c.loop-k.rest.now row c.split_at.result.1.now c.add_scaled.new.target c.loop-k-test.true
          c.split_at.ensures.front c.split_at.ensures.back c.add_scaled.ensures.sum c.loop-k.invariant.sum;
      width = ap length c.add_scaled.ensures.sum
          ∙ length-plus K c.loop-k.target (multiple K (get_or cs i 0) row)
          (length-map row (K.mul (get_or cs i 0)) ∙ wide)
          ∙ c.loop-k.invariant.width;
      left = one_less (length cs) i n (length c.split_at.result.1.now) (length c.loop-k.rest.now) c.loop-k-test.true
          c.split_at.ensures.back_len c.loop-k.invariant.left;
      scalars = c.add_scaled.ensures.scalars;
    }

pub returns-clause-sum : goal.returns-clause-sum
returns-clause-sum g c =
    let K : Ops = modulo g.row.Q in
    let n : ℕ = length c.args.target.now in
    plus_rows-all K n c.loop-k.k-index (plus_rows K n c.args.target.now c.args.coefficients.now c.args.rows.now)
    c.args.coefficients.now c.loop-k.target c.loop-k.rest.now (omega arith) c.loop-k.invariant.sum
