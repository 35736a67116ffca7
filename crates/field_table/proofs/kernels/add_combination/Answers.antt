use Rattle.std.proofs.Common.{◌≡◌, ℕ, ◌+◌, ◌*◌, ◌<◌, ◌≤◌, List, length, take, drop, sym, ap, ap₂, ◌∙◌, subst, arith}
use Rattle.std.proofs.lemmas.Nat.{mul-le}
use Rattle.std.proofs.lemmas.List.Elements.{All-drop}
use Rattle.std.proofs.Math.Nat.{add-mul}
use Rattle.dense_blocks.specs.Field.{Ops}
use Rattle.dense_blocks.specs.Vectors.{AllScalars}
use Rattle.field_table.specs.Modular.{modulo}
use Rattle.field_table.specs.ModularFacts.{plus_rows}
use Rattle.field_table.proofs.RowSums.{plus_rows-split, plus_rows-size}
use Rattle.field_table.proofs.kernels.add_combination.Goals as goal

-- four rows of n entries less
four_less : (m k n left all : ℕ) → m + 4 ≡ k → left + 4 * n ≡ all → all ≡ k * n → left ≡ m * n
four_less m k n left all e less size =
    let more : (m + 4) * n ≡ k * n = ap (λ t. t * n) e in
    let parts : (m + 4) * n ≡ m * n + 4 * n = add-mul m 4 n in
    omega arith

pub overflow_mul-target : goal.overflow_mul-target
overflow_mul-target g c =
    let ks : ℕ = length c.loop-ks.ks.now in
    let n : ℕ = length c.loop-ks.target in
    let some : 4 * n ≤ ks * n = mul-le 4 n ks n c.loop-ks-test.true (omega arith) in
    let all : length c.loop-ks.rest.now ≡ ks * n = c.loop-ks.invariant.full
    ∙ ap (λ k. ks * k) (sym c.loop-ks.invariant.width) in
    omega (arith, c.loop-ks.invariant.short)

pub loop-ks-preserved : goal.loop-ks-preserved
loop-ks-preserved g c =
    let K : Ops = modulo g.row.Q in
    let n : ℕ = length c.args.target.now in
    let cs : List ℕ = c.args.coefficients.now in
    let ks : List ℕ = c.loop-ks.ks.now in
    let rest : List ℕ = c.loop-ks.rest.now in
    let width : length c.loop-ks.target ≡ n = c.loop-ks.invariant.width in
    let start : 4 * length c.loop-ks.target ≡ 4 * n = ap (λ k. 4 * k) width in
    let four : List ℕ = c.split_at.result.0.now in
    let four_rows : List ℕ = c.split_at-in-loop-ks.result.0.now in
    let now : c.add_four.new.target ≡ plus_rows K n c.loop-ks.target (take 4 ks) (take (4 * n) rest) =
    c.add_four.ensures.sum
    ∙ ap₂ (λ k t. plus_rows K k c.loop-ks.target t four_rows) width c.split_at.ensures.front
    ∙ ap (plus_rows K n c.loop-ks.target (take 4 ks))
    (c.split_at-in-loop-ks.ensures.front ∙ ap (λ k. take k rest) start)
    in
    record {
      sum = ap₂ (λ t k. plus_rows K n t k c.split_at-in-loop-ks.result.1.now) now c.split_at.ensures.back
          ∙ ap (plus_rows K n (plus_rows K n c.loop-ks.target (take 4 ks) (take (4 * n) rest)) (drop 4 ks))
          (c.split_at-in-loop-ks.ensures.back ∙ ap (λ k. drop k rest) start)
          ∙ plus_rows-split K n 4 c.loop-ks.target ks rest
          ∙ c.loop-ks.invariant.sum;
      width = ap length now ∙ plus_rows-size g.row.Q n c.loop-ks.target (take 4 ks) (take (4 * n) rest) width
          (sym (ap length (c.split_at-in-loop-ks.ensures.front ∙ ap (λ k. take k rest) start))
          ∙ c.split_at-in-loop-ks.ensures.front_len ∙ start
          ∙ ap (λ k. k * n) (sym c.split_at.ensures.front_len ∙ ap length c.split_at.ensures.front));
      full = four_less (length c.split_at.result.1.now) (length ks) n (length c.split_at-in-loop-ks.result.1.now)
          (length rest) c.split_at.ensures.back_len
          (ap (λ k. length c.split_at-in-loop-ks.result.1.now + k) (sym start)
          ∙ c.split_at-in-loop-ks.ensures.back_len) c.loop-ks.invariant.full;
      short = omega (arith, c.split_at-in-loop-ks.ensures.back_len, c.loop-ks.invariant.short);
      target_scalars = c.add_four.ensures.scalars;
      coefficient_scalars = subst (AllScalars K) (sym c.split_at.ensures.back)
          (All-drop (λ a. a < K.order) 4 ks c.loop-ks.invariant.coefficient_scalars);
      row_scalars = subst (AllScalars K) (sym c.split_at-in-loop-ks.ensures.back)
          (All-drop (λ a. a < K.order) (4 * length c.loop-ks.target) rest c.loop-ks.invariant.row_scalars);
    }
