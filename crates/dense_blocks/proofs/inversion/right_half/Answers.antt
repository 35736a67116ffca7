use Rattle.std.proofs.Common.{◌*◌, ℕ, map, drop, refl, sym, ◌∙◌, arith}
use Rattle.dense_blocks.specs.Matrices.{cut}
use Rattle.dense_blocks.proofs.Cutting.{first_rows-none, first_rows-size, cut-first_rows}
use Rattle.dense_blocks.proofs.InvertingSteps.{sized-half, half-next}
use Rattle.dense_blocks.proofs.inversion.right_half.Goals as goal

pub loop-i-init : goal.loop-i-init
loop-i-init c = c.in_ok-entries.ensures
    ∙ sym (first_rows-none (map (drop c.args.size) (cut c.args.size (2 * c.args.size) c.args.rows.now)))

pub loop-i-preserved : goal.loop-i-preserved
loop-i-preserved c =
    half-next c.args.size c.loop-i.i c.args.rows.now c.loop-i.entries c.push_all.new.self c.loop-i-test.true
    c.loop-i.invariant c.in_ok-push_all.ensures.ok

pub invariant_of-result-clause-full : goal.invariant_of-result-clause-full
invariant_of-result-clause-full c =
    let n : ℕ = c.args.size in
    first_rows-size n n c.loop-i.i (map (drop n) (cut n (2 * n) c.args.rows.now)) c.loop-i.entries
    (sized-half n c.args.rows.now c.requires.full) (omega arith) c.loop-i.invariant

pub returns : goal.returns
returns c =
    let n : ℕ = c.args.size in
    record {
      rows_are = refl;
      columns_are = refl;
      matrix_is = cut-first_rows n n c.loop-i.i (map (drop n) (cut n (2 * n) c.args.rows.now)) c.loop-i.entries
          (sized-half n c.args.rows.now c.requires.full) (omega arith) c.loop-i.invariant;
    }
