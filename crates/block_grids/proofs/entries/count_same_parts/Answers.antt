use Rattle.std.proofs.Common.{◌≡◌, ◌<◌, ℕ, true, ap, ◌∙◌, sym, subst, length, get_or, arith, inl, inr, rules}
use Rattle.std.proofs.lemmas.Bool.{cases_lt}
use Rattle.dense_blocks.specs.Blocks.{matrix_of}
use Rattle.std.specs.Option.{option_map}
use Rattle.block_rows.specs.BlockRows.{scalar_block}
use Rattle.block_sparse.specs.Grids.{window}
use Rattle.block_grids.specs.Joined.{grid_block, IsSameScalar}
use Rattle.block_sparse.proofs.Windows.{width-next, width-within}
use Rattle.block_grids.proofs.WalkLaws.{next-beyond}
use Rattle.block_grids.proofs.entries.count_same_parts.Goals as goal

pub is_scalar-requires-clause-cols : goal.is_scalar-requires-clause-cols
is_scalar-requires-clause-cols c =
    let inside : c.loop-i.i < length c.args.left.now = omega (arith, c.requires.within) in
    omega (arith, c.loop-i.invariant.col, width-within c.args.left.now c.loop-i.i inside, c.requires.cols)

pub overflow_add-col : goal.overflow_add-col
overflow_add-col c =
    let inside : c.loop-i.i < length c.args.left.now = omega (arith, c.requires.within) in
    omega (
      arith,
      c.loop-i.invariant.col,
      width-within c.args.left.now c.loop-i.i inside,
      c.requires.cols,
      c.args.joined.now.cols_fit,
    )

pub loop-i-preserved : goal.loop-i-preserved
loop-i-preserved c =
    let line = c.args.line.now in
    let left = c.args.left.now in
    let A = matrix_of c.args.joined.now in
    let i : ℕ = c.loop-i.i in
    let inside : i < length left = omega (arith, c.requires.within) in
    let x = get_or left i (0, 0) in
    let passed : c.is_scalar.result ≡ true = search rules in
    record {
      col = omega (arith, c.loop-i.invariant.col, width-next left i inside);
      within = c.entry_from-entry.ensures.within;
      passed = next-beyond left line.cells c.entry_from-entry.result.1 i c.requires.rising
          c.entry_from-entry.ensures.passed;
      same = λ k l. elim (cases_lt k i) [
        | inl u ↦ c.loop-i.invariant.same k u
        | inr u ↦
            let e : i ≡ k = omega arith in
            subst (IsSameScalar line left A c.args.row c.args.height) e
            (ap (λ n. window c.args.row c.args.height n x.1 A) (sym c.loop-i.invariant.col)
            ∙ c.is_scalar.ensures.0 passed
            ∙ ap (λ o. grid_block (option_map scalar_block o) c.args.height x.1) c.entry_from-entry.ensures.entry)
      ];
    }
