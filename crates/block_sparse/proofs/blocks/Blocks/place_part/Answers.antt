use Rattle.std.proofs.Common.{◌≡◌, ℕ, ap, ◌∙◌, sym, subst, List, ◌∷◌, [], arith}
use Rattle.dense_blocks.specs.Blocks.{matrix_of}
use Rattle.dense_blocks.proofs.Cutting.{Sized}
use Rattle.block_sparse.specs.StoredBlocks.{block_at}
use Rattle.block_sparse.specs.Grids.{part, as_block}
use Rattle.block_sparse.proofs.GridLaws.{at_pair, part-whole}
use Rattle.block_sparse.proofs.Windows.{sized-cut}
use Rattle.block_sparse.proofs.blocks.Blocks.place_part.Goals as goal

pub returns-clause-blocks : goal.returns-clause-blocks
returns-clause-blocks c = λ p q.
    let b = c.args.b.now in
    let s : ℕ = c.args.s in
    let t : ℕ = c.args.t in
    let m : ℕ = c.cell_and_size-from.result.1 in
    let n : ℕ = c.cell_and_size-to.result.1 in
    let A = matrix_of b in
    let left : List (ℕ × ℕ) = (s, m) ∷ [] in
    let below : List (ℕ × ℕ) = (t, n) ∷ [] in
    let rows : b.rows ≡ n = c.requires.rows ∙ sym (ap (λ (p : ℕ × ℕ). p.1) c.cell_and_size-to.ensures) in
    let cols : b.cols ≡ m = c.requires.cols ∙ sym (ap (λ (p : ℕ × ℕ). p.1) c.cell_and_size-from.ensures) in
    let whole : Sized b.rows b.cols A = sized-cut b.rows b.cols b.entries (omega (arith, b.full)) in
    let sized : Sized n m A = subst (λ k. Sized n k A) cols (subst (λ k. Sized k b.cols A) rows whole) in
    c.in_ok-set_grid.ensures.blocks p q
    ∙ at_pair s t p q (as_block (part left below A p q)) (as_block A) (block_at c.args.self.now p q)
    (λ e f. ap (λ x. as_block (part left below A x q)) e ∙ ap (λ y. as_block (part left below A s y)) f
    ∙ ap as_block (part-whole s t m n A sized))
