use Rattle.std.proofs.Common.{◌<◌, ◌≤◌, ◌+◌, ℕ, ap, ◌∙◌, sym, length, drop, drop-cons, add-one, arith, suc, ◌∷◌}
use Rattle.dense_blocks.specs.Blocks.{matrix_of}
use Rattle.block_sparse.specs.StoredBlocks.{block_at}
use Rattle.block_sparse.specs.Lists.{with_block, with_blocks}
use Rattle.block_sparse.proofs.RemovalLaws.{with_blocks-same, drop-done}
use Rattle.block_sparse.proofs.blocks.Blocks.with_all.Goals as goal

pub loop-member-preserved : goal.loop-member-preserved
loop-member-preserved c =
    let list = c.args.list.now in
    let i : ℕ = c.loop-member.member-index in
    let inside : i < length list = omega arith in
    let m = c.member-item.result in
    let before = block_at c.loop-member.changed in
    let after = with_block before m.0 m.1 (matrix_of m.2) in
    record {
      live = c.in_ok-place.ensures.live ∙ c.loop-member.invariant.live;
      blocks = λ p q.
          with_blocks-same (drop (i + 1) list) (block_at c.place.new.self) after c.in_ok-place.ensures.blocks p q
          ∙ ap (λ k. with_blocks after (drop k list) p q) (add-one i)
          ∙ ap (λ l. with_blocks before l p q)
          (sym (drop-cons list i m inside ∙ ap (λ x. x ∷ drop (suc i) list) (sym c.member-item.is)))
          ∙ c.loop-member.invariant.blocks p q;
    }

pub returns-clause-blocks : goal.returns-clause-blocks
returns-clause-blocks c = λ p q.
    let list = c.args.list.now in
    let end : length list ≤ c.loop-member.member-index = omega arith in
    ap (λ l. with_blocks (block_at c.loop-member.changed) l p q) (sym (drop-done c.loop-member.member-index list end))
    ∙ c.loop-member.invariant.blocks p q
