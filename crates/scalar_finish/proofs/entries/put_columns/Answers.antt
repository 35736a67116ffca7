use Rattle.std.proofs.Common.{◌<◌, ◌≤◌, ℕ, List, ◌&&◌, length, take, get_or, ◌∙◌, subst, refl, eqb, arith}
use Rattle.std.specs.Option.{is_some}
use Rattle.rising_lists.specs.Rising.{has}
use Rattle.block_complexes.specs.BlockComplexes.{cells}
use Rattle.block_sparse.specs.StoredBlocks.{block_at}
use Rattle.scalar_finish.specs.Entries.{HavePut}
use Rattle.scalar_finish.proofs.PutLaws.{put-none, columns-next, columns-all}
use Rattle.scalar_finish.proofs.entries.put_columns.Goals as goal

pub put_column-requires-clause-cells : goal.put_column-requires-clause-cells
put_column-requires-clause-cells c = c.loop-cell.invariant.0 ∙ c.requires.cells

pub loop-cell-init : goal.loop-cell-init
loop-cell-init c = (
  refl,
  put-none c.args.b.now (λ s t. has s (take 0 (cells c.args.b.now.live)) && is_some (block_at c.args.b.now s t))
      c.args.w.now (λ s t. refl),
  λ h. h,
)

pub loop-cell-preserved : goal.loop-cell-preserved
loop-cell-preserved c =
    let v = c.args.b.now in
    let i : ℕ = c.loop-cell.cell-index in
    let same = c.live-live.ensures.live in
    let inside : i < length v.live = subst (λ ls. i < length ls) same (omega arith) in
    let h = c.loop-cell.invariant in
    let put = c.in_ok-put_column.ensures in (
      put.live ∙ h.0,
      columns-next v i c.args.w.now c.loop-cell.w c.put_column.new.w inside h.1
          (subst (λ (ls : List (ℕ × ℕ × ℕ)). HavePut v (λ s t. eqb (get_or ls i (0, 0, 0)).0 s && is_some (block_at v s t)) c.loop-cell.w
          c.put_column.new.w) same put.put),
      λ none. put.flags (h.2 none),
    )

pub returns-clause-live : goal.returns-clause-live
returns-clause-live c = c.loop-cell.invariant.0

pub returns-clause-put : goal.returns-clause-put
returns-clause-put c =
    let v = c.args.b.now in
    let i : ℕ = c.loop-cell.cell-index in
    let end : length v.live ≤ i = subst (λ ls. length ls ≤ i) c.live-live.ensures.live (omega arith) in
    columns-all v i c.args.w.now c.loop-cell.w end c.loop-cell.invariant.1

pub returns-clause-flags : goal.returns-clause-flags
returns-clause-flags c = c.loop-cell.invariant.2
