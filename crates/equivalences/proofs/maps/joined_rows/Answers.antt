use Rattle.std.specs.List.{flat_map}
use Rattle.std.proofs.Common.{◌+◌, ℕ, All, ap, sym, ◌∙◌, subst, length}
use Rattle.std.proofs.lemmas.List.{length_push}
use Rattle.dense_blocks.specs.BlockFacts.{IsBlock}
use Rattle.cochain_vec.specs.declared.cell.Cell.{Cell}
use Rattle.cochain_vec.specs.Complexes.{coordinates, total_size}
use Rattle.block_complexes.specs.Cochains.{complex_of, of_degree}
use Rattle.block_sparse.specs.StoredBlocks.{complex_in}
use Rattle.equivalences.specs.Rows.{HasShape, cell_rows_of}
use Rattle.equivalences.proofs.StoredLaws.{blocks-pushed, cells-all, gathered-shapes}
use Rattle.equivalences.proofs.maps.joined_rows.Goals as goal

pub gather-requires-clause-cells : goal.gather-requires-clause-cells
gather-requires-clause-cells c = cells-all c.args.live.now c.args.rows.now.cells c.requires.cells

pub gather-requires-clause-shapes : goal.gather-requires-clause-shapes
gather-requires-clause-shapes c =
    subst (λ n. All (λ (t : Cell). HasShape t.size n (cell_rows_of c.args.rows.now t.cell))
    (of_degree c.loop-k.k c.args.live.now)) (sym c.coordinates_of-width.ensures.is)
    (gathered-shapes (complex_of (complex_in c.args.base.now)) c.args.live.now c.args.rows.now c.requires.live
    c.requires.shapes c.loop-k.k)

pub loop-k-preserved : goal.loop-k-preserved
loop-k-preserved c =
    let live = c.args.live.now in
    let C : ℕ → ℕ = coordinates (complex_of (complex_in c.args.base.now)) in
    let k : ℕ = c.loop-k.k in
    let is = subst (λ n. IsBlock c.in_ok-block.block (total_size (of_degree k live)) n
    (flat_map (λ (t : Cell). cell_rows_of c.args.rows.now t.cell) (of_degree k live)))
    c.coordinates_of-width.ensures.is c.in_ok-block.ensures in
    record {
      count = ap length c.in_ok-push.ensures.items ∙ length_push c.loop-k.joined.items c.in_ok-block.block
          ∙ ap (λ n. n + 1) c.loop-k.invariant.count;
      blocks = blocks-pushed (λ k. total_size (of_degree k live)) C
          (λ k. flat_map (λ (t : Cell). cell_rows_of c.args.rows.now t.cell) (of_degree k live))
          c.loop-k.joined.items c.push.new.self.items c.in_ok-block.block k c.loop-k.invariant.count
          c.in_ok-push.ensures.items c.loop-k.invariant.blocks is;
    }
