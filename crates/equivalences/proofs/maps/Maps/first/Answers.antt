use Rattle.std.proofs.Common.{◌≡◌, ◌+◌, ℕ, [], ap, ap₂, ◌∙◌, length, arith}
use Rattle.std.proofs.lemmas.List.{length_push}
use Rattle.dense_blocks.specs.MatrixFacts.{zero_matrix}
use Rattle.cochain_vec.specs.Complexes.{coordinates}
use Rattle.block_complexes.specs.Cochains.{complex_of}
use Rattle.block_sparse.specs.StoredBlocks.{complex_in}
use Rattle.equivalences.proofs.UnitLaws.{members-next}
use Rattle.equivalences.proofs.BlockLaws.{zeros-all}
use Rattle.equivalences.proofs.maps.Maps.first.Goals as goal

pub loop-k-preserved : goal.loop-k-preserved
loop-k-preserved c =
    let C : ℕ → ℕ = coordinates (complex_of (complex_in c.args.base.now)) in
    let k : ℕ = c.loop-k.k in
    record {
      count = ap length c.in_ok-push.ensures.items ∙ length_push c.loop-k.h.items c.in_ok-rows.rows
          ∙ ap (λ n. n + 1) c.loop-k.invariant.count;
      zeros = members-next (λ j. zero_matrix (C j) (C (j + 1))) [] c.loop-k.h.items c.push.new.self.items k
          c.in_ok-rows.rows c.loop-k.invariant.count c.in_ok-push.ensures.items
          (c.in_ok-rows.ensures ∙ ap₂ zero_matrix c.coordinates_of-count.ensures.is c.coordinates_of-width.ensures.is)
          c.loop-k.invariant.zeros;
    }

pub returns-clause-first : goal.returns-clause-first
returns-clause-first c =
    let k : ℕ = c.loop-k.k in
    let end : k ≡ 16 = omega (arith, c.loop-k-test.false, c.loop-k.auto.k-end) in
    record {
      live_is = c.in_ok-from_slice.ensures.items ∙ c.live-live.ensures.live;
      pi_is = c.in_ok-units.ensures.rows;
      iota_is = c.in_ok-units-2.ensures.rows;
      h_is = zeros-all (complex_in c.args.base.now) c.loop-k.h.items c.live-live.ensures.live_cells
          (c.loop-k.invariant.count ∙ end) (λ j l. c.loop-k.invariant.zeros j (omega (arith, l, end)));
    }
