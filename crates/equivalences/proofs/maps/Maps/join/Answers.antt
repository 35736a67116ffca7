use Rattle.std.specs.List.{flat_map}
use Rattle.std.proofs.Common.{◌≡◌, ◌+◌, ℕ, [], suc, ap, sym, refl, subst, get_or, arith}
use Rattle.cochain_vec.specs.declared.cell.Cell.{Cell}
use Rattle.cochain_vec.specs.Complexes.{coordinates, total_size}
use Rattle.block_complexes.specs.Cochains.{complex_of, of_degree}
use Rattle.block_sparse.specs.StoredBlocks.{complex_in}
use Rattle.equivalence_laws.specs.Transposes.{transpose}
use Rattle.equivalences.specs.Rows.{cell_rows_of}
use Rattle.equivalences.specs.LogMaps.{AreBlocksOf}
use Rattle.equivalences.proofs.BlockLaws.{block-same}
use Rattle.equivalences.proofs.maps.Maps.join.Goals as goal

pub returns : goal.returns
returns c =
    let C : ℕ → ℕ = coordinates (complex_of (complex_in c.args.base.now)) in
    let live = c.args.self.live.items in
    record {
      pi = subst (AreBlocksOf (λ k. total_size (of_degree k live)) C
          (λ k. flat_map (λ (t : Cell). cell_rows_of c.args.self.pi t.cell) (of_degree k live)))
          (sym c.of.ensures)
          (subst (λ live. AreBlocksOf (λ k. total_size (of_degree k live)) C
          (λ k. flat_map (λ (t : Cell). cell_rows_of c.args.self.pi t.cell) (of_degree k live))
          c.in_ok-joined_pi.joined_pi.items) c.deref.ensures.value c.in_ok-joined_pi.ensures.blocks);
      iota = subst (AreBlocksOf C (λ k. total_size (of_degree k live))
          (λ k. transpose (C k) (flat_map (λ (t : Cell). cell_rows_of c.args.self.iota t.cell) (of_degree k live))))
          (sym c.of-2.ensures)
          (subst (λ live. AreBlocksOf C (λ k. total_size (of_degree k live))
          (λ k. transpose (C k) (flat_map (λ (t : Cell). cell_rows_of c.args.self.iota t.cell) (of_degree k live)))
          c.in_ok-joined_iota.joined_iota.items) c.deref-2.ensures.value c.in_ok-joined_iota.ensures.blocks);
      h = λ k b at.
          block-same b refl (ap C (let e : k + 1 ≡ suc k = omega arith in e)) refl
          (subst (AreBlocksOf C (λ k. C (k + 1)) (λ k. get_or c.args.self.h.items k [])) (sym c.of-3.ensures)
          (subst (λ h. AreBlocksOf C (λ k. C (k + 1)) (λ k. get_or h k []) c.in_ok-joined_h.joined_h.items)
          c.as_slice.ensures.value c.in_ok-joined_h.ensures.blocks) k b at);
    }
