-- The row's blocks one by one, and all of them.
use Rattle.std.proofs.Common.{◌≡◌, ◌∙◌, ◌≤◌, ◌<◌, ℕ, List, ap, sym, subst, length, get_or, arith}
use Rattle.std.proofs.lemmas.List.{take_all}
use Rattle.dense_blocks.specs.Vectors.{IsVector, plus, zeros}
use Rattle.dense_blocks.specs.Matrices.{image_of}
use Rattle.dense_blocks.proofs.Shapes.{from_vector}
use Rattle.dense_blocks.proofs.VectorLaws.{zeros-vector}
use Rattle.cochain_vec.specs.Complexes.{value_at}
use Rattle.cochain_vec.proofs.PathLaws.{sum_over}
use Rattle.block_complexes.specs.BlockComplexes.{size_of}
use Rattle.block_sparse.specs.StoredBlocks.{matrix}
use Rattle.block_complexes.specs.Cochains.{of_degree}
use Rattle.block_complexes.proofs.SumLaws.{sum_over-next}
use Rattle.block_sparse.proofs.ScalarBlocks.{sum_into-row}
use Rattle.block_sparse.proofs.blocks.Blocks.part_at.Goals as goal

pub loop-s-init : goal.loop-s-init
loop-s-init g c =
    let K = g.F.Scalars.ops c.args.f.now in
    let n = size_of c.args.self.now.live c.args.t in
    let none : c.in_ok-sum.sum.items ≡ zeros n = c.in_ok-sum.ensures.items
    ∙ ap zeros (ap (λ (p : ℕ × ℕ). p.1) c.cell_and_size-size.ensures) in
    record {
      sum = none;
      vector =
          subst (IsVector K n) (sym none)
          (from_vector K n (zeros n) (zeros-vector K (g.met.F.Scalars.is_field c.args.f.now) n));
    }

pub loop-s-preserved : goal.loop-s-preserved
loop-s-preserved g c =
    let K = g.F.Scalars.ops c.args.f.now in
    let v = c.args.self.now in
    let t = c.args.t in
    let n = size_of v.live t in
    let row = c.row-s-items.result.now in
    let i : ℕ = c.loop-s.s-index in
    let inside : i < length row = omega arith in
    let image : ℕ → List ℕ = λ s.
    image_of K (matrix v s t) (value_at (of_degree c.args.starts.now.degree v.live) c.args.z.now s) in
    record {
      sum = c.in_ok-add_image.ensures.sum ∙ ap (λ u. plus K u (image (get_or row i 0))) c.loop-s.invariant.sum
          ∙ sym (sum_over-next K (g.met.F.Scalars.is_field c.args.f.now) n image row i 0 inside);
      vector = c.in_ok-add_image.ensures.vector;
    }

pub returns : goal.returns
returns g c =
    let K = g.F.Scalars.ops c.args.f.now in
    let v = c.args.self.now in
    let t = c.args.t in
    let row = c.row-s-items.result.now in
    let end : length row ≤ c.loop-s.s-index = omega arith in
    let value : ℕ → List ℕ = value_at (of_degree c.args.starts.now.degree v.live) c.args.z.now in
    let sound = c.live-live.ensures.sound in
    c.loop-s.invariant.sum
    ∙ ap (sum_over K (size_of v.live t) (λ s. image_of K (matrix v s t) (value s))) (take_all c.loop-s.s-index row end)
    ∙ sym (sum_into-row K (g.met.F.Scalars.is_field c.args.f.now) v sound value t row c.requires.live
    c.row-s-items.ensures.rising c.row-s-items.ensures.cells)
