use Rattle.std.proofs.Common.{sym, ap, ◌∙◌, subst}
use Rattle.dense_blocks.specs.Blocks.{matrix_of}
use Rattle.rising_lists.specs.Rising.{has, keys}
use Rattle.block_complexes.specs.BlockComplexes.{IsBlockComplex}
use Rattle.block_sparse.specs.Grids.{AreSized}
use Rattle.removals.specs.Removals.{IsRemoval}
use Rattle.block_sparse.specs.Flags.{KeepsFlags}
use Rattle.reduce_step.proofs.AppliedLaws.{listed-degrees}
use Rattle.reduce_step.specs.Differences.{Fits}
use Rattle.reduce_step.proofs.ApplyLaws.{record-removed}
use Rattle.reduce_step.proofs.FitLaws.{fit-footprint, fit-square, fit-stands}
use Rattle.reduce_step.proofs.LogLaws.{step-from}
use Rattle.reduce_step.specs.declared.record.Step.{Step}
use Rattle.reduce_step.specs.Steps.{IsStepOf}
use Rattle.reduce_step.specs.Logs.{IsStepFrom}
use Rattle.reduce_step.proofs.record.Record.remove.Goals as goal
use Rattle.block_sparse.specs.StoredBlocks.{complex_in}

pub set_grid-requires-clause-left_sized : goal.set_grid-requires-clause-left_sized
set_grid-requires-clause-left_sized g c =
    let v = c.args.b.now in
    let r = c.self.inside in
    let fits = subst (λ r. Fits v r.foot) (sym c.self.view_is) c.requires.fits in
    subst (AreSized v.live) (sym c.as_slice.ensures) (fit-footprint (g.F.Scalars.ops r.f) v r.foot fits).left_sized

pub set_grid-requires-clause-below_sized : goal.set_grid-requires-clause-below_sized
set_grid-requires-clause-below_sized g c =
    let v = c.args.b.now in
    let r = c.self.inside in
    let fits = subst (λ r. Fits v r.foot) (sym c.self.view_is) c.requires.fits in
    subst (AreSized v.live) (sym c.as_slice-2.ensures) (fit-footprint (g.F.Scalars.ops r.f) v r.foot fits).below_sized

pub set_grid-requires-clause-degrees : goal.set_grid-requires-clause-degrees
set_grid-requires-clause-degrees g c = λ s t hs ht.
    let v = c.args.b.now in
    let r = c.self.inside in
    let K = g.F.Scalars.ops r.f in
    let fits = subst (λ r. Fits v r.foot) (sym c.self.view_is) c.requires.fits in
    let sound = c.live-live.ensures.sound in
    let stands = fit-stands K v r.foot fits (g.met.F.Scalars.is_field r.f) (matrix_of r.inverse) sound.live_cells
    c.self.invariant.inverse_is.inverse in
    let is = fit-footprint K v r.foot fits in
    listed-degrees v sound r.foot.x r.foot.y r.foot.left r.foot.below
    (record { stands = stands; on_left = is.left; is_below = is.below }) s t
    (ap (λ ls. has s (keys ls)) (sym c.as_slice.ensures) ∙ hs) (ap (λ ls. has t (keys ls)) (sym c.as_slice-2.ensures)
    ∙ ht)

pub returns-clause-removed : goal.returns-clause-removed
returns-clause-removed g c =
    let v = c.args.b.now in
    let r = c.self.inside in
    let K = g.F.Scalars.ops r.f in
    let F = g.met.F.Scalars.is_field r.f in
    let w = c.remove_cell-2.new.self in
    let fits = subst (λ r. Fits v r.foot) (sym c.self.view_is) c.requires.fits in
    let over = subst (λ r. IsBlockComplex (g.F.Scalars.ops r.f) (complex_in v)) (sym c.self.view_is) c.requires.over in
    let sound = c.live-live.ensures.sound in
    let stands = fit-stands K v r.foot fits F (matrix_of r.inverse) sound.live_cells c.self.invariant.inverse_is.inverse
    in
    subst (λ r. IsRemoval (g.F.Scalars.ops r.f) (complex_in v) r.foot.x r.foot.y (matrix_of r.inverse) (complex_in w)
    × KeepsFlags v r.foot.x r.foot.y w) c.self.view_is
    (record-removed K F v sound over r.foot stands (fit-footprint K v r.foot fits)
    r.inverse r.new_corners c.self.invariant c.as_slice.result.now c.as_slice-2.result.now c.as_slice.ensures
    c.as_slice-2.ensures
    c.set_grid.new.self c.remove_cell.new.self w
    (record {
      grid_live = c.in_ok-set_grid.ensures.live;
      grid_blocks = c.in_ok-set_grid.ensures.blocks;
      first_live = c.remove_cell.ensures.live;
      first_blocks = c.remove_cell.ensures.blocks;
      second_live = c.remove_cell-2.ensures.live;
      second_blocks = c.remove_cell-2.ensures.blocks;
    }))

pub returns-clause-step_from : goal.returns-clause-step_from
returns-clause-step_from g c =
    let v = c.args.b.now in
    let r = c.self.inside in
    let K = g.F.Scalars.ops r.f in
    let fits = subst (λ r. Fits v r.foot) (sym c.self.view_is) c.requires.fits in
    let sound = c.live-live.ensures.sound in
    let inverse_is = c.self.invariant.inverse_is in
    subst (λ r. (step : Step) → IsStepOf r step → IsStepFrom (g.F.Scalars.ops r.f) (complex_in v) step) c.self.view_is
    (step-from K v sound (record { f = r.f; foot = r.foot; inverse = r.inverse; new_corners = r.new_corners })
    inverse_is (fit-footprint K v r.foot fits)
    (fit-stands K v r.foot fits (g.met.F.Scalars.is_field r.f) (matrix_of r.inverse) sound.live_cells
    inverse_is.inverse)
    (fit-square K v r.foot fits))
