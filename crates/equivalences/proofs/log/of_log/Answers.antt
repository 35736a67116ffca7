use Rattle.std.proofs.Common.{◌≤◌, ap, ◌∙◌, length}
use Rattle.std.proofs.lemmas.List.{take_all}
use Rattle.dense_blocks.specs.Field.{Ops}
use Rattle.dense_blocks.specs.FieldLaws.{IsField}
use Rattle.block_sparse.specs.StoredBlocks.{complex_in}
use Rattle.reduce_step.specs.Logs.{pairs_of}
use Rattle.equivalences.specs.Stored.{maps_of}
use Rattle.equivalences.proofs.LogLaws.{at-start, at-next}
use Rattle.equivalences.proofs.EndLaws.{joined_composite, joined_after}
use Rattle.equivalences.proofs.StoredLaws.{maps-shapes}
use Rattle.equivalences.proofs.log.of_log.Goals as goal

pub loop-step-init : goal.loop-step-init
loop-step-init g c = record {
  stored = c.in_ok-maps.ensures.stored;
  maps = at-start (g.F.Scalars.ops c.args.f.now) (g.met.F.Scalars.is_field c.args.f.now) (complex_in c.args.base.now)
      c.args.log.now c.requires.steps.0 (maps_of c.in_ok-maps.maps) c.requires.complex c.in_ok-maps.ensures.first
      c.requires.steps.1;
}

pub loop-step-preserved : goal.loop-step-preserved
loop-step-preserved g c =
    let K : Ops = g.F.Scalars.ops c.args.f.now in
    record {
      stored = c.in_ok-add.ensures.stored;
      maps = at-next K (complex_in c.args.base.now) c.args.log.now c.loop-step.step-index c.step-item.result
          (maps_of c.loop-step.maps) c.requires.complex c.requires.closed c.loop-step-test.true c.step-item.is
          c.loop-step.invariant.maps (maps_of c.add.new.self) c.in_ok-add.ensures.step;
    }

pub join-requires-clause-shapes : goal.join-requires-clause-shapes
join-requires-clause-shapes g c =
    let at = c.loop-step.invariant.maps in
    maps-shapes (g.F.Scalars.ops c.args.f.now) (complex_in c.args.base.now) at.0 (maps_of c.loop-step.maps) at.4

pub returns-clause-composite : goal.returns-clause-composite
returns-clause-composite g c =
    let K : Ops = g.F.Scalars.ops c.args.f.now in
    let F : IsField K = g.met.F.Scalars.is_field c.args.f.now in
    let at = c.loop-step.invariant.maps in
    let log = c.args.log.now in
    let end : length log ≤ c.loop-step.step-index = c.loop-step-test.false in (
      at.0,
      at.3 ∙ ap pairs_of (take_all c.loop-step.step-index log end),
      at.2,
      joined_composite K F (complex_in c.args.base.now) at.0 c.requires.complex c.requires.closed at.2
          (maps_of c.loop-step.maps) at.4 c.live-live.ensures.live_cells c.loop-step.invariant.stored.live_cells
          c.in_ok-equivalence.equivalence c.in_ok-equivalence.ensures,
    )

pub returns-clause-equivalence : goal.returns-clause-equivalence
returns-clause-equivalence g c = λ w steps.
    let K : Ops = g.F.Scalars.ops c.args.f.now in
    let F : IsField K = g.met.F.Scalars.is_field c.args.f.now in
    let at = c.loop-step.invariant.maps in
    let log = c.args.log.now in
    let end : length log ≤ c.loop-step.step-index = c.loop-step-test.false in
    joined_after K F (complex_in c.args.base.now) at.0 c.requires.complex c.requires.closed at.2
    (maps_of c.loop-step.maps) at.4 c.live-live.ensures.live_cells c.loop-step.invariant.stored.live_cells
    c.in_ok-equivalence.equivalence c.in_ok-equivalence.ensures log w
    (at.3 ∙ ap pairs_of (take_all c.loop-step.step-index log end)) steps
