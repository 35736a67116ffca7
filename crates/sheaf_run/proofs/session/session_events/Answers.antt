use Rattle.std.proofs.Common.{◌+◌, length, slice_get, Some, refl, sym, ap, subst, ◌∙◌, arith, rules}
use Rattle.std.proofs.lemmas.List.Sums.{sum_by_more, sum_by_more_le}
use Rattle.std.proofs.lemmas.Option.{slice_get_read}
use Rattle.field_table.specs.Table.{ops_of}
use Rattle.core_machine.specs.Machine.{IsLegalAndWhole}
use Rattle.core_machine.specs.Solo.{IsSoloOrder}
use Rattle.core_machine.proofs.SoloLaws.{solo_orders_are_legal}
use Rattle.sheaf_run.specs.Sessions.{IsProgress}
use Rattle.sheaf_run.proofs.ServingLaws.{first-progress, last-progress}
use Rattle.sheaf_run.proofs.session.session_events.Goals as goal

pub loop-script-init : goal.loop-script-init
loop-script-init c = (
  refl,
  subst (IsProgress c.args.scripts.now c.args.sheaf 0 0) (sym c.new-session.ensures)
      (first-progress c.args.scripts.now c.args.sheaf),
  ap (λ s. s.sheaf.complex) c.new-session.ensures,
  omega (arith, ap (λ s. s.version) c.new-session.ensures),
)

pub serve_all-requires-clause-room : goal.serve_all-requires-clause-room
serve_all-requires-clause-room c =
    let scripts = c.args.scripts.now in
    let i = c.loop-script.script-index in
    let script = c.script-item.result in
    omega (
      arith,
      c.loop-script.invariant.3,
      c.requires.commands,
      ap length c.as_slice.ensures,
      ap length c.script-item.is,
      sum_by_more_le length scripts i script c.loop-script-test.true,
    )

pub loop-script-preserved : goal.loop-script-preserved
loop-script-preserved c =
    let scripts = c.args.scripts.now in
    let i = c.loop-script.script-index in
    let script = c.script-item.result in
    let here = c.loop-script.invariant in
    let there = slice_get_read scripts (length scripts) i script refl c.loop-script-test.true c.script-item.is in (
      ap (λ n. n + 1) here.0,
      subst (λ k. IsProgress scripts c.args.sheaf (k + 1) 0 c.serve_all.new.self) here.0
          (c.in_ok-serve_all.ensures.progress scripts c.args.sheaf (ap (slice_get scripts) here.0 ∙ there
          ∙ ap Some (sym c.as_slice.ensures))
          (subst (λ k. IsProgress scripts c.args.sheaf k 0 c.loop-script.session) (sym here.0) here.1)),
      c.in_ok-serve_all.ensures.complex ∙ here.2,
      omega (
        arith,
        here.3,
        c.in_ok-serve_all.ensures.version,
        ap length c.as_slice.ensures,
        ap length c.script-item.is,
        sum_by_more length scripts i script c.loop-script-test.true,
      ),
    )

pub returns-clause-legal : goal.returns-clause-legal
returns-clause-legal c =
    let scripts = c.args.scripts.now in
    let K = ops_of c.args.sheaf.field in
    subst (IsLegalAndWhole K scripts c.args.sheaf) (sym c.into_events.ensures)
    (solo_orders_are_legal K scripts c.args.sheaf c.loop-script.session.events
    (last-progress scripts c.args.sheaf c.loop-script.session
    (subst (λ k. IsProgress scripts c.args.sheaf k 0 c.loop-script.session) (search rules) c.loop-script.invariant.1)))

pub returns-clause-solo : goal.returns-clause-solo
returns-clause-solo c =
    let scripts = c.args.scripts.now in
    subst (IsSoloOrder (ops_of c.args.sheaf.field) scripts c.args.sheaf) (sym c.into_events.ensures)
    (last-progress scripts c.args.sheaf c.loop-script.session
    (subst (λ k. IsProgress scripts c.args.sheaf k 0 c.loop-script.session) (search rules) c.loop-script.invariant.1))
