use Rattle.std.proofs.Common.{◌≡◌, rules, subst}
use Rattle.std.specs.Prelude.{codes, decimal}
use Rattle.io_edge.specs.Bytes.{TookPrefix}
use Rattle.io_edge.proofs.Known.{took_prefix_then}
use Rattle.sheaf_run.proofs.Lines.{on_err}
use Rattle.sheaf_run.proofs.output.put_number.Goals as goal

pub returns-in_err-write_all-2-clause-err : goal.returns-in_err-write_all-2-clause-err
returns-in_err-write_all-2-clause-err g c =
    let taken = g.K.Sink.taken in
    let between = taken c.write_all.new.sink in
    let new = taken c.write_all-2.new.sink in
    let digits : c.as_bytes.result.now ≡ decimal c.args.number = search rules in
    on_err c.from_residual-in_err-write_all-2.result
    (took_prefix_then (taken c.args.sink.now) between new (codes " ") (decimal c.args.number)
    c.in_ok-write_all.ensures.ok
    (subst (TookPrefix between new) digits c.in_err-write_all-2.ensures.err))
