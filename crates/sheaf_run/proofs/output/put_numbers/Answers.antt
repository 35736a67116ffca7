use Rattle.sheaf_run.proofs.Lines.{front_of_numbers}
use Rattle.sheaf_run.proofs.output.put_numbers.Goals as goal

pub returns-in-Err-clause-err : goal.returns-in-Err-clause-err
returns-in-Err-clause-err g c =
    let taken = g.K.Sink.taken in
    front_of_numbers (taken c.args.sink.now) (taken c.loop-number.sink) (taken c.put_number.new.sink) c.args.numbers.now
    c.loop-number.number-index c.loop-number-test.true
    c.loop-number.invariant.took c.in-Err.ensures.err
