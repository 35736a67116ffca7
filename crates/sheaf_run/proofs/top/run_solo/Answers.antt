use Rattle.std.proofs.Common.{Option, subst}
use Rattle.sheaf_run.specs.declared.job.Job.{Job}
use Rattle.sheaf_run.specs.Runs.{Serves}
use Rattle.sheaf_run.specs.Views.{source_view, sink_view}
use Rattle.sheaf_run.proofs.PromiseLaws.{serves_job, serves_no_job}
use Rattle.sheaf_run.proofs.top.run_solo.Goals as goal

pub returns-in-None-clause-serves : goal.returns-in-None-clause-serves
returns-in-None-clause-serves g c =
    let source = source_view g.S.Source.left g.S.Source.fault_count c.args.source.now in
    let seen = sink_view g.K.Sink.taken g.K.Sink.flushed g.K.Sink.fault_count in
    subst (λ (job : Option Job). Serves job source source (seen c.args.sink.now) (seen c.refuse_words.new.sink)
    c.refuse_words.result)
    c.in-None.ensures
    (serves_no_job source (seen c.args.sink.now) (seen c.refuse_words.new.sink) c.refuse_words.result
    c.refuse_words.ensures.memory c.refuse_words.ensures.replies)

pub returns-in-Some-clause-serves : goal.returns-in-Some-clause-serves
returns-in-Some-clause-serves g c =
    let source = source_view g.S.Source.left g.S.Source.fault_count in
    let seen = sink_view g.K.Sink.taken g.K.Sink.flushed g.K.Sink.fault_count in
    subst (λ (job : Option Job). Serves job (source c.args.source.now) (source c.answer_source.new.source)
    (seen c.args.sink.now) (seen c.answer_source.new.sink) c.answer_source.result)
    c.in-Some.ensures
    (serves_job c.in-Some.job (source c.args.source.now) (source c.answer_source.new.source)
    (seen c.args.sink.now) (seen c.answer_source.new.sink) c.answer_source.result
    c.answer_source.ensures.accepted c.answer_source.ensures.run)
