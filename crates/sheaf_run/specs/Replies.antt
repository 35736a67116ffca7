-- What a call that answers did to its sink.
use Rattle.std.specs.Prelude.{◌≡◌, ◌≢◌, ◌≤◌, List}
use Rattle.io_edge.specs.Faults.{Rose}
use Rattle.io_edge.specs.Bytes.{TookPrefix}
use Rattle.field_table.specs.declared.field.Field.{Field}
use Rattle.sheaf_data.specs.Sheaves.{SheafData}
use Rattle.sheaf_words.specs.declared.query.Command.{Command}
use Rattle.sheaf_run.specs.Answers.{Outcome, IsAnswer, IsTextOf}
use Rattle.sheaf_run.specs.declared.job.Job.{Job}
use Rattle.sheaf_run.specs.Views.{SinkView}
use Rattle.sheaf_run.specs.Runs.{IsSent}
use Rattle.sheaf_run.specs.declared.status.Status.{Status}
use Rattle.sheaf_run.specs.declared.status.Status.TheVariants.{Done, ReadFault, WriteFault, NoMemory}

-- what a sheaf is answered: a text that is right for the job
abbrev pub IsRight : Job → SheafData Field → List (List Command) → Outcome → Type 0
IsRight job d scripts a = (a.status ≡ Done) × IsTextOf job d scripts a.text

-- the status is answered and written as one of the outcomes that are right, or a fault or want of memory came between
pub record Replies (IsRight : Outcome → Type 0) (sink sink_new : SinkView) (result : Status) : Type 0 where
  pub sent : IsAnswer result → (a : Outcome) × IsRight a × IsSent a sink sink_new result
  pub rose : result ≡ WriteFault → Rose sink.faults sink_new.faults
  pub prefix : result ≡ WriteFault → (a : Outcome) × IsRight a × TookPrefix sink.taken sink_new.taken a.text
  pub memory : result ≡ NoMemory → sink_new.taken ≡ sink.taken
  pub no_read : result ≢ ReadFault
  pub later : sink.faults ≤ sink_new.faults
