-- What a whole run did to its source and to its sink.
use Rattle.std.specs.Prelude.{◌≡◌, ◌⊎◌, ◌↔◌, ℕ, List, Option, None, Some, IfSome}
use Rattle.std.specs.Io.KnownBytes.{IsAtEnd}
use Rattle.io_edge.specs.Faults.{Rose}
use Rattle.io_edge.specs.Bytes.{Took, TookPrefix, IsFlushed}
use Rattle.field_table.specs.Table.{ops_of}
use Rattle.sheaf_data.specs.Sheaves.{IsSheaf}
use Rattle.sheaf_text.specs.Readings.{Good, input_value, reading}
use Rattle.sheaf_text.specs.declared.input.Input.{Input}
use Rattle.sheaf_run.specs.declared.job.Job.{Job}
use Rattle.sheaf_run.specs.declared.job.Job.TheVariants.{Solve, Check}
use Rattle.sheaf_run.specs.Answers.{Outcome, IsAnswer, IsTextOf, AnswersJob, IsDue, bad_words}
use Rattle.sheaf_run.specs.Views.{SourceView, SinkView}
use Rattle.sheaf_run.specs.declared.status.Status.{Status}
use Rattle.sheaf_run.specs.declared.status.Status.TheVariants.{Done, ReadFault, WriteFault, NoMemory, BadWords}

-- the status is the outcome's, and the sink took its text and flushed all
pub record IsSent (a : Outcome) (sink sink_new : SinkView) (result : Status) : Type 0 where
  pub status : result ≡ a.status
  pub text : Took sink.taken sink_new.taken a.text
  pub flushed : IsFlushed sink_new.taken sink_new.flushed

-- the source is read to its end or not at all, and what its bytes are answered is written
pub record IsRun (IsRight : List ℕ → Outcome → Type 0) (source source_new : SourceView) (sink sink_new : SinkView)
    (result : Status) : Type 0 where
  -- Where the source tells its bytes, the sink took an outcome that is right for them; all of it is flushed.
  pub answered : IsAnswer result
      → IfSome source.left (λ bytes. (a : Outcome) × IsRight bytes a × IsSent a sink sink_new result)
  pub flushed : IsAnswer result → IsFlushed sink_new.taken sink_new.flushed
  pub at_end : result ≡ Done → IsAtEnd source_new.left
  -- Faults come from the source or from the sink, which then took a prefix of what was to be written.
  pub read : result ≡ ReadFault → Rose source.faults source_new.faults
  pub unwritten : result ≡ ReadFault → sink_new.taken ≡ sink.taken
  pub write : result ≡ WriteFault → Rose sink.faults sink_new.faults
  pub prefix : result ≡ WriteFault
      → IfSome source.left (λ bytes. (a : Outcome) × IsRight bytes a × TookPrefix sink.taken sink_new.taken a.text)
  pub memory : result ≡ NoMemory → sink_new.taken ≡ sink.taken

-- the bytes are read as an input that is a sheaf: its incidences are regular, and its squares commute; nothing is left
-- in the source; and the sink took exactly the text of the job, and flushed it
pub record IsServed (job : Job) (bytes : List ℕ) (source_new : SourceView) (sink sink_new : SinkView) : Type 0 where
  pub input : Input
  pub good : reading bytes ≡ Good (input_value input)
  pub sheaf : IsSheaf (ops_of input.draft.field) input.draft.complex input.draft.stalks input.draft.blocks
  pub text : List ℕ
  pub right : IsTextOf job input.draft input.scripts text
  pub taken : Took sink.taken sink_new.taken text
  pub flushed : IsFlushed sink_new.taken sink_new.flushed
  pub at_end : IsAtEnd source_new.left

-- what a run with words that ask for this job, or are refused, promises of its source and sink, before and after
pub record Serves (job : Option Job) (source source_new : SourceView) (sink sink_new : SinkView) (result : Status) :
    Type 0 where
  pub run : IsRun (AnswersJob job) source source_new sink sink_new result
  -- With `solve` and Done the sink took the transcript of one legal order of all commands of the input.
  pub served : job ≡ Some Solve → result ≡ Done
      → IfSome source.left (λ bytes. IsServed Solve bytes source_new sink sink_new)
  -- With `check` and Done the sink took the line `good` with the four counts of the input.
  pub checked : job ≡ Some Check → result ≡ Done
      → IfSome source.left (λ bytes. IsServed Check bytes source_new sink sink_new)
  -- The words alone decide whether they are refused.
  pub refused : IsAnswer result → ((result ≡ BadWords) ↔ (job ≡ None))
  pub refusal : result ≡ BadWords → IsSent bad_words sink sink_new result
  -- With accepted words each status comes exactly where the bytes are due it.
  pub exact : IsAnswer result
      → IfSome job (λ j. IfSome source.left (λ bytes. (status : Status)
      → (result ≡ status) ↔ IsDue j (reading bytes) status))
  -- With no fault refused words are answered so, and bytes by the status that they are due, unless memory runs out.
  pub complete_words : job ≡ None → ¬ (Rose sink.faults sink_new.faults) → result ≡ BadWords
  pub complete : ¬ (Rose source.faults source_new.faults) → ¬ (Rose sink.faults sink_new.faults)
      → IfSome job (λ j. IfSome source.left (λ bytes. (status : Status) → IsDue j (reading bytes) status
      → (result ≡ status) ⊎ (result ≡ NoMemory)))
