-- What a run did, from what it read and what it replied.
use Rattle.std.proofs.Common.{◌≡◌, ℕ, ◌<◌, List, length, Option, Some, None, inl, refl, sym, subst, ap₂, ◌∙◌}
use Rattle.std.specs.Prelude.{◌≢◌, IfSome}
use Rattle.std.specs.Io.KnownBytes.{IsAtEnd}
use Rattle.io_edge.specs.Bytes.{TookPrefix}
use Rattle.io_edge.specs.Input.{Gave}
use Rattle.io_edge.proofs.Known.{gave_whole}
use Rattle.field_table.specs.declared.field.Field.{Field}
use Rattle.field_table.specs.Table.{ops_of}
use Rattle.sheaf_data.specs.declared.fault.SealFault.{SealFault}
use Rattle.sheaf_data.specs.Sheaves.{SheafData}
use Rattle.sheaf_data.specs.Refusals.{IsFault}
use Rattle.sheaf_text.specs.Readings.{Reading, input_value, reading}
use Rattle.sheaf_text.specs.Readings as readings
use Rattle.sheaf_text.specs.declared.input.Input.{Input}
use Rattle.sheaf_text.specs.declared.fault.LineCause.{LineCause}
use Rattle.sheaf_text.specs.declared.fault.Which.{Which}
use Rattle.sheaf_text.specs.declared.fault.Which.TheVariants as limits
use Rattle.sheaf_text.proofs.Kept.{reading-long}
use Rattle.sheaf_words.specs.declared.query.Command.{Command}
use Rattle.sheaf_text.specs.declared.fault.Refusal.TheVariants.{Bad, Over}
use Rattle.sheaf_run.specs.declared.job.Job.{Job}
use Rattle.sheaf_run.specs.Answers.{Outcome, IsAnswer, AnswersDraft, AnswersReading, AnswersJob}
use Rattle.sheaf_run.specs.Answers.{bad_draft, bad_line}
use Rattle.sheaf_run.specs.Replies.{IsRight, Replies}
use Rattle.sheaf_run.specs.Runs.{IsSent, IsRun}
use Rattle.sheaf_run.specs.Views.{SourceView, SinkView}
use Rattle.sheaf_run.specs.declared.status.Status.{Status}
use Rattle.sheaf_run.specs.declared.status.Status.TheVariants.{Done}

-- a fact of the bytes that were read is one of the bytes that are told
told : (P : List ℕ → Type 0) (left : Option (List ℕ)) (bytes : List ℕ) → IfSome left (λ b. b ≡ bytes) → P bytes
    → IfSome left P
told P None bytes e h = tt
told P (Some b) bytes e h = subst P (sym e) h

-- all bytes were read, and what is replied is right for them
pub run_from_replies : (IsRight : List ℕ → Outcome → Type 0) (bytes : List ℕ) (source source_new : SourceView)
    {sink sink_new : SinkView} {result : Status}
    → Gave source.left source_new.left bytes → IsAtEnd source_new.left → Replies (IsRight bytes) sink sink_new result
    → IsRun IsRight source source_new sink sink_new result
run_from_replies IsRight bytes source source_new {sink} {sink_new} {result} gave end replies =
    let same : IfSome source.left (λ b. b ≡ bytes) = gave_whole source.left source_new.left bytes gave end in record {
      answered = λ h. told (λ b. (a : Outcome) × IsRight b a × IsSent a sink sink_new result) source.left bytes same
          (replies.sent h);
      flushed = λ h. (replies.sent h).2.flushed;
      at_end = λ e. end;
      read = λ e. absurd (replies.no_read e);
      unwritten = λ e. absurd (replies.no_read e);
      write = replies.rose;
      prefix = λ e. told (λ b. (a : Outcome) × IsRight b a × TookPrefix sink.taken sink_new.taken a.text) source.left
          bytes same (replies.prefix e);
      memory = replies.memory;
    }

-- whatever is right for P is right for Q
pub replies_weaker : (P Q : Outcome → Type 0) {sink sink_new : SinkView} {result : Status}
    → ((a : Outcome) → P a → Q a) → Replies P sink sink_new result → Replies Q sink sink_new result
replies_weaker P Q weaker replies = record {
  sent = λ h. let s = replies.sent h in (s.0, weaker s.0 s.1, s.2);
  rose = replies.rose;
  prefix = λ e. let s = replies.prefix e in (s.0, weaker s.0 s.1, s.2);
  memory = replies.memory;
  no_read = replies.no_read;
  later = replies.later;
}

-- a draft that is refused with its first fault is answered
pub replies_refused : (job : Job) (d : SheafData Field) (scripts : List (List Command)) (fault : SealFault)
    {sink sink_new : SinkView} {result : Status}
    → IsFault (ops_of d.field) d.complex d.blocks fault → Replies (λ a. a ≡ bad_draft fault) sink sink_new result
    → Replies (AnswersDraft job d scripts) sink sink_new result
replies_refused job d scripts fault first replies =
    replies_weaker (λ a. a ≡ bad_draft fault) (AnswersDraft job d scripts)
    (λ a is. inl (fault, first, is)) replies

-- nothing was done with bytes that were not read, and what is replied is right for them
pub run_unread : (IsRight : List ℕ → Outcome → Type 0) (P : Outcome → Type 0) (source source_new : SourceView)
    {sink sink_new : SinkView} {result : Status}
    → IfSome source.left (λ bytes. (a : Outcome) → P a → IsRight bytes a) → ((a : Outcome) → P a → a.status ≢ Done)
    → Replies P sink sink_new result → IsRun IsRight source source_new sink sink_new result
run_unread IsRight P source source_new {sink} {sink_new} {result} right not_done replies = record {
  answered = λ h. let s = replies.sent h in each source.left right (λ bytes r. (s.0, r s.0 s.1, s.2));
  flushed = λ h. (replies.sent h).2.flushed;
  at_end = λ e. absurd (done e);
  read = λ e. absurd (replies.no_read e);
  unwritten = λ e. absurd (replies.no_read e);
  write = replies.rose;
  prefix = λ e. let s = replies.prefix e in each source.left right (λ bytes r. (s.0, r s.0 s.1, s.2));
  memory = replies.memory;
}
  where
    each : {P Q : List ℕ → Type 0} (o : Option (List ℕ)) → IfSome o P → ((bytes : List ℕ) → P bytes → Q bytes)
        → IfSome o Q
    each None h f = tt
    each (Some bytes) h f = f bytes h

    done : ¬ (result ≡ Done)
    done e = let s = replies.sent (subst IsAnswer (sym e) tt) in not_done s.0 s.1 (sym s.2.status ∙ e)

-- more bytes than are read
pub over_bytes : (job : Job) (left : Option (List ℕ)) → IfSome left (λ bytes. 16777216 < length bytes)
    → IfSome left (λ bytes. (a : Outcome) → (a ≡ bad_line 0 (Over limits.Bytes)) → AnswersJob (Some job) bytes a)
over_bytes job None h = tt
over_bytes job (Some bytes) h = λ a is. subst (λ (r : Reading). AnswersReading job r a) (sym (reading-long bytes h)) is

-- a line that is refused is answered
pub replies_line : (job : Job) (r : Reading) (line n : ℕ) (cause k : LineCause) {sink sink_new : SinkView}
    {result : Status} → r ≡ readings.RefusedLine line (Bad cause) → n ≡ line → k ≡ cause
    → Replies (λ a. a ≡ bad_line n (Bad k)) sink sink_new result → Replies (AnswersReading job r) sink sink_new result
replies_line job r line n cause k e f g replies =
    replies_weaker (λ a. a ≡ bad_line n (Bad k)) (AnswersReading job r)
    (λ a is. subst (λ (t : Reading). AnswersReading job t a) (sym e) (is ∙ ap₂ (λ i o. bad_line i (Bad o)) f g)) replies

pub replies_limit : (job : Job) (r : Reading) (line n : ℕ) (which w : Which) {sink sink_new : SinkView}
    {result : Status} → r ≡ readings.RefusedLine line (Over which) → n ≡ line → w ≡ which
    → Replies (λ a. a ≡ bad_line n (Over w)) sink sink_new result → Replies (AnswersReading job r) sink sink_new result
replies_limit job r line n which w e f g replies =
    replies_weaker (λ a. a ≡ bad_line n (Over w)) (AnswersReading job r)
    (λ a is. subst (λ (t : Reading). AnswersReading job t a) (sym e)
    (is ∙ ap₂ (λ i o. bad_line i (Over o)) f g)) replies

-- the input that was read is answered
pub replies_input : (job : Job) (r : Reading) (i : Input) (scripts : List (List Command)) {sink sink_new : SinkView}
    {result : Status}
    → r ≡ readings.Good (input_value i) → scripts ≡ i.scripts
    → Replies (AnswersDraft job i.draft scripts) sink sink_new result
    → Replies (AnswersReading job r) sink sink_new result
replies_input job r i scripts e same replies =
    replies_weaker (AnswersDraft job i.draft scripts) (AnswersReading job r)
    (λ a h. subst (λ (t : Reading). AnswersReading job t a) (sym e)
    (i, refl, subst (λ ss. AnswersDraft job i.draft ss a) same h)) replies
