-- Which status a draft and bytes are due, and that it is one only.
use Rattle.std.proofs.Common.{◌≡◌, ◌⊎◌, inl, inr, ℕ, List, Option, None, Some, refl, sym, ap, ◌∙◌, subst}
use Rattle.std.specs.Prelude.{◌↔◌, IfSome}
use Rattle.std.specs.Io.KnownBytes.{IsAtEnd}
use Rattle.io_edge.specs.Faults.{Rose}
use Rattle.field_table.specs.declared.field.Field.{Field}
use Rattle.field_table.specs.Table.{ops_of}
use Rattle.incidence_check.specs.declared.incidence.Incidence.TheVariants.{EdgeEnds, Middles, Signs}
use Rattle.sheaf_data.specs.declared.fault.SealFault.{SealFault}
use Rattle.sheaf_data.specs.declared.fault.SealFault.TheVariants.{Complex, Noncommuting}
use Rattle.sheaf_data.specs.Sheaves.{SheafData}
use Rattle.sheaf_data.specs.Refusals.{IsFault}
use Rattle.sheaf_words.specs.declared.query.Command.{Command}
use Rattle.sheaf_text.specs.Readings.{Reading, reading}
use Rattle.sheaf_text.specs.Readings as readings
use Rattle.sheaf_text.specs.declared.input.Input.{Input}
use Rattle.sheaf_text.proofs.Inputs.{input_value-injective}
use Rattle.sheaf_text.specs.declared.fault.Refusal.TheVariants.{Bad, Over}
use Rattle.sheaf_run.specs.declared.job.Job.{Job}
use Rattle.sheaf_run.specs.declared.status.Status.{Status}
use Rattle.sheaf_run.specs.declared.status.Status.TheVariants.{Done, ReadFault, WriteFault, NoMemory, BadComplex}
use Rattle.sheaf_run.specs.declared.status.Status.TheVariants.{BadSheaf}
use Rattle.sheaf_run.specs.Answers.{Outcome, IsAnswer, DraftIsDue, IsDue, bad_draft, AnswersDraft}
use Rattle.sheaf_run.specs.Answers.{AnswersReading, AnswersJob}
use Rattle.sheaf_run.specs.Runs.{IsSent, IsRun, IsServed}
use Rattle.sheaf_run.specs.Views.{SourceView, SinkView}

-- a refused draft is due what it is refused with
due_of_fault : (d : SheafData Field) (fault : SealFault) → IsFault (ops_of d.field) d.complex d.blocks fault
    → DraftIsDue d (bad_draft fault).status
due_of_fault d (Complex (EdgeEnds t)) first = first.0
due_of_fault d (Complex (Middles s u count)) first = first.0
due_of_fault d (Complex (Signs s u)) first = first.0
due_of_fault d (Noncommuting s u) first = (first.0, (s, u, first.1.fails))

due_of_draft : (job : Job) (d : SheafData Field) (scripts : List (List Command)) (a : Outcome)
    → AnswersDraft job d scripts a → DraftIsDue d a.status
due_of_draft job d scripts a (inl (fault, first, is)) =
    subst (DraftIsDue d) (sym (ap (λ (o : Outcome). o.status) is)) (due_of_fault d fault first)
due_of_draft job d scripts a (inr (sheaf, done, right)) = subst (DraftIsDue d) (sym done) sheaf

-- the three cases exclude each other
done_only : (d : SheafData Field) → DraftIsDue d Done → (status : Status) → DraftIsDue d status → Done ≡ status
done_only d good Done due = refl
done_only d good BadComplex due = absurd (due good.regular)
done_only d good BadSheaf due = absurd (due.1.2 (good.commutes due.1.0 due.1.1))
done_only d good _ due = absurd due

complex_only : (d : SheafData Field) → DraftIsDue d BadComplex → (status : Status) → DraftIsDue d status
    → BadComplex ≡ status
complex_only d bad BadComplex due = refl
complex_only d bad Done due = absurd (bad due.regular)
complex_only d bad BadSheaf due = absurd (bad due.0)
complex_only d bad _ due = absurd due

sheaf_only : (d : SheafData Field) → DraftIsDue d BadSheaf → (status : Status) → DraftIsDue d status → BadSheaf ≡ status
sheaf_only d bad BadSheaf due = refl
sheaf_only d bad Done due = absurd (bad.1.2 (due.commutes bad.1.0 bad.1.1))
sheaf_only d bad BadComplex due = absurd (due bad.0)
sheaf_only d bad _ due = absurd due

draft_due_only : (d : SheafData Field) (one other : Status) → DraftIsDue d one → DraftIsDue d other → one ≡ other
draft_due_only d Done other h due = done_only d h other due
draft_due_only d BadComplex other h due = complex_only d h other due
draft_due_only d BadSheaf other h due = sheaf_only d h other due
draft_due_only d _ other h due = absurd h

-- ---- a reading is due what its input is due

due_of_reading : (job : Job) (r : Reading) (a : Outcome) → AnswersReading job r a → IsDue job r a.status
due_of_reading job (readings.Good v) a found =
    (found.0, found.1, due_of_draft job found.0.draft found.0.scripts a found.2)
due_of_reading job (readings.RefusedLine line refusal) a is = ap (λ (o : Outcome). o.status) is

reading_due_only : (job : Job) (r : Reading) (a : Outcome) → AnswersReading job r a → (status : Status)
    → IsDue job r status → a.status ≡ status
reading_due_only job (readings.Good v) a found status due =
    draft_due_only found.0.draft a.status status (due_of_draft job found.0.draft found.0.scripts a found.2)
    (subst (λ (i : Input). DraftIsDue i.draft status)
    (input_value-injective due.0 found.0 (sym due.1 ∙ found.1)) due.2)
reading_due_only job (readings.RefusedLine line refusal) a is status due =
    ap (λ (o : Outcome). o.status) is ∙ sym due

-- ---- what is answered

-- where the bytes are told, an outcome that is right for the job was sent
abbrev pub HasOutcome : Job → Option (List ℕ) → SinkView → SinkView → Status → Type 0
HasOutcome job left sink sink_new result =
    IfSome left (λ bytes. (a : Outcome) × AnswersJob (Some job) bytes a × IsSent a sink sink_new result)

-- what is answered is what the bytes are due
pub exact : (job : Job) (left : Option (List ℕ)) (sink sink_new : SinkView) (result : Status)
    → HasOutcome job left sink sink_new result
    → IfSome left (λ bytes. (status : Status) → (result ≡ status) ↔ IsDue job (reading bytes) status)
exact job None sink sink_new result answered = tt
exact job (Some bytes) sink sink_new result (a, right, sent) = λ status. (
  λ e. subst (IsDue job (reading bytes)) (sym sent.status ∙ e) (due_of_reading job (reading bytes) a right),
  λ due. sent.status ∙ reading_due_only job (reading bytes) a right status due,
)

-- what is done with a reading is right for the job, and nothing is left
done_serves : (job : Job) (bytes : List ℕ) (source_new : SourceView) (sink sink_new : SinkView) (result : Status)
    (a : Outcome) → a.status ≡ Done → IsAtEnd source_new.left → IsSent a sink sink_new result
    → (r : Reading) → reading bytes ≡ r → AnswersReading job r a → IsServed job bytes source_new sink sink_new
done_serves job bytes source_new sink sink_new result a done end sent (readings.Good v) e found = by found.2
  where
    not_refused : (fault : SealFault) → (bad_draft fault).status ≡ Done → ⊥
    not_refused (Complex (EdgeEnds t)) is = cc
    not_refused (Complex (Middles s u count)) is = cc
    not_refused (Complex (Signs s u)) is = cc
    not_refused (Noncommuting s u) is = cc

    by : AnswersDraft job found.0.draft found.0.scripts a → IsServed job bytes source_new sink sink_new
    by (inl (fault, first, is)) = absurd (not_refused fault (sym (ap (λ (o : Outcome). o.status) is) ∙ done))
    by (inr (sheaf, status, right)) = record {
      input = found.0;
      good = e ∙ ap readings.Good found.1;
      sheaf = sheaf;
      text = a.text;
      right = right;
      taken = sent.text;
      flushed = sent.flushed;
      at_end = end;
    }
done_serves job bytes source_new sink sink_new result a done end sent (readings.RefusedLine line (Bad cause)) e is =
    let same = sym (ap (λ (o : Outcome). o.status) is) ∙ done in absurd cc
done_serves job bytes source_new sink sink_new result a done end sent (readings.RefusedLine line (Over which)) e is =
    let same = sym (ap (λ (o : Outcome). o.status) is) ∙ done in absurd cc

pub serves : (job : Job) (source source_new : SourceView) (sink sink_new : SinkView) (result : Status)
    → result ≡ Done → IsAtEnd source_new.left → HasOutcome job source.left sink sink_new result
    → IfSome source.left (λ bytes. IsServed job bytes source_new sink sink_new)
serves job source source_new sink sink_new result done end = by source.left
  where
    by : (left : Option (List ℕ)) → HasOutcome job left sink sink_new result
        → IfSome left (λ bytes. IsServed job bytes source_new sink sink_new)
    by None answered = tt
    by (Some bytes) (a, right, sent) =
        done_serves job bytes source_new sink sink_new result a (sym sent.status ∙ done) end sent (reading bytes) refl
        right

-- what the bytes are due is answered, where neither source nor sink failed and memory did not run out
pub complete : (job : Job) (source source_new : SourceView) (sink sink_new : SinkView) (result : Status)
    → IsRun (AnswersJob (Some job)) source source_new sink sink_new result
    → ¬ (Rose source.faults source_new.faults) → ¬ (Rose sink.faults sink_new.faults)
    → IfSome source.left (λ bytes. (status : Status) → IsDue job (reading bytes) status
    → (result ≡ status) ⊎ (result ≡ NoMemory))
complete job source source_new sink sink_new result run no_read no_write = by source.left run.answered
  where
    due : (bytes : List ℕ) (r status : Status) → IsDue job (reading bytes) status
        → (IsAnswer r → HasOutcome job (Some bytes) sink sink_new r)
        → (r ≡ ReadFault → ⊥) → (r ≡ WriteFault → ⊥) → (r ≡ status) ⊎ (r ≡ NoMemory)
    due bytes ReadFault status is answered not_read not_write = absurd (not_read refl)
    due bytes WriteFault status is answered not_read not_write = absurd (not_write refl)
    due bytes NoMemory status is answered not_read not_write = inr refl
    due bytes _ status is answered not_read not_write =
        let known = answered tt in
        inl (known.2.status ∙ reading_due_only job (reading bytes) known.0 known.1 status is)

    by : (left : Option (List ℕ)) → (IsAnswer result → HasOutcome job left sink sink_new result)
        → IfSome left (λ bytes. (status : Status) → IsDue job (reading bytes) status
        → (result ≡ status) ⊎ (result ≡ NoMemory))
    by None answered = tt
    by (Some bytes) answered = λ status is.
        due bytes result status is answered (λ e. no_read (run.read e)) (λ e. no_write (run.write e))
