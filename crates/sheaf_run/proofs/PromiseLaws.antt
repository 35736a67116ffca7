-- What a run promises, from what it did.
use Rattle.std.proofs.Common.{◌≡◌, List, Option, None, Some, refl, sym, ap, ◌∙◌, subst}
use Rattle.std.proofs.lemmas.Option.{same_Some, none-some}
use Rattle.std.specs.Prelude.{ℕ, ◌≢◌, IfSome}
use Rattle.sheaf_run.specs.declared.job.Job.{Job}
use Rattle.sheaf_run.specs.declared.job.Job.TheVariants.{Solve, Check}
use Rattle.sheaf_run.specs.declared.status.Status.{Status}
use Rattle.sheaf_run.specs.declared.status.Status.TheVariants.{Done, ReadFault, WriteFault, NoMemory, BadWords}
use Rattle.sheaf_run.specs.Answers.{Outcome, IsAnswer, AnswersJob, bad_words}
use Rattle.sheaf_run.specs.Replies.{Replies}
use Rattle.sheaf_run.specs.Runs.{IsSent, IsRun, IsServed, Serves}
use Rattle.sheaf_run.specs.Views.{SourceView, SinkView}
use Rattle.sheaf_run.proofs.DueLaws.{exact, serves, complete}
use Rattle.sheaf_run.proofs.RunLaws.{run_unread}

-- the words ask for a job, and it was done with the source
pub serves_job : (job : Job) (source source_new : SourceView) (sink sink_new : SinkView) (result : Status)
    → result ≢ BadWords → IsRun (AnswersJob (Some job)) source source_new sink sink_new result
    → Serves (Some job) source source_new sink sink_new result
serves_job job source source_new sink sink_new result accepted run = record {
  run = run;
  served = by Solve;
  checked = by Check;
  refused = λ h. (λ e. absurd (accepted e), λ e. absurd (none-some job (sym e)));
  refusal = λ e. absurd (accepted e);
  exact = λ h. exact job source.left sink sink_new result (run.answered h);
  complete_words = λ e. absurd (none-some job (sym e));
  complete = complete job source source_new sink sink_new result run;
}
  where
    by : (j : Job) → Some job ≡ Some j → result ≡ Done
        → IfSome source.left (λ bytes. IsServed j bytes source_new sink sink_new)
    by j same done =
        subst (λ (k : Job). IfSome source.left (λ bytes. IsServed k bytes source_new sink sink_new))
        (same_Some job j same)
        (serves job source source_new sink sink_new result done (run.at_end done)
        (run.answered (subst IsAnswer (sym done) tt)))

-- the words are refused, and the source is as it was
pub serves_no_job : (source : SourceView) (sink sink_new : SinkView) (result : Status) → result ≢ NoMemory
    → Replies (λ a. a ≡ bad_words) sink sink_new result → Serves None source source sink sink_new result
serves_no_job source sink sink_new result no_memory replies = record {
  run = run_unread (AnswersJob None) (λ a. a ≡ bad_words) source source (right source.left)
      (λ a is e. let same = sym (ap (λ (o : Outcome). o.status) is) ∙ e in absurd cc) replies;
  served = λ e. absurd (none-some Solve e);
  checked = λ e. absurd (none-some Check e);
  refused = λ h. (λ e. refl, λ e. status h);
  refusal = λ e.
      let s = replies.sent (subst IsAnswer (sym e) tt) in
      subst (λ (a : Outcome). IsSent a sink sink_new result) s.1 s.2;
  exact = λ h. tt;
  complete_words = λ e no_write. words result replies.no_read (λ f. no_write (replies.rose f)) no_memory status;
  complete = λ no_read no_write. tt;
}
  where
    right : (left : Option (List ℕ)) → IfSome left (λ bytes. (a : Outcome) → (a ≡ bad_words) → AnswersJob None bytes a)
    right None = tt
    right (Some bytes) = λ a is. is

    status : IsAnswer result → result ≡ BadWords
    status h = let s = replies.sent h in s.2.status ∙ ap (λ (o : Outcome). o.status) s.1

    words : (r : Status) → r ≢ ReadFault → r ≢ WriteFault → r ≢ NoMemory → (IsAnswer r → r ≡ BadWords) → r ≡ BadWords
    words ReadFault no_read no_write no_memory answer = absurd (no_read refl)
    words WriteFault no_read no_write no_memory answer = absurd (no_write refl)
    words NoMemory no_read no_write no_memory answer = absurd (no_memory refl)
    words _ no_read no_write no_memory answer = answer tt
