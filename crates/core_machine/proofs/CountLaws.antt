-- What a transcript counts is what the machine keeps, event by event.
use Rattle.std.proofs.Common.{◌≡◌, ℕ, zero, suc, ◌+◌, ◌<◌, Bool, true, false, ◌==◌, if◌then◌else◌, List, [], ◌∷◌, ◌++◌}
use Rattle.std.proofs.Common.{length, take, slice_get, Option, Some, None, refl, sym, ap, subst, ◌∙◌, arith}
use Rattle.std.proofs.Common.{append_assoc, append-nil, length-append}
use Rattle.std.proofs.lemmas.Option.{slice_get_within, same_Some, none-some}
use Rattle.std.proofs.lemmas.Bool.{eqb-true}
use Rattle.std.specs.Prelude.{option_and_then}
use Rattle.dense_blocks.specs.Field.{Ops}
use Rattle.sheaf_data.specs.Sheaves.{SheafData}
use Rattle.sheaf_words.specs.declared.query.Query.{Query}
use Rattle.sheaf_words.specs.declared.query.Query.TheVariants as queries
use Rattle.sheaf_words.specs.declared.query.Command.{Command}
use Rattle.sheaf_words.specs.declared.query.Command.TheVariants as commands
use Rattle.sheaf_words.specs.declared.edit.Verdict.{Verdict}
use Rattle.sheaf_words.specs.declared.edit.Verdict.TheVariants.{Accepted, Refused}
use Rattle.sheaf_words.specs.declared.reply.Reply.{Reply as Answer}
use Rattle.sheaf_words.specs.declared.reply.Reply.TheVariants as replies
use Rattle.sheaf_words.specs.declared.event.Event.{Event}
use Rattle.sheaf_words.specs.declared.event.Event.TheVariants.{Edit, Ask, Pair, Reply}
use Rattle.reply_text.specs.ClientEvents.{IsAnswerTo, IfPresent, IsAnswered, IsOf, AreOf}
use Rattle.reply_text.specs.Transcripts.{ends_for, is_accepted, ended_count}
use Rattle.reply_text.specs.Parts.{current_version, asked_version}
use Rattle.reply_text.proofs.Counting.{count-more, asked-more}
use Rattle.core_machine.specs.Replies.{Reduction, IsRightReply}
use Rattle.core_machine.specs.Machine.{Lane, State, free_lane, waiting_lane, command_at, with_lane}
use Rattle.core_machine.specs.Machine.{AreVersionsAfter, EditStep, AskStep, PairStep, ReplyStep, Step}
use Rattle.core_machine.specs.Machine.{Leads}
use Rattle.core_machine.specs.Legal.{first_state, IsLegal}
use Rattle.core_machine.specs.Counts.{lane_position, lane_pending, IsCounted}

-- ---- the lanes after one step

-- the positions where the lane of client c was put at one more
position-next : (lanes : ℕ → Lane) (c d p : ℕ) → lane_position (lanes c) ≡ p
    → lane_position (with_lane lanes c (free_lane (p + 1)) d) ≡ lane_position (lanes d) + (if c == d then 1 else 0)
position-next lanes c d p is = go (c == d) refl
  where
    go : (b : Bool) → (c == d) ≡ b → lane_position (if b then free_lane (p + 1) else lanes d) ≡ lane_position (lanes d)
        + (if b then 1 else 0)
    go true e = ap (λ n. n + 1) (sym (subst (λ k. lane_position (lanes k) ≡ p) (eqb-true c d e) is))
    go false e = omega arith

-- the positions where the lane of client c was put to wait
position-same : (lanes : ℕ → Lane) (c d p v : ℕ) → lane_position (lanes c) ≡ p
    → lane_position (with_lane lanes c (waiting_lane p v) d) ≡ lane_position (lanes d) + 0
position-same lanes c d p v is = go (c == d) refl
  where
    go : (b : Bool) → (c == d) ≡ b → lane_position (if b then waiting_lane p v else lanes d) ≡ lane_position (lanes d)
        + 0
    go true e = sym (subst (λ k. lane_position (lanes k) ≡ p) (eqb-true c d e) is) ∙ omega arith
    go false e = omega arith

-- what is pending where the lane of client c was freed
pending-free : (lanes : ℕ → Lane) (c d p v : ℕ) → lane_pending (with_lane lanes c (free_lane p) d) ≡ Some v
    → lane_pending (lanes d) ≡ Some v
pending-free lanes c d p v is = go (c == d) is
  where
    go : (b : Bool) → lane_pending (if b then free_lane p else lanes d) ≡ Some v → lane_pending (lanes d) ≡ Some v
    go true e = absurd (none-some v e)
    go false e = e

-- what is pending where the lane of client c was put to wait
pending-asked : (lanes : ℕ → Lane) (c d p n v w : ℕ) → (lane_pending (lanes d) ≡ Some v → v ≡ w)
    → lane_pending (with_lane lanes c (waiting_lane p n) d) ≡ Some v → v ≡ (if c == d then n else w)
pending-asked lanes c d p n v w before is = go (c == d) is
  where
    go : (b : Bool) → lane_pending (if b then waiting_lane p n else lanes d) ≡ Some v → v ≡ (if b then n else w)
    go true e = sym (same_Some n v e)
    go false e = before e

-- ---- the counts after one step

counted-edit : {F : Type 0} (K : Ops) (scripts : List (List Command)) (events : List Event) (c : ℕ) (verdict : Verdict)
    (s t : State F)
    → EditStep K scripts c verdict s t → IsCounted events s → IsCounted (events ++ Edit c verdict ∷ []) t
counted-edit {F} K scripts events c verdict s t step h = record {
  current = versions verdict step.versions ∙ ap (λ n. n + 1) (sym (count-more is_accepted events (Edit c verdict)));
  positions = λ d. ap (λ lanes. lane_position (lanes d)) step.lanes ∙ position-next s.lanes c d step.position
      (ap lane_position step.is_free)
      ∙ ap (λ n. n + (if c == d then 1 else 0)) (h.positions d) ∙ sym (count-more (ends_for d) events (Edit c verdict));
  pendings = λ d v is. h.pendings d v
      (pending-free s.lanes c d (step.position + 1) v (sym (ap (λ lanes. lane_pending (lanes d)) step.lanes) ∙ is))
      ∙ sym (asked-more d events (Edit c verdict));
}
  where
    versions : (w : Verdict) → AreVersionsAfter K step.sheaf step.edit w s.sheaves t.sheaves
        → length t.sheaves ≡ (current_version events + (if is_accepted (Edit c w) then 1 else 0)) + 1
    versions Accepted made = ap length made.2 ∙ length-append s.sheaves (made.0 ∷ []) ∙ ap (λ n. n + 1) h.current
    versions (Refused cause) same = ap length same ∙ h.current ∙ omega arith

counted-ask : {F : Type 0} (scripts : List (List Command)) (events : List Event) (c : ℕ) (s t : State F)
    → AskStep scripts c s t → IsCounted events s → IsCounted (events ++ Ask c ∷ []) t
counted-ask scripts events c s t step h = record {
  current = ap length step.versions ∙ h.current
      ∙ ap (λ n. n + 1) (omega arith ∙ sym (count-more is_accepted events (Ask c)));
  positions = λ d. ap (λ lanes. lane_position (lanes d)) step.lanes
      ∙ position-same s.lanes c d step.position step.version (ap lane_position step.is_free)
      ∙ ap (λ n. n + 0) (h.positions d) ∙ sym (count-more (ends_for d) events (Ask c));
  pendings = λ d v is. pending-asked s.lanes c d step.position step.version v (asked_version d events) (h.pendings d v)
      (sym (ap (λ lanes. lane_pending (lanes d)) step.lanes) ∙ is)
      ∙ ap (λ n. if c == d then n else asked_version d events) version ∙ sym (asked-more d events (Ask c));
}
  where
    version : step.version ≡ current_version events
    version = omega (arith, step.current, h.current)

counted-pair : {F : Type 0} (K : Ops) (events : List Event) (v x y : ℕ) (s t : State F)
    → PairStep K v x y s t → IsCounted events s → IsCounted (events ++ Pair v x y ∷ []) t
counted-pair K events v x y s t step h = record {
  current = ap length step.versions ∙ h.current
      ∙ ap (λ n. n + 1) (omega arith ∙ sym (count-more is_accepted events (Pair v x y)));
  positions = λ d. ap (λ lanes. lane_position (lanes d)) step.lanes ∙ h.positions d
      ∙ (omega arith ∙ sym (count-more (ends_for d) events (Pair v x y)));
  pendings = λ d w is. h.pendings d w (sym (ap (λ lanes. lane_pending (lanes d)) step.lanes) ∙ is)
      ∙ sym (asked-more d events (Pair v x y));
}

counted-reply : {F : Type 0} (K : Ops) (scripts : List (List Command)) (events : List Event) (c : ℕ) (r : Answer)
    (s t : State F)
    → ReplyStep K scripts c r s t → IsCounted events s → IsCounted (events ++ Reply c r ∷ []) t
counted-reply K scripts events c r s t step h = record {
  current = ap length step.versions ∙ h.current
      ∙ ap (λ n. n + 1) (omega arith ∙ sym (count-more is_accepted events (Reply c r)));
  positions = λ d. ap (λ lanes. lane_position (lanes d)) step.lanes ∙ position-next s.lanes c d step.position
      (ap lane_position step.is_waiting)
      ∙ ap (λ n. n + (if c == d then 1 else 0)) (h.positions d) ∙ sym (count-more (ends_for d) events (Reply c r));
  pendings = λ d v is. h.pendings d v
      (pending-free s.lanes c d (step.position + 1) v (sym (ap (λ lanes. lane_pending (lanes d)) step.lanes) ∙ is))
      ∙ sym (asked-more d events (Reply c r));
}

pub counted-step : {F : Type 0} (K : Ops) (scripts : List (List Command)) (events : List Event) (event : Event)
    (s t : State F)
    → Step K scripts event s t → IsCounted events s → IsCounted (events ++ event ∷ []) t
counted-step K scripts events (Edit c verdict) s t step h = counted-edit K scripts events c verdict s t step h
counted-step K scripts events (Ask c) s t step h = counted-ask scripts events c s t step h
counted-step K scripts events (Pair v x y) s t step h = counted-pair K events v x y s t step h
counted-step K scripts events (Reply c r) s t step h = counted-reply K scripts events c r s t step h

-- ---- all steps

counted-from : {F : Type 0} (K : Ops) (scripts : List (List Command)) (earlier events : List Event) (s t : State F)
    → Leads (Step {F = F} K scripts) events s t → IsCounted earlier s → IsCounted (earlier ++ events) t
counted-from K scripts earlier [] s t leads h =
    subst (λ es. IsCounted es t) (sym (append-nil earlier)) (subst (IsCounted earlier) leads h)
counted-from K scripts earlier (event ∷ events) s t leads h =
    subst (λ es. IsCounted es t) (append_assoc earlier (event ∷ []) events)
    (counted-from K scripts (earlier ++ event ∷ []) events leads.0 t leads.2
    (counted-step K scripts earlier event s leads.0 leads.1 h))

pub counted-first : {F : Type 0} (sheaf : SheafData F) → IsCounted [] (first_state sheaf)
counted-first sheaf = record { current = refl; positions = λ c. refl; pendings = λ c v e. absurd (none-some v e) }

pub transcripts_count : {F : Type 0} (K : Ops) (scripts : List (List Command)) (sheaf : SheafData F)
    (events : List Event) (s : State F)
    → IsLegal K scripts sheaf events s → IsCounted events s
transcripts_count K scripts sheaf events s reaches = counted-from K scripts [] events (first_state sheaf) s reaches
    (counted-first sheaf)

-- ---- legal events answer the commands

present : {X : Type 0} (P : X → Type 0) (o : Option X) (x : X) → o ≡ Some x → P x → IfPresent o P
present P o x e p = subst (λ q. IfPresent q P) (sym e) p

answered : (scripts : List (List Command)) (events : List Event) (c p : ℕ) (command : Command) (event : Event)
    → p ≡ ended_count c events → command_at scripts c p ≡ Some command → IsAnswerTo command event
    → IsAnswered scripts events c event
answered scripts events c p command event at there is =
    present (λ k. IsAnswerTo k event) (command_at scripts c (ended_count c events)) command
    (ap (command_at scripts c) (sym at) ∙ there) is

inside : (scripts : List (List Command)) (c p : ℕ) (command : Command) → command_at scripts c p ≡ Some command → c
    < length scripts
inside scripts c p command there = go (slice_get scripts c) refl there
  where
    go : (o : Option (List Command)) → slice_get scripts c ≡ o → option_and_then (λ script. slice_get script p) o
        ≡ Some command → c < length scripts
    go None e h = absurd (none-some command h)
    go (Some script) e h = slice_get_within scripts c script e

right-answers : (K : Ops) (reduction : Reduction) (c : ℕ) (q : Query) (r : Answer)
    → IsRightReply K reduction q r → IsAnswerTo (commands.Ask q) (Reply c r)
right-answers K reduction c queries.Betti (replies.Betti numbers) right = tt
right-answers K reduction c queries.Reduce (replies.Reduce reduced) right = tt
right-answers K reduction c queries.Equiv (replies.Equiv reduced maps) right = tt
right-answers K reduction c (queries.Basis k) (replies.Basis j vectors) right = tt
right-answers K reduction c (queries.Class k z) replies.BadLength right = tt
right-answers K reduction c (queries.Class k z) replies.BadEntry right = tt
right-answers K reduction c (queries.Class k z) (replies.NotCocycle j t) right = tt
right-answers K reduction c (queries.Class k z) (replies.Class j coords vectors primitive) right = tt
right-answers K reduction c queries.Sections (replies.Sections vectors) right = tt
right-answers K reduction c (queries.Extend e u) replies.BadLength right = tt
right-answers K reduction c (queries.Extend e u) replies.BadEntry right = tt
right-answers K reduction c (queries.Extend e u) (replies.Section t z) right = tt
right-answers K reduction c (queries.Extend e u) (replies.NoSection t functional) right = tt
right-answers K reduction c q r right = absurd right

of-step : {F : Type 0} (K : Ops) (scripts : List (List Command)) (events : List Event) (event : Event) (s t : State F)
    → Step K scripts event s t → IsCounted events s → IsOf scripts events event
of-step K scripts events (Edit c verdict) s t step h =
    answered scripts events c step.position (commands.Change step.edit) (Edit c verdict)
    (sym (ap lane_position step.is_free) ∙ h.positions c) step.command tt
of-step K scripts events (Ask c) s t step h = inside scripts c step.position (commands.Ask step.query) step.command
of-step K scripts events (Pair v x y) s t step h = tt
of-step K scripts events (Reply c r) s t step h =
    answered scripts events c step.position (commands.Ask step.query) (Reply c r)
    (sym (ap lane_position step.is_waiting) ∙ h.positions c) step.command
    (right-answers K step.reduction c step.query r step.right)

of-from : {F : Type 0} (K : Ops) (scripts : List (List Command)) (earlier events : List Event) (s t : State F)
    → Leads (Step {F = F} K scripts) events s t → IsCounted earlier s
    → (i : ℕ) (event : Event) → slice_get events i ≡ Some event → IsOf scripts (earlier ++ take i events) event
of-from K scripts earlier [] s t leads h i event at = absurd (none-some event at)
of-from K scripts earlier (first ∷ events) s t leads h zero event at =
    subst (λ es. IsOf scripts es event) (sym (append-nil earlier))
    (subst (IsOf scripts earlier) (same_Some first event at) (of-step K scripts earlier first s leads.0 leads.1 h))
of-from K scripts earlier (first ∷ events) s t leads h (suc i) event at =
    subst (λ es. IsOf scripts es event) (append_assoc earlier (first ∷ []) (take i events))
    (of-from K scripts (earlier ++ first ∷ []) events leads.0 t leads.2
    (counted-step K scripts earlier first s leads.0 leads.1 h) i event at)

pub events_are_answers : {F : Type 0} (K : Ops) (scripts : List (List Command)) (sheaf : SheafData F)
    (events : List Event) (s : State F)
    → IsLegal K scripts sheaf events s → AreOf scripts events
events_are_answers K scripts sheaf events s reaches i event at = of-from K scripts [] events (first_state sheaf) s
    reaches (counted-first sheaf) i event at

-- ---- one event more

pub leads-more : {F : Type 0} (IsStep : Event → State F → State F → Type 0) (events : List Event) (event : Event)
    (s m t : State F)
    → Leads IsStep events s m → IsStep event m t → Leads IsStep (events ++ event ∷ []) s t
leads-more IsStep [] event s m t leads step = (t, subst (λ x. IsStep event x t) (sym leads) step, refl)
leads-more IsStep (first ∷ events) event s m t leads step =
    (leads.0, leads.1, leads-more IsStep events event leads.0 m t leads.2 step)
