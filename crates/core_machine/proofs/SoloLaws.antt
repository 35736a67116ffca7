-- Solo orders are legal, and an input has one: in each state at most one event is a step of a solo order.
use Rattle.std.proofs.Common.{◌≡◌, ◌≢◌, ℕ, ◌+◌, ◌<◌, ◌≤◌, ◌==◌, Bool, true, false, ⊎_elim, if◌then◌else◌, nat_eq}
use Rattle.std.proofs.Common.{List, [], ◌∷◌, ◌++◌, length, slice_get, Option, Some, None, Result, Ok, Err, All}
use Rattle.std.proofs.Common.{refl, sym, ap, ap₂, subst, ◌∙◌, arith}
use Rattle.std.proofs.Common.{length-append}
use Rattle.std.proofs.Math.ListN.{get_or-append}
use Rattle.std.proofs.lemmas.Bool.{eqb-true, eqb-false, eq-eqb, cases_order}
use Rattle.std.proofs.lemmas.List.Elements.{All-nil, All-cons}
use Rattle.std.proofs.lemmas.Map.{update_apart}
use Rattle.std.proofs.lemmas.Option.{slice_get_within, slice_get-get_or, get_or_from_slice_get, same_Some, none-some}
use Rattle.std.specs.Map.{update}
use Rattle.std.specs.Prelude.{option_and_then, unwrap_or}
use Rattle.cell_complex.specs.Invariants.{IsComplex}
use Rattle.dense_blocks.specs.Field.{Ops}
use Rattle.dense_blocks.specs.FieldLaws.{IsField}
use Rattle.removals.specs.Reductions.{IsInvertibleAt}
use Rattle.block_complexes.proofs.SameLaws.{same-sym}
use Rattle.sheaf_data.specs.Sheaves.{SheafData}
use Rattle.sheaf_words.specs.declared.query.Query.{Query}
use Rattle.sheaf_words.specs.declared.query.Command.{Command}
use Rattle.sheaf_words.specs.declared.query.Command.TheVariants as commands
use Rattle.sheaf_words.specs.declared.edit.Edit.{Edit as Change}
use Rattle.sheaf_words.specs.declared.edit.Verdict.{Verdict}
use Rattle.sheaf_words.specs.declared.edit.Verdict.TheVariants.{Accepted, Refused}
use Rattle.sheaf_words.specs.declared.reply.Reply.{Reply as Answer}
use Rattle.sheaf_words.specs.declared.event.Event.{Event}
use Rattle.sheaf_words.specs.declared.event.Event.TheVariants.{Edit, Ask, Pair, Reply}
use Rattle.edit_versions.specs.Edits.{SheafLists, sheaf_lists}
use Rattle.edit_versions.specs.Verdicts.{IsVerdict, IsEdited}
use Rattle.edit_versions.proofs.Unique.{verdict-unique, all-written-injective}
use Rattle.core_machine.specs.Replies.{Reduction, IsRightReply}
use Rattle.core_machine.specs.Machine.{Lane, State, free_lane, waiting_lane, command_at, with_lane, AreVersionsAfter}
use Rattle.core_machine.specs.Machine.{EditStep, AskStep, PairStep, ReplyStep, Step, IsReductionOf, Leads, IsDone}
use Rattle.core_machine.specs.Machine.{IsLegalAndWhole}
use Rattle.core_machine.specs.Legal.{first_state}
use Rattle.core_machine.specs.Counts.{lane_position, lane_pending}
use Rattle.core_machine.specs.Solo.{HasSoloChoices, SoloStep, IsSoloOrder}
use Rattle.core_machine.proofs.SheafLaws.{IsSheafOver, IsVersion, version-at, all-step, edits-keep-version}
use Rattle.core_machine.proofs.FinalLaws.{AreSameReductions}
use Rattle.core_machine.proofs.ReplyLaws.{one-reduction, same-invertible, one-reply}

-- ---- solo orders are legal

solo-legal : {F : Type 0} (K : Ops) (scripts : List (List Command)) (event : Event) (s t : State F)
    → SoloStep K scripts event s t → Step K scripts event s t
solo-legal K scripts (Edit c verdict) s t step = step.0
solo-legal K scripts (Ask c) s t step = step.0
solo-legal K scripts (Pair v x y) s t step = step.0
solo-legal K scripts (Reply c r) s t step = step.0

solo-leads : {F : Type 0} (K : Ops) (scripts : List (List Command)) (events : List Event) (s t : State F)
    → Leads (SoloStep {F = F} K scripts) events s t → Leads (Step {F = F} K scripts) events s t
solo-leads K scripts [] s t leads = leads
solo-leads K scripts (event ∷ events) s t leads = (
  leads.0,
  solo-legal K scripts event s leads.0 leads.1,
  solo-leads K scripts events leads.0 t leads.2,
)

pub solo_orders_are_legal : {F : Type 0} (K : Ops) (scripts : List (List Command)) (sheaf : SheafData F)
    (events : List Event) → IsSoloOrder K scripts sheaf events → IsLegalAndWhole K scripts sheaf events
solo_orders_are_legal K scripts sheaf events order = record {
  last = order.last;
  legal = solo-leads K scripts events (first_state sheaf) order.last order.legal;
  whole = order.whole;
}

-- ---- the client whose turn it is

-- the clients before c are done, and c is not
record IsNext (scripts : List (List Command)) (lanes : ℕ → Lane) (c : ℕ) : Type 0 where
  before : (d : ℕ) → d < c → IsDone scripts lanes d
  not_done : IsDone scripts lanes c → ⊥

next-unique : (scripts : List (List Command)) (lanes : ℕ → Lane) (c d : ℕ) → IsNext scripts lanes c
    → IsNext scripts lanes d → c ≡ d
next-unique scripts lanes c d h k = ⊎_elim (λ (e : c ≡ d). e)
    (λ o. ⊎_elim (λ (l : c < d). absurd (h.not_done (k.before c l)))
    (λ (l : d < c). absurd (k.not_done (h.before d l))) o)
    (cases_order c d)

-- a client that has a command before it has a script that is longer
in-script : (scripts : List (List Command)) (c p : ℕ) (command : Command) → command_at scripts c p ≡ Some command
    → (script : List Command) × (slice_get scripts c ≡ Some script) × (p < length script)
in-script scripts c p command there = go (slice_get scripts c) refl there
  where
    go : (o : Option (List Command)) → slice_get scripts c ≡ o
        → option_and_then (λ script. slice_get script p) o ≡ Some command
        → (script : List Command) × (slice_get scripts c ≡ Some script) × (p < length script)
    go None e h = absurd (none-some command h)
    go (Some script) e h = (script, e, slice_get_within script p command h)

free-not_done : (scripts : List (List Command)) (lanes : ℕ → Lane) (c p : ℕ) (command : Command)
    → lanes c ≡ free_lane p → command_at scripts c p ≡ Some command → IsDone scripts lanes c → ⊥
free-not_done scripts lanes c p command is there done =
    let script = in-script scripts c p command there in
    let same : p ≡ length script.0 = ap lane_position (sym is ∙ done script.0 script.1) in
    omega (arith, same, script.2)

waiting-not_done : (scripts : List (List Command)) (lanes : ℕ → Lane) (c p v : ℕ) (command : Command)
    → lanes c ≡ waiting_lane p v → command_at scripts c p ≡ Some command → IsDone scripts lanes c → ⊥
waiting-not_done scripts lanes c p v command is there done =
    let script = in-script scripts c p command there in
    none-some v (ap lane_pending (sym (done script.0 script.1) ∙ is))

free-waiting : (lanes : ℕ → Lane) (c d p q v : ℕ) → c ≡ d → lanes c ≡ free_lane p → lanes d ≡ waiting_lane q v → ⊥
free-waiting lanes c d p q v e is other =
    none-some v (ap lane_pending (sym (subst (λ k. lanes k ≡ free_lane p) e is) ∙ other))

-- ---- what holds in each state that a solo order reaches

record IsSoloState {F : Type 0} (K : Ops) (scripts : List (List Command)) (s : State F) : Type 0 where
  versions : All (IsVersion K) s.sheaves
  asked : (v : ℕ) (pairs : List (ℕ × ℕ)) → s.pairs v ≡ Some pairs → v < length s.sheaves
  -- it is the turn of a client that waits
  turn : (c p v : ℕ) → s.lanes c ≡ waiting_lane p v → IsNext scripts s.lanes c
  -- and one waits on each version that a pair can be removed from
  awaited : (v : ℕ) (r : Reduction) (x y : ℕ) → IsReductionOf K s v r → IsInvertibleAt K r.rest x y
      → (c : ℕ) × (p : ℕ) × (s.lanes c ≡ waiting_lane p v)

first-solo : {F : Type 0} (K : Ops) (scripts : List (List Command)) (sheaf : SheafData F) → IsVersion K sheaf
    → IsSoloState K scripts (first_state sheaf)
first-solo K scripts sheaf is = record {
  versions = All-cons (IsVersion K) sheaf [] is (All-nil (IsVersion K));
  asked = λ v pairs at. absurd (none-some pairs at);
  turn = λ c p v at. absurd (none-some v (ap lane_pending at));
  awaited = λ v r x y h i. absurd (none-some r.pairs h.removed);
}

reduced-version : {F : Type 0} (K : Ops) (scripts : List (List Command)) (s : State F) (v : ℕ) (r : Reduction)
    → IsSoloState K scripts s → (h : IsReductionOf K s v r) → IsVersion K h.sheaf
reduced-version K scripts s v r solo h = version-at (IsVersion K) s.sheaves v h.sheaf h.version solo.versions

-- it is the turn of the client that comes to a command, or waits

edit-turn : {F : Type 0} (K : Ops) (scripts : List (List Command)) (c : ℕ) (verdict : Verdict) (s t : State F)
    → SoloStep K scripts (Edit c verdict) s t → IsNext scripts s.lanes c
edit-turn K scripts c verdict s t step = record {
  before = step.1;
  not_done = free-not_done scripts s.lanes c step.0.position (commands.Change step.0.edit) step.0.is_free
      step.0.command;
}

ask-turn : {F : Type 0} (K : Ops) (scripts : List (List Command)) (c : ℕ) (s t : State F)
    → SoloStep K scripts (Ask c) s t → IsNext scripts s.lanes c
ask-turn K scripts c s t step = record {
  before = step.1;
  not_done = free-not_done scripts s.lanes c step.0.position (commands.Ask step.0.query) step.0.is_free step.0.command;
}

reply-turn : {F : Type 0} (K : Ops) (scripts : List (List Command)) (c : ℕ) (r : Answer) (s t : State F)
    → IsSoloState K scripts s → SoloStep K scripts (Reply c r) s t → IsNext scripts s.lanes c
reply-turn K scripts c r s t solo step = solo.turn c step.0.position step.0.version step.0.is_waiting

mover : {F : Type 0} (K : Ops) (scripts : List (List Command)) (event : Event) (s t : State F)
    → IsSoloState K scripts s → SoloStep K scripts event s t → (c : ℕ) × IsNext scripts s.lanes c
mover K scripts (Edit c verdict) s t solo step = (c, edit-turn K scripts c verdict s t step)
mover K scripts (Ask c) s t solo step = (c, ask-turn K scripts c s t step)
mover K scripts (Pair v x y) s t solo step =
    let waits = solo.awaited v step.0.reduction x y step.0.asked step.0.invertible in
    (waits.0, solo.turn waits.0 waits.1 v waits.2)
mover K scripts (Reply c r) s t solo step = (c, reply-turn K scripts c r s t solo step)

-- ---- one step

state-same : {F : Type 0} (m n : State F) → m.sheaves ≡ n.sheaves → m.lanes ≡ n.lanes → m.pairs ≡ n.pairs → m ≡ n
state-same m n sheaves lanes pairs =
    λ i. record { sheaves = sheaves i; lanes = lanes i; pairs = pairs i }

abbrev ok_or : {X E : Type 0} → X → Result X E → X
ok_or d (Ok x) = x
ok_or d (Err e) = d

abbrev change_or : Change → Command → Change
change_or d (commands.Change edit) = edit
change_or d (commands.Ask query) = d

abbrev query_or : Query → Command → Query
query_or d (commands.Change edit) = d
query_or d (commands.Ask query) = query

abbrev is-change : Command → Option ℕ
is-change (commands.Change edit) = Some 0
is-change (commands.Ask query) = None

edited-unique : {F : Type 0} (K : Ops) (old a b : SheafData F) (edit : Change) → IsEdited K old edit a
    → IsEdited K old edit b → a ≡ b
edited-unique K old a b edit h k = λ i. record {
  complex = (h.complex ∙ sym k.complex) i;
  field = (h.field ∙ sym k.field) i;
  stalks = stalks i;
  blocks = blocks i;
}
  where
    lists : sheaf_lists a.stalks a.blocks ≡ sheaf_lists b.stalks b.blocks
    lists = ap (ok_or (sheaf_lists a.stalks a.blocks)) (sym h.lists ∙ k.lists)

    stalks : a.stalks ≡ b.stalks
    stalks = ap (λ (l : SheafLists). l.stalks) lists

    blocks : a.blocks ≡ b.blocks
    blocks = all-written-injective a.blocks b.blocks (ap (λ (l : SheafLists). l.matrices) lists)

versions-unique : {F : Type 0} (K : Ops) (sheaf : SheafData F) (edit : Change) (verdict : Verdict)
    (old a b : List (SheafData F)) → AreVersionsAfter K sheaf edit verdict old a
    → AreVersionsAfter K sheaf edit verdict old b → a ≡ b
versions-unique K sheaf edit Accepted old a b h k =
    h.2 ∙ ap (λ d. old ++ d ∷ []) (edited-unique K sheaf h.0 k.0 edit h.1 k.1) ∙ sym k.2
versions-unique K sheaf edit (Refused cause) old a b h k = h ∙ sym k

edit-unique : {F : Type 0} (K : Ops) (scripts : List (List Command)) (c : ℕ) (v w : Verdict) (s m n : State F)
    → EditStep K scripts c v s m → EditStep K scripts c w s n → (Edit c v ≡ Edit c w) × (m ≡ n)
edit-unique {F} K scripts c v w s m n a b = (
  ap (Edit c) verdicts,
  state-same m n
      (versions-unique K a.sheaf a.edit v s.sheaves m.sheaves n.sheaves a.versions
      (subst (λ d. AreVersionsAfter K d a.edit v s.sheaves n.sheaves) (sym sheaf)
      (subst (λ e. AreVersionsAfter K b.sheaf e v s.sheaves n.sheaves) (sym edit)
      (subst (λ u. AreVersionsAfter K b.sheaf b.edit u s.sheaves n.sheaves) (sym verdicts) b.versions))))
      (a.lanes ∙ ap (λ p. with_lane s.lanes c (free_lane (p + 1))) position ∙ sym b.lanes)
      (a.pairs ∙ sym b.pairs),
)
  where
    position : a.position ≡ b.position
    position = ap lane_position (sym a.is_free ∙ b.is_free)

    edit : a.edit ≡ b.edit
    edit = ap (change_or a.edit) (same_Some (commands.Change a.edit) (commands.Change b.edit)
        (sym a.command ∙ ap (command_at scripts c) position ∙ b.command))

    version : a.version ≡ b.version
    version = omega (arith, a.current, b.current)

    sheaf : a.sheaf ≡ b.sheaf
    sheaf = same_Some a.sheaf b.sheaf (sym a.current_sheaf ∙ ap (slice_get s.sheaves) version ∙ b.current_sheaf)

    verdicts : v ≡ w
    verdicts = verdict-unique K a.sheaf a.edit v w a.judged
        (subst (λ d. IsVerdict K d a.edit w) (sym sheaf) (subst (λ e. IsVerdict K b.sheaf e w) (sym edit) b.judged))

ask-unique : {F : Type 0} (scripts : List (List Command)) (c : ℕ) (s m n : State F) → AskStep scripts c s m
    → AskStep scripts c s n → m ≡ n
ask-unique {F} scripts c s m n a b = state-same m n (a.versions ∙ sym b.versions)
    (a.lanes ∙ ap₂ (λ p v. with_lane s.lanes c (waiting_lane p v)) position version ∙ sym b.lanes)
    (a.pairs ∙ ap (λ v. update nat_eq s.pairs v (Some (unwrap_or (s.pairs v) []))) version ∙ sym b.pairs)
  where
    position : a.position ≡ b.position
    position = ap lane_position (sym a.is_free ∙ b.is_free)

    version : a.version ≡ b.version
    version = omega (arith, a.current, b.current)

-- the next command of a client is an edit or a question
edit-ask : {F : Type 0} (K : Ops) (scripts : List (List Command)) (c : ℕ) (v : Verdict) (s m n : State F)
    → EditStep K scripts c v s m → AskStep scripts c s n → ⊥
edit-ask K scripts c v s m n a b =
    let position : a.position ≡ b.position = ap lane_position (sym a.is_free ∙ b.is_free) in
    let same : commands.Ask b.query ≡ commands.Change a.edit =
    same_Some (commands.Ask b.query) (commands.Change a.edit)
    (sym b.command ∙ ap (command_at scripts c) (sym position) ∙ a.command) in
    none-some 0 (ap is-change same)

pair-unique : {F : Type 0} (K : Ops) (scripts : List (List Command)) (v x y x' y' : ℕ) (s m n : State F) → IsField K
    → IsSoloState K scripts s → SoloStep K scripts (Pair v x y) s m → SoloStep K scripts (Pair v x' y') s n
    → (Pair v x y ≡ Pair v x' y') × (m ≡ n)
pair-unique {F} K scripts v x y x' y' s m n field solo a b = (
  ap₂ (Pair v) from to,
  state-same m n
      (a.0.versions ∙ sym b.0.versions) (a.0.lanes ∙ sym b.0.lanes)
      (a.0.pairs ∙ ap (λ ps. update nat_eq s.pairs v (Some (ps ++ (x, y) ∷ []))) (sym same.pairs)
      ∙ ap₂ (λ p q. update nat_eq s.pairs v (Some (b.0.reduction.pairs ++ (p, q) ∷ []))) from to ∙ sym b.0.pairs),
)
  where
    same : AreSameReductions a.0.reduction b.0.reduction
    same = one-reduction K s v a.0.reduction b.0.reduction field a.0.asked
        (reduced-version K scripts s v a.0.reduction solo a.0.asked) b.0.asked

    after : (x ≤ x') × (x' ≡ x → y ≤ y')
    after = a.1 x' y' (same-invertible K b.0.reduction.rest a.0.reduction.rest x' y'
        (same-sym a.0.reduction.rest b.0.reduction.rest same.rest) b.0.invertible)

    before : (x' ≤ x) × (x ≡ x' → y' ≤ y)
    before = b.1 x y (same-invertible K a.0.reduction.rest b.0.reduction.rest x y same.rest a.0.invertible)

    from : x ≡ x'
    from = omega (arith, after.0, before.0)

    to : y ≡ y'
    to = omega (arith, after.1 (sym from), before.1 from)

reply-unique : {F : Type 0} (K : Ops) (scripts : List (List Command)) (c : ℕ) (x y : Answer) (s m n : State F)
    → IsField K → IsSoloState K scripts s → SoloStep K scripts (Reply c x) s m → SoloStep K scripts (Reply c y) s n
    → (Reply c x ≡ Reply c y) × (m ≡ n)
reply-unique {F} K scripts c x y s m n field solo a b = (
  ap (Reply c) replies,
  state-same m n
      (a.0.versions ∙ sym b.0.versions)
      (a.0.lanes ∙ ap (λ p. with_lane s.lanes c (free_lane (p + 1))) position ∙ sym b.0.lanes)
      (a.0.pairs ∙ sym b.0.pairs),
)
  where
    lanes : waiting_lane a.0.position a.0.version ≡ waiting_lane b.0.position b.0.version
    lanes = sym a.0.is_waiting ∙ b.0.is_waiting

    position : a.0.position ≡ b.0.position
    position = ap lane_position lanes

    version : b.0.version ≡ a.0.version
    version = same_Some b.0.version a.0.version (ap lane_pending (sym lanes))

    query : b.0.query ≡ a.0.query
    query = ap (query_or a.0.query) (same_Some (commands.Ask b.0.query) (commands.Ask a.0.query)
        (sym b.0.command ∙ ap (command_at scripts c) (sym position) ∙ a.0.command))

    asked : IsVersion K a.0.asked.sheaf
    asked = reduced-version K scripts s a.0.version a.0.reduction solo a.0.asked

    same : AreSameReductions a.0.reduction b.0.reduction
    same = one-reduction K s a.0.version a.0.reduction b.0.reduction field a.0.asked asked
        (subst (λ v. IsReductionOf K s v b.0.reduction) version b.0.asked)

    replies : x ≡ y
    replies = one-reply K s a.0.version a.0.reduction b.0.reduction field a.0.asked asked same a.0.query x y
        a.0.right a.1
        (subst (λ q. IsRightReply K b.0.reduction q y) query b.0.right)
        (subst (λ q. HasSoloChoices K b.0.reduction q y) query b.1)

-- no pair can be removed where a reply comes
pair-reply : {F : Type 0} (K : Ops) (scripts : List (List Command)) (v x y c : ℕ) (r : Answer) (s m n : State F)
    → IsField K → IsSoloState K scripts s → PairStep K v x y s m → ReplyStep K scripts c r s n → ⊥
pair-reply {F} K scripts v x y c r s m n field solo a b =
    let waits = solo.awaited v a.reduction x y a.asked a.invertible in
    let turn : IsNext scripts s.lanes c = solo.turn c b.position b.version b.is_waiting in
    let same_client : waits.0 ≡ c =
    next-unique scripts s.lanes waits.0 c (solo.turn waits.0 waits.1 v waits.2) turn in
    let version : v ≡ b.version = same_Some v b.version
    (ap lane_pending (sym (subst (λ d. s.lanes d ≡ waiting_lane waits.1 v) same_client waits.2) ∙ b.is_waiting)) in
    let asked : IsReductionOf K s b.version a.reduction =
    subst (λ w. IsReductionOf K s w a.reduction) version a.asked in
    let same : AreSameReductions a.reduction b.reduction =
    one-reduction K s b.version a.reduction b.reduction field asked
    (reduced-version K scripts s b.version a.reduction solo asked) b.asked in
    b.irreducible x y (same-invertible K a.reduction.rest b.reduction.rest x y same.rest a.invertible)

-- where a client comes to a command, none waits
none-waits : (scripts : List (List Command)) (lanes : ℕ → Lane) (c p d q v : ℕ) → IsNext scripts lanes c
    → IsNext scripts lanes d → lanes c ≡ free_lane p → lanes d ≡ waiting_lane q v → ⊥
none-waits scripts lanes c p d q v h k is waits =
    free-waiting lanes c d p q v (next-unique scripts lanes c d h k) is waits

solo-unique : {F : Type 0} (K : Ops) (scripts : List (List Command)) (e f : Event) (s m n : State F) → IsField K
    → IsSoloState K scripts s → SoloStep K scripts e s m → SoloStep K scripts f s n → (e ≡ f) × (m ≡ n)
solo-unique K scripts (Edit c v) (Edit d w) s m n field solo a b =
    let same : d ≡ c = next-unique scripts s.lanes d c (edit-turn K scripts d w s n b)
    (edit-turn K scripts c v s m a) in
    let here = edit-unique K scripts c v w s m n a.0 (subst (λ k. EditStep K scripts k w s n) same b.0) in
    (here.0 ∙ ap (λ k. Edit k w) (sym same), here.1)
solo-unique K scripts (Edit c v) (Ask d) s m n field solo a b =
    let same : d ≡ c = next-unique scripts s.lanes d c (ask-turn K scripts d s n b)
    (edit-turn K scripts c v s m a) in
    absurd (edit-ask K scripts c v s m n a.0 (subst (λ k. AskStep scripts k s n) same b.0))
solo-unique K scripts (Edit c v) (Pair w x y) s m n field solo a b =
    let waits = solo.awaited w b.0.reduction x y b.0.asked b.0.invertible in
    absurd (none-waits scripts s.lanes c a.0.position waits.0 waits.1 w (edit-turn K scripts c v s m a)
    (solo.turn waits.0 waits.1 w waits.2) a.0.is_free waits.2)
solo-unique K scripts (Edit c v) (Reply d r) s m n field solo a b =
    absurd (none-waits scripts s.lanes c a.0.position d b.0.position b.0.version
    (edit-turn K scripts c v s m a) (reply-turn K scripts d r s n solo b) a.0.is_free b.0.is_waiting)
solo-unique K scripts (Ask c) (Edit d w) s m n field solo a b =
    let same : c ≡ d = next-unique scripts s.lanes c d (ask-turn K scripts c s m a)
    (edit-turn K scripts d w s n b) in
    absurd (edit-ask K scripts d w s n m b.0 (subst (λ k. AskStep scripts k s m) same a.0))
solo-unique K scripts (Ask c) (Ask d) s m n field solo a b =
    let same : d ≡ c = next-unique scripts s.lanes d c (ask-turn K scripts d s n b)
    (ask-turn K scripts c s m a) in
    (ap Ask (sym same), ask-unique scripts c s m n a.0 (subst (λ k. AskStep scripts k s n) same b.0))
solo-unique K scripts (Ask c) (Pair w x y) s m n field solo a b =
    let waits = solo.awaited w b.0.reduction x y b.0.asked b.0.invertible in
    absurd (none-waits scripts s.lanes c a.0.position waits.0 waits.1 w (ask-turn K scripts c s m a)
    (solo.turn waits.0 waits.1 w waits.2) a.0.is_free waits.2)
solo-unique K scripts (Ask c) (Reply d r) s m n field solo a b =
    absurd (none-waits scripts s.lanes c a.0.position d b.0.position b.0.version
    (ask-turn K scripts c s m a) (reply-turn K scripts d r s n solo b) a.0.is_free b.0.is_waiting)
solo-unique K scripts (Pair w x y) (Edit c v) s m n field solo a b =
    let waits = solo.awaited w a.0.reduction x y a.0.asked a.0.invertible in
    absurd (none-waits scripts s.lanes c b.0.position waits.0 waits.1 w (edit-turn K scripts c v s n b)
    (solo.turn waits.0 waits.1 w waits.2) b.0.is_free waits.2)
solo-unique K scripts (Pair w x y) (Ask c) s m n field solo a b =
    let waits = solo.awaited w a.0.reduction x y a.0.asked a.0.invertible in
    absurd (none-waits scripts s.lanes c b.0.position waits.0 waits.1 w (ask-turn K scripts c s n b)
    (solo.turn waits.0 waits.1 w waits.2) b.0.is_free waits.2)
solo-unique K scripts (Pair v x y) (Pair w x' y') s m n field solo a b =
    let here = solo.awaited v a.0.reduction x y a.0.asked a.0.invertible in
    let there = solo.awaited w b.0.reduction x' y' b.0.asked b.0.invertible in
    let same : there.0 ≡ here.0 = next-unique scripts s.lanes there.0 here.0 (solo.turn there.0 there.1 w there.2)
    (solo.turn here.0 here.1 v here.2) in
    let version : w ≡ v = same_Some w v
    (ap lane_pending (sym (subst (λ d. s.lanes d ≡ waiting_lane there.1 w) same there.2) ∙ here.2)) in
    let one = pair-unique K scripts v x y x' y' s m n field solo a
    (subst (λ k. SoloStep K scripts (Pair k x' y') s n) version b) in
    (one.0 ∙ ap (λ k. Pair k x' y') (sym version), one.1)
solo-unique K scripts (Pair v x y) (Reply d r) s m n field solo a b =
    absurd (pair-reply K scripts v x y d r s m n field solo a.0 b.0)
solo-unique K scripts (Reply d r) (Edit c v) s m n field solo a b =
    absurd (none-waits scripts s.lanes c b.0.position d a.0.position a.0.version
    (edit-turn K scripts c v s n b) (reply-turn K scripts d r s m solo a) b.0.is_free a.0.is_waiting)
solo-unique K scripts (Reply d r) (Ask c) s m n field solo a b =
    absurd (none-waits scripts s.lanes c b.0.position d a.0.position a.0.version
    (ask-turn K scripts c s n b) (reply-turn K scripts d r s m solo a) b.0.is_free a.0.is_waiting)
solo-unique K scripts (Reply d r) (Pair v x y) s m n field solo a b =
    absurd (pair-reply K scripts v x y d r s n m field solo b.0 a.0)
solo-unique K scripts (Reply c x) (Reply d y) s m n field solo a b =
    let same : d ≡ c = next-unique scripts s.lanes d c (reply-turn K scripts d y s n solo b)
    (reply-turn K scripts c x s m solo a) in
    let one = reply-unique K scripts c x y s m n field solo a
    (subst (λ k. SoloStep K scripts (Reply k y) s n) same b) in
    (one.0 ∙ ap (λ k. Reply k y) (sym same), one.1)

-- ---- a step more

-- once the only client that may wait has become free, none waits
none-left : (lanes : ℕ → Lane) (c p : ℕ) → ((d q v : ℕ) → lanes d ≡ waiting_lane q v → c ≡ d) → (d q v : ℕ)
    → with_lane lanes c (free_lane p) d ≡ waiting_lane q v → ⊥
none-left lanes c p only d q v is = go (c == d) refl is
  where
    go : (b : Bool) → (c == d) ≡ b → (if b then free_lane p else lanes d) ≡ waiting_lane q v → ⊥
    go true e h = none-some v (ap lane_pending h)
    go false e h = eqb-false c d e (only d q v h)

-- the lanes of other clients stay
other-lane : (lanes : ℕ → Lane) (c d : ℕ) (lane : Lane) → c ≢ d → with_lane lanes c lane d ≡ lanes d
other-lane lanes c d lane other = go (c == d) refl
  where
    go : (b : Bool) → (c == d) ≡ b → (if b then lane else lanes d) ≡ lanes d
    go true e = absurd (other (eqb-true c d e))
    go false e = refl

-- a reduction after a step is one before it where the version was there and had these pairs
reduction-before : {F : Type 0} (K : Ops) (s t : State F) (v : ℕ) (r : Reduction)
    → ((d : SheafData F) → slice_get t.sheaves v ≡ Some d → slice_get s.sheaves v ≡ Some d)
    → s.pairs v ≡ t.pairs v → IsReductionOf K t v r → IsReductionOf K s v r
reduction-before K s t v r version pairs h = record {
  sheaf = h.sheaf;
  version = version h.sheaf h.version;
  whole = h.whole;
  degrees = h.degrees;
  start = h.start;
  removed = pairs ∙ h.removed;
  rest = h.rest;
}

slice_get-before : {X : Type 0} (xs ys : List X) (v : ℕ) (x : X) → v < length xs → slice_get (xs ++ ys) v ≡ Some x
    → slice_get xs v ≡ Some x
slice_get-before xs ys v x inside at = slice_get-get_or xs v x inside
    ∙ ap Some (sym (get_or-append xs ys x v inside) ∙ get_or_from_slice_get (xs ++ ys) v x x at)

same-sheaves : {F : Type 0} (s t : State F) (v : ℕ) → t.sheaves ≡ s.sheaves → (d : SheafData F)
    → slice_get t.sheaves v ≡ Some d → slice_get s.sheaves v ≡ Some d
same-sheaves s t v e d at = sym (ap (λ ds. slice_get ds v) e) ∙ at

-- a version that was asked is there before an edit with the same sheaf, and after it
record StandsStill {F : Type 0} (old new : List (SheafData F)) : Type 0 where
  longer : length old ≤ length new
  stays : (v : ℕ) (d : SheafData F) → v < length old → slice_get new v ≡ Some d → slice_get old v ≡ Some d

stands-still : {F : Type 0} (K : Ops) (sheaf : SheafData F) (edit : Change) (verdict : Verdict)
    (old new : List (SheafData F)) → AreVersionsAfter K sheaf edit verdict old new → StandsStill old new
stands-still {F} K sheaf edit Accepted old new h = subst (StandsStill old) (sym h.2) (record {
  longer = omega (arith, length-append old (h.0 ∷ []));
  stays = λ v d inside at. slice_get-before old (h.0 ∷ []) v d inside at;
})
stands-still {F} K sheaf edit (Refused cause) old new h = subst (StandsStill old) (sym h) (record {
  longer = omega arith;
  stays = λ v d inside at. at;
})

next-solo : {F : Type 0} (K : Ops) (scripts : List (List Command)) (event : Event) (s t : State F) → IsField K
    → IsSoloState K scripts s → SoloStep K scripts event s t → IsSoloState K scripts t
next-solo {F} K scripts (Edit c verdict) s t field solo step = record {
  versions = all-step (IsVersion K) K scripts (Edit c verdict) s t (edits-keep-version K field) step.0 solo.versions;
  asked = λ v pairs at. omega (arith, inside v pairs at, still.longer);
  turn = λ d q v is. absurd (none d q v is);
  awaited = λ v r x y h i.
      let was = reduction-before K s t v r (λ d at. still.stays v d (inside v r.pairs h.removed) at)
      (ap (λ f. f v) (sym step.0.pairs)) h in
      let waits = solo.awaited v r x y was i in
      absurd (nobody waits.0 waits.1 v waits.2);
}
  where
    still : StandsStill s.sheaves t.sheaves
    still = stands-still K step.0.sheaf step.0.edit verdict s.sheaves t.sheaves step.0.versions

    inside : (v : ℕ) (pairs : List (ℕ × ℕ)) → t.pairs v ≡ Some pairs → v < length s.sheaves
    inside v pairs at = solo.asked v pairs (ap (λ f. f v) (sym step.0.pairs) ∙ at)

    nobody : (d q v : ℕ) → s.lanes d ≡ waiting_lane q v → ⊥
    nobody d q v is = none-waits scripts s.lanes c step.0.position d q v
        (edit-turn K scripts c verdict s t step) (solo.turn d q v is) step.0.is_free is

    none : (d q v : ℕ) → t.lanes d ≡ waiting_lane q v → ⊥
    none d q v is = none-left s.lanes c (step.0.position + 1) (λ e p w there. absurd (nobody e p w there)) d q v
        (ap (λ f. f d) (sym step.0.lanes) ∙ is)
next-solo {F} K scripts (Ask c) s t field solo step = record {
  versions = all-step (IsVersion K) K scripts (Ask c) s t (edits-keep-version K field) step.0 solo.versions;
  asked = λ v pairs at. asked v pairs at (v == step.0.version) refl;
  turn = λ d q v is. turn d q v is (c == d) refl;
  awaited = λ v r x y h i. by v r x y h i (v == step.0.version) refl;
}
  where
    nobody : (d q v : ℕ) → s.lanes d ≡ waiting_lane q v → ⊥
    nobody d q v is = none-waits scripts s.lanes c step.0.position d q v (ask-turn K scripts c s t step)
        (solo.turn d q v is) step.0.is_free is

    elsewhere : (v : ℕ) → v ≢ step.0.version → s.pairs v ≡ t.pairs v
    elsewhere v other =
        sym (update_apart s.pairs step.0.version (Some (unwrap_or (s.pairs step.0.version) [])) v other)
        ∙ ap (λ f. f v) (sym step.0.pairs)

    asked : (v : ℕ) (pairs : List (ℕ × ℕ)) → t.pairs v ≡ Some pairs → (b : Bool) → (v == step.0.version) ≡ b
        → v < length t.sheaves
    asked v pairs at true e = omega (arith, eqb-true v step.0.version e, step.0.current, ap length step.0.versions)
    asked v pairs at false e = omega (
      arith,
      solo.asked v pairs (elsewhere v (eqb-false v step.0.version e) ∙ at),
      ap length step.0.versions,
    )

    lane-other : (d : ℕ) → c ≢ d → t.lanes d ≡ s.lanes d
    lane-other d other = ap (λ f. f d) step.0.lanes
        ∙ other-lane s.lanes c d (waiting_lane step.0.position step.0.version) other

    lane-own : t.lanes c ≡ waiting_lane step.0.position step.0.version
    lane-own = ap (λ f. f c) step.0.lanes
        ∙ ap (λ b. if b then waiting_lane step.0.position step.0.version else s.lanes c) (eq-eqb c c refl)

    own : IsNext scripts t.lanes c
    own = record {
      before = λ k l script there. lane-other k (λ e. omega (arith, e, l)) ∙ step.1 k l script there;
      not_done = waiting-not_done scripts t.lanes c step.0.position step.0.version (commands.Ask step.0.query)
          lane-own step.0.command;
    }

    turn : (d q v : ℕ) → t.lanes d ≡ waiting_lane q v → (b : Bool) → (c == d) ≡ b → IsNext scripts t.lanes d
    turn d q v is true e = subst (IsNext scripts t.lanes) (eqb-true c d e) own
    turn d q v is false e = absurd (nobody d q v (sym (lane-other d (eqb-false c d e)) ∙ is))

    by : (v : ℕ) (r : Reduction) (x y : ℕ) → IsReductionOf K t v r → IsInvertibleAt K r.rest x y → (b : Bool)
        → (v == step.0.version) ≡ b → (d : ℕ) × (p : ℕ) × (t.lanes d ≡ waiting_lane p v)
    by v r x y h i true e =
        (c, step.0.position, lane-own ∙ ap (waiting_lane step.0.position) (sym (eqb-true v step.0.version e)))
    by v r x y h i false e =
        let was = reduction-before K s t v r (same-sheaves s t v step.0.versions)
        (elsewhere v (eqb-false v step.0.version e)) h in
        let waits = solo.awaited v r x y was i in
        absurd (nobody waits.0 waits.1 v waits.2)
next-solo {F} K scripts (Pair w x y) s t field solo step = record {
  versions = all-step (IsVersion K) K scripts (Pair w x y) s t (edits-keep-version K field) step.0 solo.versions;
  asked = λ v pairs at. asked v pairs at (v == w) refl;
  turn = λ d q v is. subst (λ lanes. IsNext scripts lanes d) (sym step.0.lanes)
      (solo.turn d q v (ap (λ f. f d) (sym step.0.lanes) ∙ is));
  awaited = λ v r p q h i. waits v (by v r p q h i (v == w) refl);
}
  where
    elsewhere : (v : ℕ) → v ≢ w → s.pairs v ≡ t.pairs v
    elsewhere v other =
        sym (update_apart s.pairs w (Some (step.0.reduction.pairs ++ (x, y) ∷ [])) v other)
        ∙ ap (λ f. f v) (sym step.0.pairs)

    asked : (v : ℕ) (pairs : List (ℕ × ℕ)) → t.pairs v ≡ Some pairs → (b : Bool) → (v == w) ≡ b → v < length t.sheaves
    asked v pairs at true e = omega (
      arith,
      eqb-true v w e,
      solo.asked w step.0.reduction.pairs step.0.asked.removed,
      ap length step.0.versions,
    )
    asked v pairs at false e =
        omega (arith, solo.asked v pairs (elsewhere v (eqb-false v w e) ∙ at), ap length step.0.versions)

    by : (v : ℕ) (r : Reduction) (p q : ℕ) → IsReductionOf K t v r → IsInvertibleAt K r.rest p q → (b : Bool)
        → (v == w) ≡ b → (d : ℕ) × (k : ℕ) × (s.lanes d ≡ waiting_lane k v)
    by v r p q h i true e =
        subst (λ u. (d : ℕ) × (k : ℕ) × (s.lanes d ≡ waiting_lane k u)) (sym (eqb-true v w e))
        (solo.awaited w step.0.reduction x y step.0.asked step.0.invertible)
    by v r p q h i false e = solo.awaited v r p q
        (reduction-before K s t v r (same-sheaves s t v step.0.versions) (elsewhere v (eqb-false v w e)) h) i

    waits : (v : ℕ) → (d : ℕ) × (k : ℕ) × (s.lanes d ≡ waiting_lane k v)
        → (d : ℕ) × (k : ℕ) × (t.lanes d ≡ waiting_lane k v)
    waits v h = (h.0, h.1, ap (λ f. f h.0) step.0.lanes ∙ h.2)
next-solo {F} K scripts (Reply c r) s t field solo step = record {
  versions = all-step (IsVersion K) K scripts (Reply c r) s t (edits-keep-version K field) step.0 solo.versions;
  asked = λ v pairs at.
      omega (arith, solo.asked v pairs (ap (λ f. f v) (sym step.0.pairs) ∙ at), ap length step.0.versions);
  turn = λ d q v is. absurd (none d q v is);
  awaited = λ v q x y h i. absurd (settled v q x y h i);
}
  where
    only : (d q v : ℕ) → s.lanes d ≡ waiting_lane q v → c ≡ d
    only d q v is = next-unique scripts s.lanes c d (reply-turn K scripts c r s t solo step) (solo.turn d q v is)

    none : (d q v : ℕ) → t.lanes d ≡ waiting_lane q v → ⊥
    none d q v is = none-left s.lanes c (step.0.position + 1) only d q v (ap (λ f. f d) (sym step.0.lanes) ∙ is)

    -- what can still be removed would be awaited by c, from whose version nothing can
    settled : (v : ℕ) (q : Reduction) (x y : ℕ) → IsReductionOf K t v q → IsInvertibleAt K q.rest x y → ⊥
    settled v q x y h i =
        let was : IsReductionOf K s v q = reduction-before K s t v q (same-sheaves s t v step.0.versions)
        (ap (λ f. f v) (sym step.0.pairs)) h in
        let waits = solo.awaited v q x y was i in
        let version : v ≡ step.0.version = same_Some v step.0.version (ap lane_pending
        (sym waits.2 ∙ sym (ap s.lanes (only waits.0 waits.1 v waits.2)) ∙ step.0.is_waiting)) in
        let here : IsReductionOf K s step.0.version q = subst (λ u. IsReductionOf K s u q) version was in
        let same : AreSameReductions q step.0.reduction = one-reduction K s step.0.version q step.0.reduction field here
        (reduced-version K scripts s step.0.version q solo here) step.0.asked in
        step.0.irreducible x y (same-invertible K q.rest step.0.reduction.rest x y same.rest i)

-- ---- all steps

-- where all commands are done there is no step more
stuck : {F : Type 0} (K : Ops) (scripts : List (List Command)) (event : Event) (s t : State F)
    → IsSoloState K scripts s → ((c : ℕ) → IsDone scripts s.lanes c) → SoloStep K scripts event s t → ⊥
stuck K scripts event s t solo done step =
    let turn = mover K scripts event s t solo step in turn.1.not_done (done turn.0)

solo-same : {F : Type 0} (K : Ops) (scripts : List (List Command)) (events others : List Event) (s m n : State F)
    → IsField K → IsSoloState K scripts s → Leads (SoloStep {F = F} K scripts) events s m
    → Leads (SoloStep {F = F} K scripts) others s n → ((c : ℕ) → IsDone scripts m.lanes c)
    → ((c : ℕ) → IsDone scripts n.lanes c) → events ≡ others
solo-same K scripts [] [] s m n field solo a b done end = refl
solo-same K scripts [] (f ∷ fs) s m n field solo a b done end =
    absurd (stuck K scripts f s b.0 solo (subst (λ u. (c : ℕ) → IsDone scripts u.lanes c) (sym a) done) b.1)
solo-same K scripts (e ∷ es) [] s m n field solo a b done end =
    absurd (stuck K scripts e s a.0 solo (subst (λ u. (c : ℕ) → IsDone scripts u.lanes c) (sym b) end) a.1)
solo-same {F} K scripts (e ∷ es) (f ∷ fs) s m n field solo a b done end =
    let one = solo-unique K scripts e f s a.0 b.0 field solo a.1 b.1 in
    ap₂ (λ x xs. x ∷ xs) one.0
    (solo-same K scripts es fs a.0 m n field (next-solo K scripts e s a.0 field solo a.1) a.2
    (subst (λ u. Leads (SoloStep {F = F} K scripts) fs u n) (sym one.1) b.2) done end)

pub solo_orders_are_equal : {F : Type 0} (K : Ops) (scripts : List (List Command)) (sheaf : SheafData F)
    (first second : List Event) → IsField K → IsComplex sheaf.complex → IsSheafOver K sheaf
    → IsSoloOrder K scripts sheaf first → IsSoloOrder K scripts sheaf second → first ≡ second
solo_orders_are_equal K scripts sheaf first second field complex is a b =
    solo-same K scripts first second (first_state sheaf) a.last b.last field
    (first-solo K scripts sheaf (record { complex = complex; sheaf = is })) a.legal b.legal a.whole b.whole
