-- The Betti numbers of a version are the same in each reply.
use Rattle.std.proofs.Common.{◌≡◌, ℕ, zero, suc, ◌<◌, List, [], ◌∷◌, ◌++◌, take, slice_get, Some}
use Rattle.std.proofs.Common.{length, sym, ap, subst, ◌∙◌, arith, append_assoc, append-nil, length-append}
use Rattle.std.proofs.Math.ListN.{get_or-append}
use Rattle.std.proofs.lemmas.List.Elements.{All-nil, All-cons}
use Rattle.std.proofs.lemmas.Option.{slice_get_within, slice_get-get_or, get_or_from_slice_get, same_Some, none-some}
use Rattle.cell_complex.specs.Invariants.{IsComplex}
use Rattle.dense_blocks.specs.Field.{Ops}
use Rattle.dense_blocks.specs.FieldLaws.{IsField}
use Rattle.cochain_vec.specs.Cohomology.{AreDimensions}
use Rattle.sheaf_data.specs.Sheaves.{SheafData}
use Rattle.sheaf_data.specs.Betti.{cochain_complex_of, degree_count}
use Rattle.sheaf_words.specs.declared.query.Query.{Query}
use Rattle.sheaf_words.specs.declared.query.Query.TheVariants as queries
use Rattle.sheaf_words.specs.declared.query.Command.{Command}
use Rattle.sheaf_words.specs.declared.edit.Edit.{Edit as Change}
use Rattle.sheaf_words.specs.declared.edit.Verdict.{Verdict}
use Rattle.sheaf_words.specs.declared.edit.Verdict.TheVariants.{Accepted, Refused}
use Rattle.sheaf_words.specs.declared.reply.Reply.TheVariants as replies
use Rattle.sheaf_words.specs.declared.event.Event.{Event}
use Rattle.sheaf_words.specs.declared.event.Event.TheVariants.{Edit, Ask, Pair, Reply}
use Rattle.reply_text.specs.Parts.{asked_version}
use Rattle.core_machine.specs.Replies.{Reduction, IsRightReply}
use Rattle.core_machine.specs.Machine.{State, AreVersionsAfter, ReplyStep, Step, Leads}
use Rattle.core_machine.specs.Legal.{first_state, IsLegal}
use Rattle.core_machine.specs.Counts.{lane_pending, IsCounted}
use Rattle.core_machine.proofs.CountLaws.{counted-step, counted-first}
use Rattle.core_machine.proofs.SheafLaws.{IsSheafOver, IsVersion, version-at, all-from, edits-keep-version}
use Rattle.core_machine.proofs.ReplyLaws.{one-betti}

-- ---- versions stay

slice_get-after : {X : Type 0} (xs ys : List X) (v : ℕ) (x : X) → slice_get xs v ≡ Some x
    → slice_get (xs ++ ys) v ≡ Some x
slice_get-after xs ys v x at =
    let inside : v < length xs = slice_get_within xs v x at in
    slice_get-get_or (xs ++ ys) v x (omega (arith, inside, length-append xs ys))
    ∙ ap Some (get_or-append xs ys x v inside ∙ get_or_from_slice_get xs v x x at)

version-edit : {F : Type 0} (K : Ops) (sheaf : SheafData F) (edit : Change) (verdict : Verdict)
    (old new : List (SheafData F)) (v : ℕ) (d : SheafData F) → AreVersionsAfter K sheaf edit verdict old new
    → slice_get old v ≡ Some d → slice_get new v ≡ Some d
version-edit {F} K sheaf edit Accepted old new v d h at =
    ap (λ (ds : List (SheafData F)). slice_get ds v) h.2 ∙ slice_get-after old (h.0 ∷ []) v d at
version-edit {F} K sheaf edit (Refused cause) old new v d h at =
    ap (λ (ds : List (SheafData F)). slice_get ds v) h ∙ at

version-step : {F : Type 0} (K : Ops) (scripts : List (List Command)) (event : Event) (s t : State F) (v : ℕ)
    (d : SheafData F) → Step K scripts event s t → slice_get s.sheaves v ≡ Some d → slice_get t.sheaves v ≡ Some d
version-step K scripts (Edit c verdict) s t v d step at =
    version-edit K step.sheaf step.edit verdict s.sheaves t.sheaves v d step.versions at
version-step K scripts (Ask c) s t v d step at = ap (λ ds. slice_get ds v) step.versions ∙ at
version-step K scripts (Pair w x y) s t v d step at = ap (λ ds. slice_get ds v) step.versions ∙ at
version-step K scripts (Reply c r) s t v d step at = ap (λ ds. slice_get ds v) step.versions ∙ at

version-from : {F : Type 0} (K : Ops) (scripts : List (List Command)) (events : List Event) (s t : State F) (v : ℕ)
    (d : SheafData F) → Leads (Step {F = F} K scripts) events s t → slice_get s.sheaves v ≡ Some d
    → slice_get t.sheaves v ≡ Some d
version-from K scripts [] s t v d leads at = subst (λ m. slice_get m.sheaves v ≡ Some d) leads at
version-from K scripts (event ∷ events) s t v d leads at =
    version-from K scripts events leads.0 t v d leads.2 (version-step K scripts event s leads.0 v d leads.1 at)

-- ---- what a reply says

-- these are the Betti numbers of version v
record AreBetti {F : Type 0} (K : Ops) (s : State F) (v : ℕ) (numbers : List ℕ) : Type 0 where
  sheaf : SheafData F
  version : slice_get s.sheaves v ≡ Some sheaf
  dimensions : AreDimensions K (cochain_complex_of K sheaf.complex sheaf.stalks sheaf.blocks)
      (degree_count sheaf.complex.dims) numbers

right-betti : (K : Ops) (r : Reduction) (query : Query) (numbers : List ℕ)
    → IsRightReply K r query (replies.Betti numbers) → AreDimensions K r.whole r.degrees numbers
right-betti K r queries.Betti numbers right = right
right-betti K r query numbers right = absurd right

betti-step : {F : Type 0} (K : Ops) (scripts : List (List Command)) (earlier : List Event) (c : ℕ) (numbers : List ℕ)
    (s t : State F) → ReplyStep K scripts c (replies.Betti numbers) s t → IsCounted earlier s
    → AreBetti K s (asked_version c earlier) numbers
betti-step {F} K scripts earlier c numbers s t step h =
    let r = step.reduction in
    let asked : step.version ≡ asked_version c earlier =
    h.pendings c step.version (ap lane_pending step.is_waiting) in
    subst (λ v. AreBetti K s v numbers) asked (record {
      sheaf = step.asked.sheaf;
      version = step.asked.version;
      dimensions = subst (λ W. AreDimensions K W (degree_count step.asked.sheaf.complex.dims) numbers) step.asked.whole
          (subst (λ n. AreDimensions K r.whole n numbers) step.asked.degrees
          (right-betti K r step.query numbers step.right));
    })

betti-after : {F : Type 0} (K : Ops) (scripts : List (List Command)) (events : List Event) (s t : State F) (v : ℕ)
    (numbers : List ℕ) → Leads (Step {F = F} K scripts) events s t → AreBetti K s v numbers → AreBetti K t v numbers
betti-after K scripts events s t v numbers leads h = record {
  sheaf = h.sheaf;
  version = version-from K scripts events s t v h.sheaf leads h.version;
  dimensions = h.dimensions;
}

-- the numbers of a reply among these events are those of its version at the end
betti-from : {F : Type 0} (K : Ops) (scripts : List (List Command)) (earlier events : List Event) (s t : State F)
    → Leads (Step {F = F} K scripts) events s t → IsCounted earlier s → (i c : ℕ) (numbers : List ℕ)
    → slice_get events i ≡ Some (Reply c (replies.Betti numbers))
    → AreBetti K t (asked_version c (earlier ++ take i events)) numbers
betti-from K scripts earlier [] s t leads h i c numbers at = absurd (none-some (Reply c (replies.Betti numbers)) at)
betti-from {F} K scripts earlier (first ∷ events) s t leads h zero c numbers at =
    subst (λ es. AreBetti K t (asked_version c es) numbers) (sym (append-nil earlier))
    (betti-after K scripts (first ∷ events) s t (asked_version c earlier) numbers leads
    (betti-step K scripts earlier c numbers s leads.0
    (subst (λ e. Step K scripts e s leads.0) (same_Some first (Reply c (replies.Betti numbers)) at) leads.1) h))
betti-from K scripts earlier (first ∷ events) s t leads h (suc i) c numbers at =
    subst (λ es. AreBetti K t (asked_version c es) numbers) (append_assoc earlier (first ∷ []) (take i events))
    (betti-from K scripts (earlier ++ first ∷ []) events leads.0 t leads.2
    (counted-step K scripts earlier first s leads.0 leads.1 h) i c numbers at)

pub betti_replies_agree : {F : Type 0} (K : Ops) (scripts : List (List Command)) (sheaf : SheafData F)
    (events : List Event) (s : State F) → IsField K → IsComplex sheaf.complex → IsSheafOver K sheaf
    → IsLegal K scripts sheaf events s
    → (i j c d : ℕ) (m n : List ℕ) → slice_get events i ≡ Some (Reply c (replies.Betti m))
    → slice_get events j ≡ Some (Reply d (replies.Betti n))
    → asked_version c (take i events) ≡ asked_version d (take j events) → m ≡ n
betti_replies_agree {F} K scripts sheaf events s field complex is legal i j c d m n at there versions =
    one-betti K a.sheaf (degree_count a.sheaf.complex.dims) m n field known a.dimensions
    (subst (λ (e : SheafData F). AreDimensions K (cochain_complex_of K e.complex e.stalks e.blocks)
    (degree_count e.complex.dims) n) same b.dimensions)
  where
    numbers : (k e : ℕ) (p : List ℕ) → slice_get events k ≡ Some (Reply e (replies.Betti p))
        → AreBetti K s (asked_version e (take k events)) p
    numbers k e p h = betti-from K scripts [] events (first_state sheaf) s legal (counted-first sheaf) k e p h

    a : AreBetti K s (asked_version c (take i events)) m
    a = numbers i c m at

    b : AreBetti K s (asked_version c (take i events)) n
    b = subst (λ v. AreBetti K s v n) (sym versions) (numbers j d n there)

    same : b.sheaf ≡ a.sheaf
    same = same_Some b.sheaf a.sheaf (sym b.version ∙ a.version)

    known : IsVersion K a.sheaf
    known = version-at (IsVersion K) s.sheaves (asked_version c (take i events)) a.sheaf a.version
        (all-from (IsVersion K) K scripts events (first_state sheaf) s (edits-keep-version K field) legal
        (All-cons (IsVersion K) sheaf [] (record { complex = complex; sheaf = is }) (All-nil (IsVersion K))))
