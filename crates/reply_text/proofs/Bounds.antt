-- No more commands end, and no more edits are accepted, than the scripts have.
use Rattle.std.proofs.Common.{◌≡◌, ℕ, zero, suc, ◌+◌, ◌<◌, ◌≤◌, ◌^◌, ⊎_elim, Bool, true, false, List, [], ◌∷◌}
use Rattle.std.proofs.Common.{◌++◌, Some, None, Option, slice_get, get_or, length, take, fold}
use Rattle.std.proofs.Common.{if◌then◌else◌, refl, sym, ap, subst, ◌∙◌, arith, zero-add, add-zero}
use Rattle.std.specs.Prelude.{All, IfSome, sum_by}
use Rattle.std.proofs.lemmas.Option.{slice_get_within, slice_get-get_or, get_or_from_slice_get}
use Rattle.std.proofs.lemmas.List.Elements.{All-from_get_or}
use Rattle.std.proofs.lemmas.List.Sums.{sum_by-cons, get_or-le-sum_by}
use Rattle.std.proofs.lemmas.Bool.{cases_lt, eq-eqb}
use Rattle.std.proofs.Math.Seq.{take-suc, take-length}
use Rattle.sheaf_words.specs.declared.query.Command.{Command}
use Rattle.sheaf_words.specs.declared.event.Event.{Event}
use Rattle.sheaf_words.specs.declared.event.Event.TheVariants.{Edit, Ask, Pair, Reply}
use Rattle.sheaf_words.specs.declared.edit.Verdict.TheVariants.{Accepted, Refused}
use Rattle.reply_text.specs.Transcripts.{ends_for, ended_count, is_accepted}
use Rattle.reply_text.specs.Parts.{current_version}
use Rattle.reply_text.specs.ClientEvents.{client_of, IfPresent, AreOf, AreAnswered, IsAnswerTo}
use Rattle.reply_text.specs.Counts.{IsCountOf, AreCounted}
use Rattle.reply_text.specs.declared.counts.Counts.{Counts}
use Rattle.reply_text.proofs.Counting.{step, count-more}
use Rattle.reply_text.proofs.Naming.{answered-of, clients-of}

-- ---- of some of the first events no more are counted than of all

fold-grows : {X : Type 0} (p : X → Bool) (n : ℕ) (xs : List X) → n ≤ fold (step p) n xs
fold-grows p n [] = omega arith
fold-grows p n (x ∷ xs) = omega (arith, fold-grows p (step p n x) xs)

fold-take : {X : Type 0} (p : X → Bool) (n i : ℕ) (xs : List X) → fold (step p) n (take i xs) ≤ fold (step p) n xs
fold-take p n zero xs = fold-grows p n xs
fold-take p n (suc i) [] = omega arith
fold-take p n (suc i) (x ∷ xs) = fold-take p (step p n x) i xs

-- one where it is so
abbrev number_of : Bool → ℕ
number_of b = if b then 1 else 0

-- ---- the commands of one client

present-inside : {X : Type 0} (P : X → Type 0) (xs : List X) (i : ℕ) (o : Option X) → slice_get xs i ≡ o
    → IfPresent o P → i < length xs
present-inside P xs i None e h = absurd (h)
present-inside P xs i (Some x) e h = slice_get_within xs i x e

ended-next : (c : ℕ) (script : List Command) (events : List Event) (event : Event) (b : Bool) → ends_for c event ≡ b
    → ended_count c events ≤ length script
    → (ends_for c event ≡ true
    → IfPresent (slice_get script (ended_count c events)) (λ command. IsAnswerTo command event))
    → ended_count c (events ++ event ∷ []) ≤ length script
ended-next c script events event true e low answers =
    let inside : ended_count c events < length script = present-inside (λ command. IsAnswerTo command event) script
    (ended_count c events) (slice_get script (ended_count c events)) refl (answers e) in
    let one : number_of (ends_for c event) ≡ 1 = ap number_of e in
    omega (arith, count-more (ends_for c) events event, one, inside)
ended-next c script events event false e low answers =
    let none : number_of (ends_for c event) ≡ 0 = ap number_of e in
    omega (arith, count-more (ends_for c) events event, none, low)

pub ended-short : (c : ℕ) (script : List Command) (events : List Event) (i : ℕ) → i ≤ length events
    → AreAnswered c script events → ended_count c (take i events) ≤ length script
ended-short c script events zero inside h = omega arith
ended-short c script events (suc i) inside h =
    let event = get_or events i (Ask 0) in
    let there : slice_get events i ≡ Some event = slice_get-get_or events i (Ask 0) (omega arith) in
    let more : take (suc i) events ≡ take i events ++ event ∷ [] = take-suc events i (Ask 0) (omega arith) in
    subst (λ es. ended_count c es ≤ length script) (sym more)
    (ended-next c script (take i events) event (ends_for c event) refl
    (ended-short c script events i (omega arith) h) (h i event there))

-- ---- the commands of all clients

-- how many commands the clients from c on have ended
abbrev ended_together : ℕ → List (List Command) → List Event → ℕ
ended_together c [] events = 0
ended_together c (script ∷ scripts) events = ended_count c events + ended_together (c + 1) scripts events

-- how many of them the event ends
abbrev ends_together : ℕ → List (List Command) → Event → ℕ
ends_together c [] event = 0
ends_together c (script ∷ scripts) event = number_of (ends_for c event) + ends_together (c + 1) scripts event

together-more : (c : ℕ) (scripts : List (List Command)) (events : List Event) (event : Event)
    → ended_together c scripts (events ++ event ∷ [])
    ≡ ended_together c scripts events + ends_together c scripts event
together-more c [] events event = refl
together-more c (script ∷ scripts) events event =
    omega (arith, count-more (ends_for c) events event, together-more (c + 1) scripts events event)

ends-one : (c d : ℕ) (scripts : List (List Command)) (event : Event) → ends_for d event ≡ true → c ≤ d
    → d < c + length scripts → 1 ≤ ends_together c scripts event
ends-one c d [] event ends low high = absurd (omega arith)
ends-one c d (script ∷ scripts) event ends low high =
    ⊎_elim (λ (l : c < d). after (ends-one (c + 1) d scripts event ends (omega arith) (omega arith))) here
    (cases_lt c d)
  where
    after : 1 ≤ ends_together (c + 1) scripts event → 1 ≤ ends_together c (script ∷ scripts) event
    after rest = omega (arith, rest)

    here : d ≤ c → 1 ≤ ends_together c (script ∷ scripts) event
    here l =
        let same : c ≡ d = omega arith in
        let one : number_of (ends_for c event) ≡ 1 = ap number_of (ap (λ k. ends_for k event) same ∙ ends) in
        omega (arith, one)

accepted-ends : (scripts : List (List Command)) (event : Event) → IfSome (client_of event) (λ c. c < length scripts)
    → number_of (is_accepted event) ≤ ends_together 0 scripts event
accepted-ends scripts (Edit c Accepted) known = ends-one 0 c scripts (Edit c Accepted) (eq-eqb c c refl) (omega arith)
    (omega (arith, known))
accepted-ends scripts (Edit c (Refused cause)) known = omega arith
accepted-ends scripts (Ask c) known = omega arith
accepted-ends scripts (Pair v x y) known = omega arith
accepted-ends scripts (Reply c r) known = omega arith

versions-together : (scripts : List (List Command)) (events : List Event) (i : ℕ) → i ≤ length events
    → All (λ event. IfSome (client_of event) (λ c. c < length scripts)) events
    → current_version (take i events) ≤ ended_together 0 scripts (take i events)
versions-together scripts events zero inside known = omega arith
versions-together scripts events (suc i) inside known =
    let event = get_or events i (Ask 0) in
    let more : take (suc i) events ≡ take i events ++ event ∷ [] = take-suc events i (Ask 0) (omega arith) in
    let before = versions-together scripts events i (omega arith) known in
    subst (λ es. current_version es ≤ ended_together 0 scripts es) (sym more)
    (omega (
      arith,
      before,
      count-more is_accepted (take i events) event,
      together-more 0 scripts (take i events) event,
      accepted-ends scripts event (known i (Ask 0) (omega arith)),
    ))

together-short : (c : ℕ) (scripts : List (List Command)) (events : List Event)
    → ((d : ℕ) (script : List Command) → slice_get scripts d ≡ Some script
    → ended_count (c + d) events ≤ length script)
    → ended_together c scripts events ≤ sum_by length scripts
together-short c [] events h = omega arith
together-short c (script ∷ scripts) events h =
    let first : ended_count c events ≤ length script = subst (λ k. ended_count k events ≤ length script) (add-zero c)
    (h 0 script refl) in
    let rest = together-short (c + 1) scripts events (λ d s e. let next : c + suc d ≡ (c + 1) + d = omega arith in
    subst (λ k. ended_count k events ≤ length s) next (h (suc d) s e)) in
    omega (arith, first, rest, sum_by-cons length script scripts)

-- fewer edits are accepted than the scripts have commands
pub versions-short : (scripts : List (List Command)) (events : List Event) → AreOf scripts events
    → current_version events ≤ sum_by length scripts
versions-short scripts events h =
    let n = length events in
    let whole : take n events ≡ events = take-length events in
    let together = versions-together scripts events n (omega arith) (clients-of scripts events h) in
    let short = together-short 0 scripts (take n events) (λ d script e. subst (λ k. ended_count k (take n events)
    ≤ length script) (sym (zero-add d))
    (ended-short d script events n (omega arith) (answered-of scripts events d script e h))) in
    subst (λ es. current_version es ≤ sum_by length scripts) whole (omega (arith, together, short))

-- ---- what is counted fits

pub script-short : (scripts : List (List Command)) (c : ℕ) (script : List Command) → slice_get scripts c ≡ Some script
    → length script ≤ sum_by length scripts
script-short scripts c script there =
    subst (λ (s : List Command). length s ≤ sum_by length scripts) (get_or_from_slice_get scripts c script script there)
    (get_or-le-sum_by length scripts c script (slice_get_within scripts c script there))

pub ended-fits : (c : ℕ) (script : List Command) (events : List Event) (i : ℕ) (counts : Counts)
    → AreAnswered c script events → IsCountOf c (take i events) counts → i < length events
    → length script + 1 < 2 ^ 32 → counts.ended + 1 < 2 ^ 32
ended-fits c script events i counts answered h inside few =
    omega (arith, h.ended_is, ended-short c script events i (omega arith) answered, few)

pub standing-fits : (c : ℕ) (events : List Event) (i : ℕ) (counts : Counts) → IsCountOf c (take i events) counts
    → current_version events + 1 < 2 ^ 32 → counts.standing + 1 < 2 ^ 32
standing-fits c events i counts h few =
    let low : current_version (take i events) ≤ current_version events = fold-take is_accepted 0 i events in
    omega (arith, h.standing_is, low, few)

pub counts-fit : (scripts : List (List Command)) (events : List Event) (i : ℕ) (counts : List ℕ) → AreOf scripts events
    → AreCounted (take i events) counts → length counts ≡ length scripts → i < length events
    → sum_by length scripts + 1 < 2 ^ 32 → All (λ n. n + 1 < 2 ^ 32) counts
counts-fit scripts events i counts of h size inside few = All-from_get_or (λ n. n + 1 < 2 ^ 32) counts 0 (λ c l.
    let script = get_or scripts c [] in
    let there : slice_get scripts c ≡ Some script = slice_get-get_or scripts c [] (omega arith) in
    let short = ended-short c script events i (omega arith) (answered-of scripts events c script there of) in
    omega (arith, h c l, short, get_or-le-sum_by length scripts c [] (omega arith), few))
