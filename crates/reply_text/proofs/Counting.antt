-- What one event more changes of what is counted.
use Rattle.std.proofs.Common.{◌≡◌, ℕ, ◌+◌, ◌<◌, length, take, get_or, add-one, Bool, true, false, List, [], ◌∷◌, ◌++◌}
use Rattle.std.proofs.Common.{count_by, fold, if◌then◌else◌, refl, sym, ap, ap₂, ◌∙◌, arith}
use Rattle.std.proofs.Math.Seq.{take-suc}
use Rattle.sheaf_words.specs.declared.edit.Verdict.TheVariants.{Accepted, Refused}
use Rattle.sheaf_words.specs.declared.event.Event.{Event}
use Rattle.sheaf_words.specs.declared.event.Event.TheVariants.{Edit, Ask, Pair, Reply}
use Rattle.reply_text.specs.declared.counts.Counts.{Counts}
use Rattle.reply_text.specs.Transcripts.{ends_for, is_accepted, asked_from}
use Rattle.reply_text.specs.Parts.{asks_for, current_version, asked_version}
use Rattle.reply_text.specs.Counts.{IsCountOf}

-- one more, counted
abbrev pub step : {X : Type 0} → (X → Bool) → ℕ → X → ℕ
step p n x = n + (if p x then 1 else 0)

fold-more : {X : Type 0} (f : ℕ → X → ℕ) (n : ℕ) (xs : List X) (x : X) → fold f n (xs ++ x ∷ []) ≡ f (fold f n xs) x
fold-more f n [] x = refl
fold-more f n (y ∷ xs) x = fold-more f (f n y) xs x

pub count-more : {X : Type 0} (p : X → Bool) (xs : List X) (x : X) → count_by p (xs ++ x ∷ []) ≡ count_by p xs
    + (if p x then 1 else 0)
count-more p xs x = fold-more (step p) 0 xs x

-- what the first event changes: an accepted edit the version that stands, a question of the client its last one
asked_from-first : (c n v : ℕ) (event : Event) (events : List Event)
    → asked_from c n v (event ∷ events)
    ≡ asked_from c (if is_accepted event then n + 1 else n) (if asks_for c event then n else v) events
asked_from-first c n v (Edit d Accepted) events = refl
asked_from-first c n v (Edit d (Refused cause)) events = refl
asked_from-first c n v (Ask d) events = refl
asked_from-first c n v (Pair w x y) events = refl
asked_from-first c n v (Reply d r) events = refl

-- the version of the last question: the one that stands, if the event is a question of the client
asked_from-more : (c n v : ℕ) (events : List Event) (event : Event)
    → asked_from c n v (events ++ event ∷ [])
    ≡ (if asks_for c event then fold (step is_accepted) n events else asked_from c n v events)
asked_from-more c n v [] event = asked_from-first c n v event []
asked_from-more c n v (x ∷ events) event =
    let m = if is_accepted x then n + 1 else n in
    let w = if asks_for c x then n else v in
    asked_from-first c n v x (events ++ event ∷ []) ∙ asked_from-more c m w events event
    ∙ ap₂ (λ k asked. if asks_for c event then fold (step is_accepted) k events else asked)
    (counted (is_accepted x)) (sym (asked_from-first c n v x events))
  where
    counted : (b : Bool) → (if b then n + 1 else n) ≡ n + (if b then 1 else 0)
    counted true = refl
    counted false = omega arith

pub asked-more : (c : ℕ) (events : List Event) (event : Event)
    → asked_version c (events ++ event ∷ [])
    ≡ (if asks_for c event then current_version events else asked_version c events)
asked-more c events event = asked_from-more c 0 0 events event

-- the counts after one event more
pub counted-more : (c : ℕ) (event : Event) (counts after : Counts) (a b : ℕ)
    → a ≡ (if ends_for c event then 1 else 0) → b ≡ (if is_accepted event then 1 else 0)
    → after.ended ≡ counts.ended + a → after.standing ≡ counts.standing + b
    → after.asked ≡ (if asks_for c event then counts.standing else counts.asked)
    → (events : List Event) → IsCountOf c events counts → IsCountOf c (events ++ event ∷ []) after
counted-more c event counts after a b ea eb ended current_version asked_version events h = record {
  ended_is = ended ∙ ap₂ (λ x y. x + y) h.ended_is ea ∙ sym (count-more (ends_for c) events event);
  standing_is = current_version ∙ ap₂ (λ x y. x + y) h.standing_is eb ∙ sym (count-more is_accepted events event);
  asked_is = asked_version ∙ ap₂ (λ x y. if asks_for c event then x else y) h.standing_is h.asked_is
      ∙ sym (asked-more c events event);
}

-- one more member of a list
pub take_next : {X : Type 0} (xs : List X) (i : ℕ) (x : X) → i < length xs → x ≡ get_or xs i x
    → take (i + 1) xs ≡ take i xs ++ x ∷ []
take_next xs i x l e = ap (λ k. take k xs) (add-one i) ∙ take-suc xs i x l ∙ ap (λ y. take i xs ++ y ∷ []) (sym e)

pub take_at : {X : Type 0} (xs : List X) (i : ℕ) (d : X) → i < length xs
    → take (i + 1) xs ≡ take i xs ++ get_or xs i d ∷ []
take_at xs i d l = ap (λ k. take k xs) (add-one i) ∙ take-suc xs i d l
