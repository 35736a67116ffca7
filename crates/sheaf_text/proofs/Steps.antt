-- One line of the reading, and its end.
use Rattle.std.proofs.Common.{◌≡◌, ℕ, true, false, List, [], ◌∷◌, refl, sym, ap, subst, ◌∙◌, arith, Option}
use Rattle.std.proofs.Common.{Some, None, length, inl, inr}
use Rattle.std.specs.Prelude.{◌==◌, ◌||◌, slice_index}
use Rattle.std.proofs.lemmas.Bool.{eqb-true, or_cases}
use Rattle.field_table.specs.declared.field.Field.{Field}
use Rattle.sheaf_data.specs.Sheaves.{SheafData}
use Rattle.sheaf_words.specs.declared.query.Command.{Command}
use Rattle.sheaf_text.specs.Lines.{word, is_skipped, kind_of}
use Rattle.sheaf_text.specs.Grammar.{Known, refusal, is_ended}
use Rattle.sheaf_text.specs.Readings.{Good, RefusedLine, advance, input_value}
use Rattle.sheaf_text.specs.Forms.{reading_at_end, go_on, content_refusal, known_after}
use Rattle.sheaf_text.specs.Answers.{GivesFault}
use Rattle.sheaf_text.specs.Parts.{IsClosed, IsDraftOf}
use Rattle.sheaf_text.specs.State.{known_by, AreAtStage, IsSoundState, IsReady, IsFound, TakesKind, TakesLine}
use Rattle.sheaf_text.specs.State.{RefusesLine}
use Rattle.sheaf_text.specs.declared.fault.Refusal.{Refusal}
use Rattle.sheaf_text.specs.declared.fault.TextFault.{TextFault}
use Rattle.sheaf_text.specs.declared.line.Kind.{Kind}
use Rattle.sheaf_text.specs.declared.line.Stage.{Stage}
use Rattle.sheaf_text.specs.declared.line.Stage.TheVariants as stages
use Rattle.sheaf_text.specs.declared.state.State.{State}

-- ---- one line

refusal-skipped : (k : Known) (ws : List (List ℕ)) → is_skipped ws ≡ true → refusal k ws ≡ None
unfolding refusal
refusal-skipped k ws e = rw e refl

pub refusal-content : (k : Known) (ws : List (List ℕ)) → is_skipped ws ≡ false
    → refusal k ws ≡ content_refusal k (kind_of (word ws 0)) ws
unfolding refusal
refusal-content k ws e = rw e refl

-- the first word of a line that is skipped names no kind
kind_of-skipped : (w : List ℕ) → ((length w == 0) || (slice_index w 0 == 35)) ≡ true → kind_of w ≡ None
kind_of-skipped [] e = refl
kind_of-skipped (b ∷ w) e =
    elim (or_cases (length (b ∷ w) == 0) (b == 35) e) [
      | inl empty ↦ let none = eqb-true (length (b ∷ w)) 0 empty in absurd (omega arith)
      | inr mark ↦ ap (λ c. kind_of (c ∷ w)) (eqb-true b 35 mark)
    ]

pub known_after-skipped : (k : Known) (ws : List (List ℕ)) → is_skipped ws ≡ true → known_after k ws ≡ k
unfolding known_after
known_after-skipped k ws e = ap (λ o. advance k o ws) (kind_of-skipped (word ws 0) e)

known_after-content : (k : Known) (ws : List (List ℕ)) → known_after k ws ≡ advance k (kind_of (word ws 0)) ws
unfolding known_after
known_after-content k ws = refl

pub takes_skipped : (s : State) (ws : List (List ℕ)) → IsSoundState s → is_skipped ws ≡ true → TakesLine s s ws
takes_skipped s ws sound e = record {
  accepted = refusal-skipped (known_by s) ws e;
  sound = sound;
  known = sym (known_after-skipped (known_by s) ws e);
}

module _ (old ready : State) (ws : List (List ℕ)) (kind : Option Kind) (content : is_skipped ws ≡ false)
    (is : kind ≡ kind_of (word ws 0)) (same : IsReady old ready kind) where
  refusal-ready : refusal (known_by old) ws ≡ content_refusal (known_by ready) kind ws
  refusal-ready =
      refusal-content (known_by old) ws content ∙ ap (λ o. content_refusal (known_by old) o ws) (sym is)
      ∙ ap (λ k. content_refusal k kind ws) (sym same.known)

  pub takes_content : (new : State) (found : Kind) → IsFound (known_by ready) kind ws found
      → TakesKind ready new found ws → TakesLine old new ws
  takes_content new found f takes = record {
    accepted = refusal-ready ∙ f.not_refused;
    sound = takes.sound;
    known =
        takes.known ∙ ap (λ k. advance k (Some found) ws) same.known
        ∙ ap (λ o. advance (known_by old) o ws) (sym f.kind_is ∙ is) ∙ sym (known_after-content (known_by old) ws);
  }

  pub refuses_content : (line : ℕ) (r : Refusal) (fault : TextFault) → content_refusal (known_by ready) kind ws ≡ Some r
      → GivesFault fault (RefusedLine line r) → RefusesLine old line ws fault
  refuses_content line r fault e gives later = subst (λ reading. GivesFault fault reading)
      (sym (ap (λ o. go_on o line later) (refusal-ready ∙ e))) gives

-- ---- the end

is_ended-true : (s : Stage) → is_ended s ≡ true → s ≡ stages.Ended
is_ended-true stages.Ended e = refl
is_ended-true s e = absurd cc

pub ending-good : (s : State) (d : SheafData Field) (scripts : List (List Command)) (line : ℕ) → IsSoundState s
    → is_ended s.stage ≡ true → IsDraftOf s.parts d → scripts ≡ s.scripts.ended.items → reading_at_end (known_by s) line
    ≡ Good (input_value (record { draft = d; scripts = scripts }))
ending-good s d scripts line sound e draft is =
    let at = is_ended-true s.stage e in
    let closed : IsClosed s.parts = subst (λ stage. AreAtStage stage s.parts) at sound.stands in
    rw (
      at,
      is,
      draft.complex_is,
      draft.field_is,
      draft.stalks_are,
      draft.blocks_are,
      closed,
    ) refl
