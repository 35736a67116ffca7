-- What is known after a line of a client.
use Rattle.std.proofs.Common.{◌≡◌, ℕ, true, List, [], ◌∷◌, ◌++◌, refl, ap, ◌∙◌, Some}
use Rattle.sheaf_words.specs.declared.query.Command.TheVariants.{Change, Ask}
use Rattle.sheaf_words.specs.declared.query.Query.{Query}
use Rattle.sheaf_words.specs.declared.edit.Set.{Set}
use Rattle.sheaf_text.specs.Grammar.{Known}
use Rattle.sheaf_text.specs.Readings.{with_last, command_with_set, with_query, advance}
use Rattle.sheaf_text.specs.Forms.{is_query_kind, query_of, set_of, is_set_kind, into_last}
use Rattle.sheaf_text.specs.Parts.{IsClosed}
use Rattle.sheaf_text.specs.Scripts.{AddsQuery, OpensEdit, AddsSet}
use Rattle.sheaf_text.specs.State.{known_by, IsSoundState, TakesKind}
use Rattle.sheaf_text.specs.declared.line.Kind.{Kind}
use Rattle.sheaf_text.specs.declared.line.Kind.TheVariants as kinds
use Rattle.sheaf_text.specs.declared.line.Stage.TheVariants as stages
use Rattle.sheaf_text.specs.declared.scripts.Scripts.{Scripts}
use Rattle.sheaf_text.specs.declared.state.State.{State}

with_last-append : {A : Type 0} (f : A → A) (xs : List A) (x : A) → with_last f (xs ++ x ∷ []) ≡ xs ++ f x ∷ []
with_last-append f [] x = refl
with_last-append f (y ∷ []) x = refl
with_last-append f (y ∷ z ∷ xs) x = ap (λ rest. y ∷ rest) (with_last-append f (z ∷ xs) x)

with_query-advances : (k : Known) (kind : Kind) (ws : List (List ℕ)) → is_query_kind kind ≡ true
    → with_query k (query_of kind ws) ≡ advance k (Some kind) ws
with_query-advances k kinds.Betti ws e = refl
with_query-advances k kinds.Reduce ws e = refl
with_query-advances k kinds.Equiv ws e = refl
with_query-advances k kinds.Basis ws e = refl
with_query-advances k kinds.Class ws e = refl
with_query-advances k kinds.Sections ws e = refl
with_query-advances k kinds.Extend ws e = refl
with_query-advances k kind ws e = absurd cc

known-with_query : (old : State) (scripts : Scripts) (q : Query) → old.stage ≡ stages.InClient
    → AddsQuery old.scripts scripts q
    → known_by (record { stage = old.stage; parts = old.parts; scripts = scripts }) ≡ with_query (known_by old) q
known-with_query old scripts q at a =
    rw (
      at,
      a.ended_same,
      a.commands_more,
      a.count_more,
      with_last-append (λ script. script ++ Ask q ∷ []) old.scripts.ended.items old.scripts.commands.items,
    ) refl

pub takes_query : (old : State) (scripts : Scripts) (kind : Kind) (ws : List (List ℕ)) → IsSoundState old
    → is_query_kind kind ≡ true → old.stage ≡ stages.InClient → AddsQuery old.scripts scripts (query_of kind ws)
    → TakesKind old (record { stage = old.stage; parts = old.parts; scripts = scripts }) kind ws
takes_query old scripts kind ws sound asks at a = record {
  sound = record { parts = sound.parts; stands = sound.stands };
  known =
      known-with_query old scripts (query_of kind ws) at a ∙ with_query-advances (known_by old) kind ws asks;
}

pub takes_edit : (old : State) (scripts : Scripts) (ws : List (List ℕ)) → IsSoundState old → IsClosed old.parts
    → old.stage ≡ stages.InClient → OpensEdit old.scripts scripts
    → TakesKind old (record { stage = stages.InEdit; parts = old.parts; scripts = scripts }) kinds.Edit ws
takes_edit old scripts ws sound closed at a = record {
  sound = record { parts = sound.parts; stands = closed };
  known = rw (
    at,
    a.ended_same,
    a.commands_same,
    a.no_sets,
    a.count_more,
    with_last-append (λ script. script ++ Change (record { sets = [] }) ∷ []) old.scripts.ended.items
        old.scripts.commands.items,
  ) refl;
}

-- ---- the lines of changes

-- what is known after a change more
abbrev with_set : Known → Set → Known
with_set k s =
    record k { stage = stages.InEdit; input = record k.input { scripts = into_last k.input.scripts s } }

with_set-advances : (k : Known) (kind : Kind) (ws : List (List ℕ)) → is_set_kind kind ≡ true
    → with_set k (set_of kind ws) ≡ advance k (Some kind) ws
with_set-advances k kinds.Stalk ws e = refl
with_set-advances k kinds.Restrict ws e = refl
with_set-advances k kind ws e = absurd cc

known-with_set : (old : State) (scripts : Scripts) (s : Set) → old.stage ≡ stages.InEdit → AddsSet old.scripts scripts s
    → known_by (record { stage = old.stage; parts = old.parts; scripts = scripts }) ≡ with_set (known_by old) s
known-with_set old scripts s at a =
    rw (
      at,
      a.ended_same,
      a.commands_same,
      a.sets_more,
      a.count_same,
      with_last-append (with_last (command_with_set s)) old.scripts.ended.items
          (old.scripts.commands.items ++ Change (record { sets = old.scripts.sets.items }) ∷ []),
      with_last-append (command_with_set s) old.scripts.commands.items
          (Change (record { sets = old.scripts.sets.items })),
    ) refl

pub takes_set : (old : State) (scripts : Scripts) (kind : Kind) (ws : List (List ℕ)) (s : Set) → IsSoundState old
    → is_set_kind kind ≡ true → old.stage ≡ stages.InEdit → s ≡ set_of kind ws → AddsSet old.scripts scripts s
    → TakesKind old (record { stage = old.stage; parts = old.parts; scripts = scripts }) kind ws
takes_set old scripts kind ws s sound changes at is a = record {
  sound = record { parts = sound.parts; stands = sound.stands };
  known =
      known-with_set old scripts s at a ∙ ap (with_set (known_by old)) is
      ∙ with_set-advances (known_by old) kind ws changes;
}
