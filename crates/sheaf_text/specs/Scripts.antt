-- What the lines so far say of the clients, as the reader keeps it.
use Rattle.std.specs.Prelude.{◌≡◌, ◌+◌, Bool, [], ◌∷◌, ◌++◌, if◌then◌else◌}
use Rattle.sheaf_words.specs.declared.query.Command.TheVariants.{Change, Ask}
use Rattle.sheaf_words.specs.declared.query.Query.{Query}
use Rattle.sheaf_words.specs.declared.edit.Set.{Set}
use Rattle.sheaf_text.specs.declared.scripts.Scripts.{Scripts}

pub record AreNone (s : Scripts) : Type 0 where
  pub no_ended : s.ended.items ≡ []
  pub no_commands : s.commands.items ≡ []
  pub no_count : s.count ≡ 0

pub record EndsScript (old new : Scripts) (is_open : Bool) : Type 0 where
  pub ended_is : new.ended.items ≡ (if is_open then old.ended.items ++ old.commands.items ∷ [] else old.ended.items)
  pub no_commands : new.commands.items ≡ []
  pub count_same : new.count ≡ old.count

pub record AddsQuery (old new : Scripts) (q : Query) : Type 0 where
  pub ended_same : new.ended.items ≡ old.ended.items
  pub commands_more : new.commands.items ≡ old.commands.items ++ Ask q ∷ []
  pub count_more : new.count ≡ old.count + 1

pub record OpensEdit (old new : Scripts) : Type 0 where
  pub ended_same : new.ended.items ≡ old.ended.items
  pub commands_same : new.commands.items ≡ old.commands.items
  pub no_sets : new.sets.items ≡ []
  pub count_more : new.count ≡ old.count + 1

pub record AddsSet (old new : Scripts) (s : Set) : Type 0 where
  pub ended_same : new.ended.items ≡ old.ended.items
  pub commands_same : new.commands.items ≡ old.commands.items
  pub sets_more : new.sets.items ≡ old.sets.items ++ s ∷ []
  pub count_same : new.count ≡ old.count

pub record ClosesEdit (old new : Scripts) : Type 0 where
  pub ended_same : new.ended.items ≡ old.ended.items
  pub commands_more : new.commands.items ≡ old.commands.items ++ Change (record { sets = old.sets.items }) ∷ []
  pub count_same : new.count ≡ old.count
