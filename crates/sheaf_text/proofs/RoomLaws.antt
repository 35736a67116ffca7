-- What is counted of the room that replies may need, one member more at a time.
use Rattle.std.proofs.Common.{◌≡◌, ℕ, ◌+◌, ◌<◌, min, List, [], ◌∷◌}
use Rattle.std.proofs.Common.{◌++◌, length, take, get_or, add-one, refl, sym, ap, subst, ◌∙◌, arith}
use Rattle.std.proofs.Math.Seq.{take-suc}
use Rattle.std.specs.Prelude.{sum_by}
use Rattle.std.proofs.lemmas.List.Sums.{sum_by_push}
use Rattle.sheaf_words.specs.declared.query.Command.{Command}
use Rattle.sheaf_words.specs.declared.query.Command.TheVariants.{Change}
use Rattle.sheaf_words.specs.declared.edit.Edit.{Edit}
use Rattle.sheaf_text.specs.Rooms.{large_replies, set_coordinates, new_coordinates}
use Rattle.sheaf_text.specs.State.{scripts_at}
use Rattle.sheaf_text.specs.declared.line.Stage.{Stage}
use Rattle.sheaf_text.specs.declared.line.Stage.TheVariants as stages
use Rattle.sheaf_text.specs.declared.scripts.Scripts.{Scripts}
use Rattle.sheaf_text.specs.declared.room.Needs.{Needs}
use Rattle.sheaf_text.specs.Needs.{AreNeeds}

-- ---- one member more

sum-next : {X : Type 0} (f : X → ℕ) (xs : List X) (i : ℕ) (x : X) (k : ℕ) → i < length xs → x ≡ get_or xs i x
    → (k + sum_by f (take i xs)) + f x ≡ k + sum_by f (take (i + 1) xs)
sum-next f xs i x k l e =
    let next : take (i + 1) xs ≡ take i xs ++ x ∷ [] =
    ap (λ n. take n xs) (add-one i) ∙ take-suc xs i x l ∙ ap (λ y. take i xs ++ y ∷ []) (sym e) in
    omega (arith, ap (sum_by f) next, sum_by_push f (take i xs) x)

-- by two counts of each member
pub needs-next : {X : Type 0} (f g : X → ℕ) (xs : List X) (i : ℕ) (x : X) (n k : ℕ) (needs : Needs) → i < length xs
    → x ≡ get_or xs i x
    → AreNeeds ((n + sum_by f (take i xs)) + f x) ((k + sum_by g (take i xs)) + g x) needs
    → AreNeeds (n + sum_by f (take (i + 1) xs)) (k + sum_by g (take (i + 1) xs)) needs
needs-next f g xs i x n k needs l e h =
    subst (λ m. AreNeeds m (k + sum_by g (take (i + 1) xs)) needs) (sum-next f xs i x n l e)
    (subst (λ m. AreNeeds ((n + sum_by f (take i xs)) + f x) m needs) (sum-next g xs i x k l e) h)

-- by the second alone
pub sets-next : {X : Type 0} (g : X → ℕ) (xs : List X) (i : ℕ) (x : X) (n k : ℕ) (needs : Needs) → i < length xs
    → x ≡ get_or xs i x
    → AreNeeds n ((k + sum_by g (take i xs)) + g x) needs → AreNeeds n (k + sum_by g (take (i + 1) xs)) needs
sets-next g xs i x n k needs l e h = subst (λ m. AreNeeds n m needs) (sum-next g xs i x k l e) h

-- the same needs, counted in another way
pub needs-same : (n m k j : ℕ) (needs : Needs) → n ≡ m → k ≡ j → AreNeeds n k needs → AreNeeds m j needs
needs-same n m k j needs e f h = record {
  replies_are = h.replies_are ∙ ap (λ x. min x 4294967295) e;
  coordinates_are = h.coordinates_are ∙ ap (λ x. min x 4096) f;
}

-- ---- the scripts so far

-- what a reader has of the clients: scripts that have ended, the commands of the last client, and an open edit
pub client-needs : (stalks : ℕ) (ended : List (List Command)) (commands : List Command) (needs : Needs)
    → AreNeeds ((0 + sum_by (sum_by large_replies) ended) + sum_by large_replies commands)
    ((stalks + sum_by (sum_by new_coordinates) ended) + sum_by new_coordinates commands) needs
    → AreNeeds (sum_by (sum_by large_replies) (ended ++ commands ∷ []))
    (stalks + sum_by (sum_by new_coordinates) (ended ++ commands ∷ [])) needs
client-needs stalks ended commands needs h = needs-same _ _ _ _ needs
    (omega (arith, sum_by_push (sum_by large_replies) ended commands))
    (omega (arith, sum_by_push (sum_by new_coordinates) ended commands)) h

pub edit-needs : (stalks : ℕ) (ended : List (List Command)) (commands : List Command) (edit : Edit) (needs : Needs)
    → AreNeeds ((0 + sum_by (sum_by large_replies) ended) + sum_by large_replies commands)
    (((stalks + sum_by (sum_by new_coordinates) ended) + sum_by new_coordinates commands)
    + sum_by set_coordinates edit.sets) needs
    → AreNeeds (sum_by (sum_by large_replies) (ended ++ (commands ++ Change edit ∷ []) ∷ []))
    (stalks + sum_by (sum_by new_coordinates) (ended ++ (commands ++ Change edit ∷ []) ∷ [])) needs
edit-needs stalks ended commands edit needs h =
    let script = commands ++ Change edit ∷ [] in
    let none : sum_by large_replies script ≡ sum_by large_replies commands + 0 =
    sum_by_push large_replies commands (Change edit) in
    let more : sum_by new_coordinates script ≡ sum_by new_coordinates commands + sum_by set_coordinates edit.sets =
    sum_by_push new_coordinates commands (Change edit) in
    needs-same _ _ _ _ needs
    (omega (arith, none, sum_by_push (sum_by large_replies) ended script))
    (omega (arith, more, sum_by_push (sum_by new_coordinates) ended script)) h

pub other-scripts : (stage : Stage) (s : Scripts) → (stage ≡ stages.InClient → ⊥) → (stage ≡ stages.InEdit → ⊥)
    → s.ended.items ≡ scripts_at stage s
other-scripts stages.InClient s not_client not_edit = absurd (not_client refl)
other-scripts stages.InEdit s not_client not_edit = absurd (not_edit refl)
other-scripts stage s not_client not_edit = refl
