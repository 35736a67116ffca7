-- Lists of cochains, degree by degree.
use Rattle.std.proofs.Common.{◌≡◌, ◌+◌, ℕ, List, [], ◌∷◌, ◌++◌, Vec, Some, slice_get, length, sym, ap, ◌∙◌, subst}
use Rattle.std.proofs.lemmas.List.{length_push}
use Rattle.cochain_vec.specs.declared.cochain.Cochain.{Cochain}
use Rattle.equivalences.specs.CochainLists.{AreCochains}
use Rattle.equivalences.proofs.ComposedBlocks.{each-push}

pub count-more : {A : Type 0} (xs ys : List A) (x : A) (k : ℕ) → length xs ≡ k → ys ≡ xs ++ x ∷ []
    → length ys ≡ k + 1
count-more xs ys x k size is = ap length is ∙ length_push xs x ∙ ap (λ n. n + 1) size

-- what holds of each list holds with one more for which it does
pub each-more : {Z : Type 0} (P : ℕ → Vec Cochain Z → Type 0) (k : ℕ) (now new : List (Vec Cochain Z))
    (zs : Vec Cochain Z) → length now ≡ k
    → ((j : ℕ) (us : Vec Cochain Z) → slice_get now j ≡ Some us → P j us) → P k zs → new ≡ now ++ zs ∷ []
    → (j : ℕ) (us : Vec Cochain Z) → slice_get new j ≡ Some us → P j us
each-more {Z} P k now new zs size so_far here is j us found =
    each-push P now zs so_far (subst (λ i. P i zs) (sym size) here) j us
    (subst (λ l. slice_get l j ≡ Some us) is found)
