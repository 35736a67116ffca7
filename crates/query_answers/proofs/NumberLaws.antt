-- Numbers put one after another, and entries as scalars.
use Rattle.std.proofs.Common.{◌≡◌, ℕ, ◌+◌, ◌<◌, List, [], ◌∷◌, ◌++◌, length, take, get_or, sym, ap, ◌∙◌, subst}
use Rattle.std.proofs.lemmas.List.{take_more}
use Rattle.std.proofs.lemmas.List.Elements.{All-push}
use Rattle.dense_blocks.specs.Field.{Ops}
use Rattle.dense_blocks.specs.Vectors.{AllScalars}

-- one scalar more
pub scalars_more : (K : Ops) (xs : List ℕ) (i : ℕ) → i < length xs → AllScalars K (take i xs)
    → get_or xs i 0 < K.order → AllScalars K (take (i + 1) xs)
scalars_more K xs i l h b =
    subst (AllScalars K) (sym (take_more xs i 0 l)) (All-push (λ a. a < K.order) (take i xs) (get_or xs i 0) h b)

-- one number more of a list
pub values_more : (xs now new : List ℕ) (i : ℕ) → i < length xs → now ≡ take i xs
    → new ≡ now ++ get_or xs i 0 ∷ [] → new ≡ take (i + 1) xs
values_more xs now new i l so_far grown =
    grown ∙ ap (λ ys. ys ++ get_or xs i 0 ∷ []) so_far ∙ sym (take_more xs i 0 l)
