-- Cells with a block, but one, each with its size.
use Rattle.std.proofs.Common.{◌≡◌, ℕ, zero, suc, Bool, true, false, ◌&&◌, List, [], ◌∷◌, map, filter, get_or, refl, sym}
use Rattle.std.proofs.Common.{ap, ◌∙◌, subst, arith}
use Rattle.std.specs.Prelude.{◌==◌, not}
use Rattle.std.proofs.lemmas.Bool.{and_parts, eq-eqb}
use Rattle.std.proofs.lemmas.List.Elements.{All-from_get_or, All-map}
use Rattle.rising_lists.specs.Rising.{IsRising, has, keys}
use Rattle.rising_lists.proofs.Keyed.{has-at}
use Rattle.block_complexes.specs.BlockComplexes.{cells, size_of}
use Rattle.block_sparse.specs.Grids.{AreSized}
use Rattle.reduce_step.specs.Parts.{sized_others}
use Rattle.block_complexes.proofs.SumLaws.{has-filter, rising-filter}

keys-sized : (size : ℕ → ℕ) (cs : List ℕ) → keys (map (λ c. (c, size c)) cs) ≡ cs
keys-sized size [] = refl
keys-sized size (c ∷ cs) = ap (λ ks. c ∷ ks) (keys-sized size cs)

-- listed cells rise and are live with their sizes
pub record AreListed (live : List (ℕ × ℕ × ℕ)) (listed : List (ℕ × ℕ)) : Type 0 where
  pub rise : IsRising (keys listed)
  pub sized : AreSized live listed

module _ (live : List (ℕ × ℕ × ℕ)) (there : List ℕ) (but : ℕ) (listed : List (ℕ × ℕ))
    (are : listed ≡ sized_others live there but) where
  abbrev others : List ℕ
  others = filter (λ c. not (c == but)) there

  keys-are : keys listed ≡ others
  keys-are = ap keys are ∙ keys-sized (size_of live) others

  pub others-has : (c : ℕ) → has c (keys listed) ≡ (has c there && not (c == but))
  others-has c = ap (has c) keys-are ∙ has-filter (λ c. not (c == but)) there c

  pub others-there : (c : ℕ) → has c (keys listed) ≡ true → has c there ≡ true
  others-there c h = (and_parts (has c there) (not (c == but)) (sym (others-has c) ∙ h)).0

  pub others-without : has but (keys listed) ≡ false
  others-without = others-has but ∙ ap (λ b. has but there && not b) (eq-eqb but but refl) ∙ and_false (has but there)
    where
      and_false : (b : Bool) → (b && false) ≡ false
      and_false true = refl
      and_false false = refl

  pub others-listed : IsRising there → ((c : ℕ) → has c there ≡ true → has c (cells live) ≡ true)
      → AreListed live listed
  others-listed rises within =
      let Sized : ℕ × ℕ → Type 0 = λ l. (has l.0 (cells live) ≡ true) × (size_of live l.0 ≡ l.1) in
      let is_live : (c : ℕ) → has c others ≡ true → has c (cells live) ≡ true = λ c h.
      within c (others-there c (ap (has c) keys-are ∙ h)) in
      record {
        rise = subst IsRising (sym keys-are) (rising-filter (λ c. not (c == but)) there rises);
        sized =
            subst (AreSized live) (sym are)
            (All-map Sized (λ c. (c, size_of live c)) others
            (All-from_get_or (λ c. Sized (c, size_of live c)) others 0
            (λ i l. (is_live (get_or others i 0) (has-at others i l), refl))));
      }

-- a list of one cell
pub one-rises : (c : ℕ) → IsRising (c ∷ [])
one-rises c i j l m = absurd (omega arith)

pub one-listed : (live : List (ℕ × ℕ × ℕ)) (c : ℕ) (listed : List (ℕ × ℕ)) → listed ≡ (c, size_of live c) ∷ []
    → has c (cells live) ≡ true → AreListed live listed
one-listed live c listed are h = subst (AreListed live) (sym are) (record { rise = one-rises c; sized = sized })
  where
    sized : AreSized live ((c, size_of live c) ∷ [])
    sized zero d l = (h, refl)
    sized (suc i) d l = absurd (omega arith)
