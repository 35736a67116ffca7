-- The sizes of live cells, by place.
use Rattle.std.proofs.Common.{◌≡◌, ℕ, zero, inl, inr, Bool, true, false, cond, not, refl, sym, ap, ◌∙◌, List, []}
use Rattle.std.proofs.Common.{◌∷◌, map, Option, Some, None, eqb}
use Rattle.std.specs.Option.{unwrap_or, option_map}
use Rattle.std.proofs.lemmas.Bool.{eq-eqb, ne_eqb, cases_eq}
use Rattle.rising_lists.specs.Rising.{ByCell, look, entry}
use Rattle.block_complexes.specs.BlockComplexes.{cells, of_cell, size_of}
use Rattle.block_complexes.proofs.WithoutLaws.{without, of_cell-without}
use Rattle.block_sparse.specs.Invariants.{AreSizes}

size-looked : (live : List (ℕ × ℕ × ℕ)) (c : ℕ)
    → unwrap_or (look c (cells live) (map (λ l. l.2) live)) 0 ≡ size_of live c
size-looked [] c = refl
size-looked (l ∷ ls) c = go (eqb l.0 c) (size-looked ls c)
  where
    go : (b : Bool) → unwrap_or (look c (cells ls) (map (λ l. l.2) ls)) 0 ≡ size_of ls c
        → unwrap_or (cond b (Some l.2) (look c (cells ls) (map (λ l. l.2) ls))) 0 ≡ cond b l.2 (size_of ls c)
    go true h = refl
    go false h = h

pub sizes_of-live : (live : List (ℕ × ℕ × ℕ))
    → AreSizes live (record { cells = cells live; values = map (λ l. l.2) live })
sizes_of-live live = λ c. size-looked live c

-- a cell that has gone has nothing
of_cell-gone : (g : ℕ × ℕ × ℕ → ℕ) (c : ℕ) (live : List (ℕ × ℕ × ℕ)) → of_cell g (without c live) c ≡ 0
of_cell-gone g c [] = refl
of_cell-gone g c (l ∷ ls) = go (eqb l.0 c) refl (of_cell-gone g c ls)
  where
    go : (b : Bool) → eqb l.0 c ≡ b → of_cell g (without c ls) c ≡ 0
        → of_cell g (cond (not b) (l ∷ without c ls) (without c ls)) c ≡ 0
    go true e h = h
    go false e h = ap (λ b. cond b (g l) (of_cell g (without c ls) c)) e ∙ h

zero-in : (x : Option ℕ) → unwrap_or (option_map (λ _. zero) x) 0 ≡ 0
zero-in None = refl
zero-in (Some n) = refl

size-without : (c : ℕ) (live : List (ℕ × ℕ × ℕ)) (sizes : ByCell ℕ) → AreSizes live sizes → (q : ℕ)
    → unwrap_or (cond (eqb q c) (option_map (λ _. zero) (entry sizes c)) (entry sizes q)) 0 ≡ size_of (without c live) q
size-without c live sizes h q = elim (cases_eq q c) [
  | inl e ↦
      ap (λ b. unwrap_or (cond b (option_map (λ _. zero) (entry sizes c)) (entry sizes q)) 0) (eq-eqb q c e)
      ∙ zero-in (entry sizes c)
      ∙ sym (ap (size_of (without c live)) e ∙ of_cell-gone (λ l. l.2) c live)
  | inr n ↦
      ap (λ b. unwrap_or (cond b (option_map (λ _. zero) (entry sizes c)) (entry sizes q)) 0) (ne_eqb q c n)
      ∙ h q ∙ sym (of_cell-without (λ l. l.2) c live q n)
]

pub sizes-without : (c : ℕ) (live : List (ℕ × ℕ × ℕ)) (sizes sizes' : ByCell ℕ) → AreSizes live sizes
    → ((q : ℕ) → entry sizes' q ≡ cond (eqb q c) (option_map (λ _. zero) (entry sizes c)) (entry sizes q))
    → AreSizes (without c live) sizes'
sizes-without c live sizes sizes' h put = λ q.
    ap (λ x. unwrap_or x 0) (put q) ∙ size-without c live sizes h q
