-- A list with a gap in front: what is left of it once a member has been taken out.
use Rattle.std.proofs.Common.{◌≡◌, ℕ, suc, ◌+◌, ◌-◌, ◌<◌, ◌≤◌, ap, ap₂, sym, ◌∙◌, arith, List, ◌++◌, length, take, drop}
use Rattle.std.proofs.Common.{append_assoc}
use Rattle.std.proofs.lemmas.List.{length-take-le, drop_at, drop-drop, drop-append-le, drop-take}
use Rattle.std.specs.List.{remove, copy_within}

module _ {X : Type 0} (xs : List X) (gap at : ℕ) (inside : gap + at < length xs) where
  behind : drop (suc (gap + at)) xs ≡ drop (suc at) (drop gap xs)
  behind =
      let same : suc (gap + at) ≡ gap + suc at = omega arith in
      ap (λ (n : ℕ). drop n xs) same ∙ sym (drop-drop (suc at) gap xs)

  -- the members behind it have moved
  pub removed-behind : drop gap (remove xs (gap + at)) ≡ remove (drop gap xs) at
  removed-behind =
      drop-append-le gap (take (gap + at) xs) (drop (suc (gap + at)) xs)
      (omega (arith, length-take-le (gap + at) xs (omega arith)))
      ∙ ap₂ (λ front back. front ++ back) (drop-take gap at xs) behind

  -- the members before it have moved
  pub removed-in_front : drop (gap + 1) (copy_within xs gap (gap + at) (gap + 1)) ≡ remove (drop gap xs) at
  removed-in_front =
      let count : (gap + at) - gap ≡ at = omega arith in
      let place : gap + 1 + at ≡ suc (gap + at) = omega arith in
      let room : gap + 1 ≤ length xs = omega arith in
      ap (λ (n : ℕ). drop (gap + 1) ((take (gap + 1) xs ++ take n (drop gap xs)) ++ drop (gap + 1 + n) xs)) count
      ∙ ap (drop (gap + 1)) (append_assoc (take (gap + 1) xs) (take at (drop gap xs)) (drop (gap + 1 + at) xs))
      ∙ drop_at (take (gap + 1) xs) (take at (drop gap xs) ++ drop (gap + 1 + at) xs) (gap + 1)
      (length-take-le (gap + 1) xs room)
      ∙ ap (λ (back : List X). take at (drop gap xs) ++ back) (ap (λ (n : ℕ). drop n xs) place ∙ behind)
