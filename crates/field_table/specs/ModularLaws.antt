-- Whole numbers modulo q are a field where each of 1, 2, .. up to q - 1 has an inverse.
use Rattle.std.proofs.Common.{◌≡◌, ◌≢◌, ℕ, zero, suc, ◌+◌, ◌-◌, ◌*◌, ◌%◌, ◌<◌, ◌≤◌, Bool, true, false, Some, length}
use Rattle.std.proofs.Common.{get_or, find, unwrap_or, cond, refl, sym, ap, subst, ◌∙◌, add-zero, arith}
use Rattle.std.specs.Prelude.{◌==◌}
use Rattle.std.specs.List.{range_with_len, list_all}
use Rattle.std.proofs.lemmas.Bool.{eqb-true}
use Rattle.std.proofs.lemmas.List.Elements.{All-get_or}
use Rattle.std.proofs.lemmas.List.FromFn.{length-range_with_len, get_or-range_with_len}
use Rattle.std.proofs.lemmas.List.Sums.{AllPass-from_list_all}
use Rattle.std.proofs.lemmas.Nat.{mod_below, mul-mod_first, mul-mod_second}
use Rattle.std.proofs.Math.Nat.{mul_assoc, mul_comm, mul-add, mul-one, add_assoc, add_comm, add-mod, add-mod-mod}
use Rattle.std.proofs.Math.Nat.{mod-add-mod, mod-eq_of_lt, mod_self}
use Rattle.dense_blocks.specs.FieldLaws.{IsField}
use Rattle.field_table.specs.Modular.{inverse, modulo}

-- whether a and what is found as its inverse multiply to 1
abbrev pub is_inverted : ℕ → ℕ → Bool
is_inverted q a = (a * inverse q a) % q == 1

-- the test of a field, which computes: each of 1, 2, .. up to q - 1 has an inverse
abbrev pub has_inverses : ℕ → Bool
has_inverses q = list_all (is_inverted q) (range_with_len 1 (q - 1))

-- what is found among n numbers from a on is below their end
found_below : (p : ℕ → Bool) (a n q : ℕ) → 0 < q → a + n ≡ q → unwrap_or (find p (range_with_len a n)) 0 < q
found_below p a zero q h e = h
found_below p a (suc n) q h e =
    elim (p a) as (λ v. unwrap_or (cond v (Some a) (find p (range_with_len (a + 1) n))) 0 < q) [
      | true ↦ omega arith
      | false ↦ found_below p (a + 1) n q h (omega arith)
    ]

-- an inverse is a scalar
inverse_below : (q a : ℕ) → 0 < q → inverse q a < q
unfolding inverse
inverse_below q a h = found_below (λ b. (a * b) % q == 1) 0 q q h (omega arith)

module _ (q : ℕ) (low : 2 ≤ q) where
  below : (n : ℕ) → n % q < q
  below n = mod_below n q (omega arith)

  -- a remainder inside a sum or a product may be left out
  sum_regroups : (a b c : ℕ) → ((a + b) % q + c) % q ≡ (a + (b + c) % q) % q
  sum_regroups a b c = rw (mod-add-mod, add-mod-mod, add_assoc) refl

  -- a % q and what q is above it sum to q
  negative_cancels : (a : ℕ) → (a + (q - a % q) % q) % q ≡ 0
  negative_cancels a =
      let small : a % q < q = below a in
      let whole : a % q + (q - a % q) ≡ q = omega arith in
      add-mod-mod a (q - a % q) q ∙ sym (mod-add-mod a q (q - a % q)) ∙ ap (λ n. n % q) whole ∙ mod_self q

  product_regroups : (a b c : ℕ) → ((a * b) % q * c) % q ≡ (a * ((b * c) % q)) % q
  product_regroups a b c = rw (mul-mod_first (a * b) c q, mul-mod_second a (b * c) q, mul_assoc a b c) refl

  product_distributes : (a b c : ℕ) → (a * ((b + c) % q)) % q ≡ ((a * b) % q + (a * c) % q) % q
  product_distributes a b c = rw (mul-mod_second a (b + c) q, ← add-mod (a * b) (a * c) q, mul-add a b c) refl

  module _ (high : q ≤ 256) (tested : has_inverses q ≡ true) where
    -- the test passed at a, which stands at place a - 1
    inverse_multiplies : (a : ℕ) → a < q → a ≢ 0 → (a * inverse q a) % q ≡ 1
    inverse_multiplies a h n = eqb-true ((a * inverse q a) % q) 1 (subst (λ b. is_inverted q b ≡ true) place passes)
      where
        within : a - 1 < length (range_with_len 1 (q - 1))
        within = rw (length-range_with_len) (omega arith)

        place : get_or (range_with_len 1 (q - 1)) (a - 1) 0 ≡ a
        place = get_or-range_with_len 1 (q - 1) (a - 1) 0 (omega arith) ∙ omega arith

        passes : is_inverted q (get_or (range_with_len 1 (q - 1)) (a - 1) 0) ≡ true
        passes =
            All-get_or (λ b. is_inverted q b ≡ true) (range_with_len 1 (q - 1)) (a - 1) 0 within
            (AllPass-from_list_all (is_inverted q) (range_with_len 1 (q - 1)) tested)

    pub modulo_is_field : IsField (modulo q)
    modulo_is_field = record {
      order_low = low;
      order_high = high;
      add_below = λ a b. below (a + b);
      neg_below = λ a. below (q - a % q);
      mul_below = λ a b. below (a * b);
      inv_below = λ a. inverse_below q a (omega arith);
      add_assoc = sum_regroups;
      add_comm = λ a b. ap (λ n. n % q) (add_comm a b);
      add_zero = λ a h. rw add-zero (mod-eq_of_lt h);
      add_neg = negative_cancels;
      mul_assoc = product_regroups;
      mul_comm = λ a b. ap (λ n. n % q) (mul_comm a b);
      mul_one = λ a h. rw mul-one (mod-eq_of_lt h);
      mul_inv = inverse_multiplies;
      mul_add = product_distributes;
    }
