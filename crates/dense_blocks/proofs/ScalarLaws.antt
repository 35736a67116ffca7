-- Laws of scalars that follow from the laws of a field.
use Rattle.std.proofs.Common.{◌≡◌, ◌≢◌, ℕ, ◌<◌, ◌≤◌, sym, ap, ap₂, ◌∙◌, arith}
use Rattle.dense_blocks.specs.Field.{Ops}
use Rattle.dense_blocks.specs.FieldLaws.{IsField}

module _ (K : Ops) (F : IsField K) where
  -- 0 and 1 are scalars
  pub zero_below : 0 < K.order
  zero_below = let low : 2 ≤ K.order = F.order_low in omega arith

  pub one_below : 1 < K.order
  one_below = F.order_low

  -- sums
  pub zero_add : (a : ℕ) → a < K.order → K.add 0 a ≡ a
  zero_add a h = F.add_comm 0 a ∙ F.add_zero a h

  pub neg_add : (a : ℕ) → K.add (K.neg a) a ≡ 0
  neg_add a = F.add_comm (K.neg a) a ∙ F.add_neg a

  pub add_left_comm : (a b c : ℕ) → K.add a (K.add b c) ≡ K.add b (K.add a c)
  add_left_comm a b c = sym (F.add_assoc a b c) ∙ ap (λ t. K.add t c) (F.add_comm a b) ∙ F.add_assoc b a c

  pub add_cross : (a b c d : ℕ) → K.add (K.add a b) (K.add c d) ≡ K.add (K.add a c) (K.add b d)
  add_cross a b c d = F.add_assoc a b (K.add c d) ∙ ap (K.add a) (add_left_comm b c d)
      ∙ sym (F.add_assoc a c (K.add b d))

  pub add_neg_add : (a b : ℕ) → b < K.order → K.add (K.neg a) (K.add a b) ≡ b
  add_neg_add a b h = sym (F.add_assoc (K.neg a) a b) ∙ ap (λ t. K.add t b) (neg_add a) ∙ zero_add b h

  pub add_cancel : (a b c : ℕ) → b < K.order → c < K.order → K.add a b ≡ K.add a c → b ≡ c
  add_cancel a b c hb hc e = sym (add_neg_add a b hb) ∙ ap (K.add (K.neg a)) e ∙ add_neg_add a c hc

  -- negatives
  pub neg_zero : K.neg 0 ≡ 0
  neg_zero = sym (zero_add (K.neg 0) (F.neg_below 0)) ∙ F.add_neg 0

  pub neg_of_sum : (a b : ℕ) → K.neg (K.add a b) ≡ K.add (K.neg a) (K.neg b)
  neg_of_sum a b =
      add_cancel (K.add a b) (K.neg (K.add a b)) (K.add (K.neg a) (K.neg b)) (F.neg_below (K.add a b))
      (F.add_below (K.neg a) (K.neg b))
      (F.add_neg (K.add a b)
      ∙ sym (add_cross a b (K.neg a) (K.neg b) ∙ ap₂ K.add (F.add_neg a) (F.add_neg b) ∙ F.add_zero 0 zero_below))

  pub neg_neg : (a : ℕ) → a < K.order → K.neg (K.neg a) ≡ a
  neg_neg a h = add_cancel (K.neg a) (K.neg (K.neg a)) a (F.neg_below (K.neg a)) h (F.add_neg (K.neg a)
      ∙ sym (neg_add a))

  -- two scalars whose sum is 0 are negatives of one another
  pub neg_unique : (a b : ℕ) → b < K.order → K.add a b ≡ 0 → b ≡ K.neg a
  neg_unique a b h e = add_cancel a b (K.neg a) h (F.neg_below a) (e ∙ sym (F.add_neg a))

  -- products
  pub mul_zero : (a : ℕ) → K.mul a 0 ≡ 0
  mul_zero a =
      add_cancel (K.mul a 0) (K.mul a 0) 0 (F.mul_below a 0) zero_below
      (sym (F.mul_add a 0 0) ∙ ap (K.mul a) (F.add_zero 0 zero_below) ∙ sym (F.add_zero (K.mul a 0) (F.mul_below a 0)))

  pub zero_mul : (a : ℕ) → K.mul 0 a ≡ 0
  zero_mul a = F.mul_comm 0 a ∙ mul_zero a

  pub one_mul : (a : ℕ) → a < K.order → K.mul 1 a ≡ a
  one_mul a h = F.mul_comm 1 a ∙ F.mul_one a h

  pub add_mul : (a b c : ℕ) → K.mul (K.add a b) c ≡ K.add (K.mul a c) (K.mul b c)
  add_mul a b c = F.mul_comm (K.add a b) c ∙ F.mul_add c a b ∙ ap₂ K.add (F.mul_comm c a) (F.mul_comm c b)

  pub mul_left_comm : (a b c : ℕ) → K.mul a (K.mul b c) ≡ K.mul b (K.mul a c)
  mul_left_comm a b c = sym (F.mul_assoc a b c) ∙ ap (λ t. K.mul t c) (F.mul_comm a b) ∙ F.mul_assoc b a c

  pub neg_mul : (a b : ℕ) → K.mul (K.neg a) b ≡ K.neg (K.mul a b)
  neg_mul a b =
      neg_unique (K.mul a b) (K.mul (K.neg a) b) (F.mul_below (K.neg a) b)
      (sym (add_mul a (K.neg a) b) ∙ ap (λ t. K.mul t b) (F.add_neg a) ∙ zero_mul b)

  pub mul_neg : (a b : ℕ) → K.mul a (K.neg b) ≡ K.neg (K.mul a b)
  mul_neg a b = F.mul_comm a (K.neg b) ∙ neg_mul b a ∙ ap K.neg (F.mul_comm b a)

  -- inverses
  pub inv_mul : (a : ℕ) → a < K.order → a ≢ 0 → K.mul (K.inv a) a ≡ 1
  inv_mul a h n = F.mul_comm (K.inv a) a ∙ F.mul_inv a h n

  pub inv_mul_mul : (a b : ℕ) → a < K.order → a ≢ 0 → b < K.order → K.mul (K.inv a) (K.mul a b) ≡ b
  inv_mul_mul a b ha n hb = sym (F.mul_assoc (K.inv a) a b) ∙ ap (λ t. K.mul t b) (inv_mul a ha n) ∙ one_mul b hb

  pub mul_inv_mul : (a b : ℕ) → a < K.order → a ≢ 0 → b < K.order → K.mul a (K.mul (K.inv a) b) ≡ b
  mul_inv_mul a b ha n hb = mul_left_comm a (K.inv a) b ∙ inv_mul_mul a b ha n hb
