-- Laws of vectors: shapes, the commutative group, scaling, the product of two vectors, combinations.
-- A law is named by its left side, the outermost word first.
use Rattle.std.proofs.Common.{◌≡◌, ℕ, zero, suc, ◌+◌, ◌<◌, ◌≤◌, List, [], ◌∷◌, ◌++◌, map, take, length, refl, sym, ap}
use Rattle.std.proofs.Common.{ap₂, ◌∙◌}
use Rattle.std.proofs.Common.{zero-add, suc-add, append_assoc, arith}
use Rattle.dense_blocks.specs.Field.{Ops}
use Rattle.dense_blocks.specs.FieldLaws.{IsField}
use Rattle.dense_blocks.specs.Vectors.{zeros, plus, multiple, dot, combination}
use Rattle.dense_blocks.specs.MatrixFacts.{negative}
use Rattle.dense_blocks.proofs.ScalarLaws.{zero_below, one_below, zero_add, neg_add, neg_zero, neg_neg, neg_of_sum}
use Rattle.dense_blocks.proofs.ScalarLaws.{add_cross, mul_zero, zero_mul, one_mul, add_mul, neg_mul, mul_neg}
use Rattle.dense_blocks.proofs.ScalarLaws.{mul_left_comm}
use Rattle.dense_blocks.proofs.Shapes.{Vector, Matrix}

-- sums of whatever length
pub nil-plus : (K : Ops) (v : List ℕ) → plus K [] v ≡ []
nil-plus K v = refl

pub plus-nil : (K : Ops) (v : List ℕ) → plus K v [] ≡ []
plus-nil K [] = refl
plus-nil K (a ∷ v) = refl

pub dot-nil : (K : Ops) (v : List ℕ) → dot K v [] ≡ 0
dot-nil K [] = refl
dot-nil K (a ∷ v) = refl

pub combination-nil : (K : Ops) (n : ℕ) (cs : List ℕ) → combination K n cs [] ≡ zeros n
combination-nil K n [] = refl
combination-nil K n (c ∷ cs) = refl

pub plus-append : (K : Ops) (u v u' v' : List ℕ) → length u ≡ length v → plus K (u ++ u') (v ++ v') ≡ plus K u v
    ++ plus K u' v'
plus-append K [] [] u' v' e = refl
plus-append K [] (b ∷ v) u' v' e = absurd (omega arith)
plus-append K (a ∷ u) [] u' v' e = absurd (omega arith)
plus-append K (a ∷ u) (b ∷ v) u' v' e = ap (λ t. K.add a b ∷ t) (plus-append K u v u' v' (omega arith))

pub multiple-append : (K : Ops) (k : ℕ) (u v : List ℕ) → multiple K k (u ++ v) ≡ multiple K k u ++ multiple K k v
multiple-append K k [] v = refl
multiple-append K k (a ∷ u) v = ap (λ t. K.mul k a ∷ t) (multiple-append K k u v)

pub zeros-append : (m n : ℕ) → zeros (m + n) ≡ zeros m ++ zeros n
zeros-append zero n = ap zeros (zero-add n)
zeros-append (suc m) n = ap zeros (suc-add m n) ∙ ap (λ t. 0 ∷ t) (zeros-append m n)

-- one zero more behind a list
pub zeros-pushed : (u : List ℕ) (n : ℕ) → u ++ zeros (n + 1) ≡ (u ++ zeros n) ++ 0 ∷ []
zeros-pushed u n = ap (λ t. u ++ t) (zeros-append n 1) ∙ sym (append_assoc u (zeros n) (0 ∷ []))

-- zeros behind zeros behind a list
pub zeros-more : (u now more : List ℕ) (m n k : ℕ) → now ≡ u ++ zeros m → more ≡ now ++ zeros n → m + n ≡ k
    → more ≡ u ++ zeros k
zeros-more u now more m n k is_now is_more e =
    is_more ∙ ap (λ t. t ++ zeros n) is_now ∙ append_assoc u (zeros m) (zeros n)
    ∙ ap (λ t. u ++ t) (sym (zeros-append m n) ∙ ap zeros e)

pub take-zeros : (k n : ℕ) → k ≤ n → take k (zeros n) ≡ zeros k
take-zeros zero n h = refl
take-zeros (suc k) zero h = absurd (omega arith)
take-zeros (suc k) (suc n) h = ap (λ t. 0 ∷ t) (take-zeros k n (omega arith))

pub zeros-size : (n : ℕ) → length (zeros n) ≡ n
zeros-size zero = refl
zeros-size (suc n) = ap suc (zeros-size n)

module _ (K : Ops) (F : IsField K) where
  -- shapes
  pub zeros-vector : (n : ℕ) → Vector K n (zeros n)
  zeros-vector zero = tt
  zeros-vector (suc n) = (zero_below K F, zeros-vector n)

  pub plus-vector : (n : ℕ) (u v : List ℕ) → Vector K n u → Vector K n v → Vector K n (plus K u v)
  plus-vector zero [] v hu hv = tt
  plus-vector zero (a ∷ u) v hu hv = absurd hu
  plus-vector (suc n) [] v hu hv = absurd hu
  plus-vector (suc n) (a ∷ u) [] hu hv = absurd hv
  plus-vector (suc n) (a ∷ u) (b ∷ v) hu hv = (F.add_below a b, plus-vector n u v hu.1 hv.1)

  pub negative-vector : (n : ℕ) (v : List ℕ) → Vector K n v → Vector K n (negative K v)
  negative-vector zero [] h = tt
  negative-vector zero (a ∷ v) h = absurd h
  negative-vector (suc n) [] h = absurd h
  negative-vector (suc n) (a ∷ v) h = (F.neg_below a, negative-vector n v h.1)

  pub multiple-vector : (n k : ℕ) (v : List ℕ) → Vector K n v → Vector K n (multiple K k v)
  multiple-vector zero k [] h = tt
  multiple-vector zero k (a ∷ v) h = absurd h
  multiple-vector (suc n) k [] h = absurd h
  multiple-vector (suc n) k (a ∷ v) h = (F.mul_below k a, multiple-vector n k v h.1)

  pub combination-vector : (m n : ℕ) (cs : List ℕ) (vs : List (List ℕ)) → Matrix K m n vs
      → Vector K n (combination K n cs vs)
  combination-vector m n [] vs h = zeros-vector n
  combination-vector m n (c ∷ cs) [] h = zeros-vector n
  combination-vector zero n (c ∷ cs) (v ∷ vs) h = absurd h
  combination-vector (suc m) n (c ∷ cs) (v ∷ vs) h =
      plus-vector n (multiple K c v) (combination K n cs vs) (multiple-vector n c v h.0)
      (combination-vector m n cs vs h.1)

  -- the commutative group of vectors
  pub plus-assoc : (u v w : List ℕ) → plus K (plus K u v) w ≡ plus K u (plus K v w)
  plus-assoc [] v w = refl
  plus-assoc (a ∷ u) [] w = refl
  plus-assoc (a ∷ u) (b ∷ v) [] = refl
  plus-assoc (a ∷ u) (b ∷ v) (c ∷ w) = ap₂ ◌∷◌ (F.add_assoc a b c) (plus-assoc u v w)

  pub plus-comm : (u v : List ℕ) → plus K u v ≡ plus K v u
  plus-comm [] [] = refl
  plus-comm [] (b ∷ v) = refl
  plus-comm (a ∷ u) [] = refl
  plus-comm (a ∷ u) (b ∷ v) = ap₂ ◌∷◌ (F.add_comm a b) (plus-comm u v)

  pub zeros-plus : (n : ℕ) (v : List ℕ) → Vector K n v → plus K (zeros n) v ≡ v
  zeros-plus zero [] h = refl
  zeros-plus zero (a ∷ v) h = absurd h
  zeros-plus (suc n) [] h = absurd h
  zeros-plus (suc n) (a ∷ v) h = ap₂ ◌∷◌ (zero_add K F a h.0) (zeros-plus n v h.1)

  pub plus-zeros : (n : ℕ) (v : List ℕ) → Vector K n v → plus K v (zeros n) ≡ v
  plus-zeros n v h = plus-comm v (zeros n) ∙ zeros-plus n v h

  pub zeros-plus-zeros : (n : ℕ) → plus K (zeros n) (zeros n) ≡ zeros n
  zeros-plus-zeros n = zeros-plus n (zeros n) (zeros-vector n)

  pub negative-plus : (n : ℕ) (v : List ℕ) → Vector K n v → plus K (negative K v) v ≡ zeros n
  negative-plus zero [] h = refl
  negative-plus zero (a ∷ v) h = absurd h
  negative-plus (suc n) [] h = absurd h
  negative-plus (suc n) (a ∷ v) h = ap₂ ◌∷◌ (neg_add K F a) (negative-plus n v h.1)

  pub plus-negative : (n : ℕ) (v : List ℕ) → Vector K n v → plus K v (negative K v) ≡ zeros n
  plus-negative n v h = plus-comm v (negative K v) ∙ negative-plus n v h

  pub plus-left-comm : (u v w : List ℕ) → plus K u (plus K v w) ≡ plus K v (plus K u w)
  plus-left-comm u v w = sym (plus-assoc u v w) ∙ ap (λ t. plus K t w) (plus-comm u v) ∙ plus-assoc v u w

  pub plus-cross : (s t u v : List ℕ) → plus K (plus K s t) (plus K u v) ≡ plus K (plus K s u) (plus K t v)
  plus-cross s t u v = plus-assoc s t (plus K u v) ∙ ap (plus K s) (plus-left-comm t u v)
      ∙ sym (plus-assoc s u (plus K t v))

  pub negative-plus-plus : (n : ℕ) (u v : List ℕ) → Vector K n u → Vector K n v → plus K (negative K u) (plus K u v) ≡ v
  negative-plus-plus n u v hu hv =
      sym (plus-assoc (negative K u) u v) ∙ ap (λ t. plus K t v) (negative-plus n u hu) ∙ zeros-plus n v hv

  pub plus-cancel : (n : ℕ) (u v w : List ℕ) → Vector K n u → Vector K n v → Vector K n w → plus K u v ≡ plus K u w
      → v ≡ w
  plus-cancel n u v w hu hv hw e =
      sym (negative-plus-plus n u v hu hv) ∙ ap (plus K (negative K u)) e ∙ negative-plus-plus n u w hu hw

  pub negative-of-plus : (u v : List ℕ) → negative K (plus K u v) ≡ plus K (negative K u) (negative K v)
  negative-of-plus [] v = refl
  negative-of-plus (a ∷ u) [] = refl
  negative-of-plus (a ∷ u) (b ∷ v) = ap₂ ◌∷◌ (neg_of_sum K F a b) (negative-of-plus u v)

  pub negative-zeros : (n : ℕ) → negative K (zeros n) ≡ zeros n
  negative-zeros zero = refl
  negative-zeros (suc n) = ap₂ ◌∷◌ (neg_zero K F) (negative-zeros n)

  pub negative-negative : (n : ℕ) (v : List ℕ) → Vector K n v → negative K (negative K v) ≡ v
  negative-negative zero [] h = refl
  negative-negative zero (a ∷ v) h = absurd h
  negative-negative (suc n) [] h = absurd h
  negative-negative (suc n) (a ∷ v) h = ap₂ ◌∷◌ (neg_neg K F a h.0) (negative-negative n v h.1)

  pub negative-unique : (n : ℕ) (u v : List ℕ) → Vector K n u → Vector K n v → plus K u v ≡ zeros n → v ≡ negative K u
  negative-unique n u v hu hv e = plus-cancel n u v (negative K u) hu hv (negative-vector n u hu)
      (e ∙ sym (plus-negative n u hu))

  -- two vectors whose difference is zero are the same
  pub same-by-difference : (n : ℕ) (u v : List ℕ) → Vector K n u → Vector K n v → plus K u (negative K v) ≡ zeros n
      → u ≡ v
  same-by-difference n u v hu hv e =
      sym (negative-negative n u hu)
      ∙ ap (negative K) (sym (negative-unique n u (negative K v) hu (negative-vector n v hv) e))
      ∙ negative-negative n v hv

  -- u is w less v where u plus v is w
  pub plus-moved : (n : ℕ) (u v w : List ℕ) → Vector K n u → Vector K n v → plus K u v ≡ w → u ≡ plus K w (negative K v)
  plus-moved n u v w hu hv e =
      sym (plus-zeros n u hu) ∙ ap (plus K u) (sym (plus-negative n v hv)) ∙ sym (plus-assoc u v (negative K v))
      ∙ ap (λ t. plus K t (negative K v)) e

  -- scaling
  pub multiple-plus : (k : ℕ) (u v : List ℕ) → multiple K k (plus K u v) ≡ plus K (multiple K k u) (multiple K k v)
  multiple-plus k [] v = refl
  multiple-plus k (a ∷ u) [] = refl
  multiple-plus k (a ∷ u) (b ∷ v) = ap₂ ◌∷◌ (F.mul_add k a b) (multiple-plus k u v)

  pub multiple-add : (j k : ℕ) (v : List ℕ) → multiple K (K.add j k) v ≡ plus K (multiple K j v) (multiple K k v)
  multiple-add j k [] = refl
  multiple-add j k (a ∷ v) = ap₂ ◌∷◌ (add_mul K F j k a) (multiple-add j k v)

  pub multiple-mul : (j k : ℕ) (v : List ℕ) → multiple K (K.mul j k) v ≡ multiple K j (multiple K k v)
  multiple-mul j k [] = refl
  multiple-mul j k (a ∷ v) = ap₂ ◌∷◌ (F.mul_assoc j k a) (multiple-mul j k v)

  pub multiple-neg : (k : ℕ) (v : List ℕ) → multiple K (K.neg k) v ≡ negative K (multiple K k v)
  multiple-neg k [] = refl
  multiple-neg k (a ∷ v) = ap₂ ◌∷◌ (neg_mul K F k a) (multiple-neg k v)

  pub multiple-negative : (k : ℕ) (v : List ℕ) → multiple K k (negative K v) ≡ negative K (multiple K k v)
  multiple-negative k [] = refl
  multiple-negative k (a ∷ v) = ap₂ ◌∷◌ (mul_neg K F k a) (multiple-negative k v)

  pub multiple-zeros : (k n : ℕ) → multiple K k (zeros n) ≡ zeros n
  multiple-zeros k zero = refl
  multiple-zeros k (suc n) = ap₂ ◌∷◌ (mul_zero K F k) (multiple-zeros k n)

  pub multiple-zero : (n : ℕ) (v : List ℕ) → Vector K n v → multiple K 0 v ≡ zeros n
  multiple-zero zero [] h = refl
  multiple-zero zero (a ∷ v) h = absurd h
  multiple-zero (suc n) [] h = absurd h
  multiple-zero (suc n) (a ∷ v) h = ap₂ ◌∷◌ (zero_mul K F a) (multiple-zero n v h.1)

  pub multiple-one : (n : ℕ) (v : List ℕ) → Vector K n v → multiple K 1 v ≡ v
  multiple-one zero [] h = refl
  multiple-one zero (a ∷ v) h = absurd h
  multiple-one (suc n) [] h = absurd h
  multiple-one (suc n) (a ∷ v) h = ap₂ ◌∷◌ (one_mul K F a h.0) (multiple-one n v h.1)

  pub multiple-neg_one : (n : ℕ) (v : List ℕ) → Vector K n v → multiple K (K.neg 1) v ≡ negative K v
  multiple-neg_one n v h = multiple-neg 1 v ∙ ap (negative K) (multiple-one n v h)

  -- the product of two vectors is linear in each
  pub dot-below : (u v : List ℕ) → dot K u v < K.order
  dot-below [] v = zero_below K F
  dot-below (a ∷ u) [] = zero_below K F
  dot-below (a ∷ u) (b ∷ v) = F.add_below (K.mul a b) (dot K u v)

  pub dot-comm : (u v : List ℕ) → dot K u v ≡ dot K v u
  dot-comm [] [] = refl
  dot-comm [] (b ∷ v) = refl
  dot-comm (a ∷ u) [] = refl
  dot-comm (a ∷ u) (b ∷ v) = ap₂ K.add (F.mul_comm a b) (dot-comm u v)

  pub dot-plus : (n : ℕ) (r u v : List ℕ) → Vector K n u → Vector K n v → dot K r (plus K u v)
      ≡ K.add (dot K r u) (dot K r v)
  dot-plus n [] u v hu hv = sym (F.add_zero 0 (zero_below K F))
  dot-plus zero (c ∷ r) [] [] hu hv = sym (F.add_zero 0 (zero_below K F))
  dot-plus zero (c ∷ r) [] (b ∷ v) hu hv = absurd hv
  dot-plus zero (c ∷ r) (a ∷ u) v hu hv = absurd hu
  dot-plus (suc n) (c ∷ r) [] v hu hv = absurd hu
  dot-plus (suc n) (c ∷ r) (a ∷ u) [] hu hv = absurd hv
  dot-plus (suc n) (c ∷ r) (a ∷ u) (b ∷ v) hu hv =
      ap₂ K.add (F.mul_add c a b) (dot-plus n r u v hu.1 hv.1)
      ∙ add_cross K F (K.mul c a) (K.mul c b) (dot K r u) (dot K r v)

  pub plus-dot : (n : ℕ) (u v r : List ℕ) → Vector K n u → Vector K n v → dot K (plus K u v) r
      ≡ K.add (dot K u r) (dot K v r)
  plus-dot n u v r hu hv =
      dot-comm (plus K u v) r ∙ dot-plus n r u v hu hv ∙ ap₂ K.add (dot-comm r u) (dot-comm r v)

  pub dot-multiple : (k : ℕ) (u v : List ℕ) → dot K u (multiple K k v) ≡ K.mul k (dot K u v)
  dot-multiple k [] v = sym (mul_zero K F k)
  dot-multiple k (a ∷ u) [] = sym (mul_zero K F k)
  dot-multiple k (a ∷ u) (b ∷ v) =
      ap₂ K.add (mul_left_comm K F a k b) (dot-multiple k u v) ∙ sym (F.mul_add k (K.mul a b) (dot K u v))

  pub multiple-dot : (k : ℕ) (u v : List ℕ) → dot K (multiple K k u) v ≡ K.mul k (dot K u v)
  multiple-dot k u v = dot-comm (multiple K k u) v ∙ dot-multiple k v u ∙ ap (K.mul k) (dot-comm v u)

  pub dot-negative : (u v : List ℕ) → dot K u (negative K v) ≡ K.neg (dot K u v)
  dot-negative [] v = sym (neg_zero K F)
  dot-negative (a ∷ u) [] = sym (neg_zero K F)
  dot-negative (a ∷ u) (b ∷ v) = ap₂ K.add (mul_neg K F a b) (dot-negative u v)
      ∙ sym (neg_of_sum K F (K.mul a b) (dot K u v))

  pub negative-dot : (u v : List ℕ) → dot K (negative K u) v ≡ K.neg (dot K u v)
  negative-dot u v = dot-comm (negative K u) v ∙ dot-negative v u ∙ ap K.neg (dot-comm v u)

  pub dot-zeros : (n : ℕ) (v : List ℕ) → dot K v (zeros n) ≡ 0
  dot-zeros n [] = refl
  dot-zeros zero (a ∷ v) = refl
  dot-zeros (suc n) (a ∷ v) = ap₂ K.add (mul_zero K F a) (dot-zeros n v) ∙ F.add_zero 0 (zero_below K F)

  pub zeros-dot : (n : ℕ) (v : List ℕ) → dot K (zeros n) v ≡ 0
  zeros-dot n v = dot-comm (zeros n) v ∙ dot-zeros n v

  pub dot-append : (u v u' v' : List ℕ) → length u ≡ length v → dot K (u ++ u') (v ++ v')
      ≡ K.add (dot K u v) (dot K u' v')
  dot-append [] [] u' v' e = sym (zero_add K F (dot K u' v') (dot-below u' v'))
  dot-append [] (b ∷ v) u' v' e = absurd (omega arith)
  dot-append (a ∷ u) [] u' v' e = absurd (omega arith)
  dot-append (a ∷ u) (b ∷ v) u' v' e =
      ap (K.add (K.mul a b)) (dot-append u v u' v' (omega arith))
      ∙ sym (F.add_assoc (K.mul a b) (dot K u v) (dot K u' v'))

  -- vectors that act alike are one
  pub vector-ext : (n : ℕ) (u v : List ℕ) → Vector K n u → Vector K n v
      → ((w : List ℕ) → Vector K n w → dot K u w ≡ dot K v w) → u ≡ v
  vector-ext zero [] [] hu hv e = refl
  vector-ext zero [] (b ∷ v) hu hv e = absurd hv
  vector-ext zero (a ∷ u) v hu hv e = absurd hu
  vector-ext (suc n) [] v hu hv e = absurd hu
  vector-ext (suc n) (a ∷ u) [] hu hv e = absurd hv
  vector-ext (suc n) (a ∷ u) (b ∷ v) hu hv e =
      ap₂ ◌∷◌
      (sym (first a u hu.0) ∙ e (1 ∷ zeros n) (one_below K F, zeros-vector n) ∙ first b v hv.0)
      (vector-ext n u v hu.1 hv.1 (λ w h. sym (rest a u w) ∙ e (0 ∷ w) (zero_below K F, h) ∙ rest b v w))
    where
      first : (c : ℕ) (q : List ℕ) → c < K.order → dot K (c ∷ q) (1 ∷ zeros n) ≡ c
      first c q l = ap₂ K.add (F.mul_one c l) (dot-zeros n q) ∙ F.add_zero c l

      rest : (c : ℕ) (q w : List ℕ) → dot K (c ∷ q) (0 ∷ w) ≡ dot K q w
      rest c q w = ap (λ t. K.add t (dot K q w)) (mul_zero K F c) ∙ zero_add K F (dot K q w) (dot-below q w)

  -- a combination is linear in its coefficients
  pub combination-plus : (m n : ℕ) (cs ds : List ℕ) (vs : List (List ℕ)) → Vector K m cs → Vector K m ds
      → combination K n (plus K cs ds) vs ≡ plus K (combination K n cs vs) (combination K n ds vs)
  combination-plus zero n [] [] vs hc hd = sym (zeros-plus-zeros n)
  combination-plus zero n [] (d ∷ ds) vs hc hd = absurd hd
  combination-plus zero n (c ∷ cs) ds vs hc hd = absurd hc
  combination-plus (suc m) n [] ds vs hc hd = absurd hc
  combination-plus (suc m) n (c ∷ cs) [] vs hc hd = absurd hd
  combination-plus (suc m) n (c ∷ cs) (d ∷ ds) [] hc hd = sym (zeros-plus-zeros n)
  combination-plus (suc m) n (c ∷ cs) (d ∷ ds) (v ∷ vs) hc hd =
      ap₂ (plus K) (multiple-add c d v) (combination-plus m n cs ds vs hc.1 hd.1)
      ∙ plus-cross (multiple K c v) (multiple K d v) (combination K n cs vs) (combination K n ds vs)

  pub combination-multiple : (n k : ℕ) (cs : List ℕ) (vs : List (List ℕ)) → combination K n (multiple K k cs) vs
      ≡ multiple K k (combination K n cs vs)
  combination-multiple n k [] vs = sym (multiple-zeros k n)
  combination-multiple n k (c ∷ cs) [] = sym (multiple-zeros k n)
  combination-multiple n k (c ∷ cs) (v ∷ vs) =
      ap₂ (plus K) (multiple-mul k c v) (combination-multiple n k cs vs)
      ∙ sym (multiple-plus k (multiple K c v) (combination K n cs vs))

  pub combination-negative : (n : ℕ) (cs : List ℕ) (vs : List (List ℕ)) → combination K n (negative K cs) vs
      ≡ negative K (combination K n cs vs)
  combination-negative n [] vs = sym (negative-zeros n)
  combination-negative n (c ∷ cs) [] = sym (negative-zeros n)
  combination-negative n (c ∷ cs) (v ∷ vs) =
      ap₂ (plus K) (multiple-neg c v) (combination-negative n cs vs)
      ∙ sym (negative-of-plus (multiple K c v) (combination K n cs vs))

  pub combination-zeros : (k m n : ℕ) (vs : List (List ℕ)) → Matrix K m n vs → combination K n (zeros k) vs ≡ zeros n
  combination-zeros zero m n vs h = refl
  combination-zeros (suc k) m n [] h = refl
  combination-zeros (suc k) zero n (v ∷ vs) h = absurd h
  combination-zeros (suc k) (suc m) n (v ∷ vs) h =
      ap₂ (plus K) (multiple-zero n v h.0) (combination-zeros k m n vs h.1) ∙ zeros-plus-zeros n

  -- the combination of vectors that follow one another
  pub combination-append : (m n : ℕ) (cs ds : List ℕ) (vs ws : List (List ℕ)) → length cs ≡ length vs → Matrix K m n ws
      → combination K n (cs ++ ds) (vs ++ ws) ≡ plus K (combination K n cs vs) (combination K n ds ws)
  combination-append m n [] ds [] ws e h = sym (zeros-plus n (combination K n ds ws) (combination-vector m n ds ws h))
  combination-append m n [] ds (v ∷ vs) ws e h = absurd (omega arith)
  combination-append m n (c ∷ cs) ds [] ws e h = absurd (omega arith)
  combination-append m n (c ∷ cs) ds (v ∷ vs) ws e h =
      ap (plus K (multiple K c v)) (combination-append m n cs ds vs ws (omega arith) h)
      ∙ sym (plus-assoc (multiple K c v) (combination K n cs vs) (combination K n ds ws))

  pub combination-one : (n c : ℕ) (v : List ℕ) → Vector K n v → combination K n (c ∷ []) (v ∷ []) ≡ multiple K c v
  combination-one n c v h = plus-zeros n (multiple K c v) (multiple-vector n c v h)

  pub combination-push : (n : ℕ) (cs : List ℕ) (vs : List (List ℕ)) (c : ℕ) (v : List ℕ) → length cs ≡ length vs
      → Vector K n v
      → combination K n (cs ++ c ∷ []) (vs ++ v ∷ []) ≡ plus K (combination K n cs vs) (multiple K c v)
  combination-push n cs vs c v e h =
      combination-append 1 n cs (c ∷ []) vs (v ∷ []) e (h, tt)
      ∙ ap (plus K (combination K n cs vs)) (combination-one n c v h)

  -- a combination of combinations is one combination
  pub combination-combination : (l m n : ℕ) (cs : List ℕ) (ds vs : List (List ℕ)) → Matrix K l m ds → Matrix K m n vs
      → combination K n (combination K m cs ds) vs ≡ combination K n cs (map (λ d. combination K n d vs) ds)
  combination-combination l m n [] ds vs hd hv = combination-zeros m m n vs hv
  combination-combination l m n (c ∷ cs) [] vs hd hv = combination-zeros m m n vs hv
  combination-combination zero m n (c ∷ cs) (d ∷ ds) vs hd hv = absurd hd
  combination-combination (suc l) m n (c ∷ cs) (d ∷ ds) vs hd hv =
      combination-plus m n (multiple K c d) (combination K m cs ds) vs (multiple-vector m c d hd.0)
      (combination-vector l m cs ds hd.1)
      ∙ ap₂ (plus K) (combination-multiple n c d vs) (combination-combination l m n cs ds vs hd.1 hv)

  -- the functional of a combination: the combination of the functionals
  pub combination-dot : (m n : ℕ) (cs : List ℕ) (vs : List (List ℕ)) (w : List ℕ) → Matrix K m n vs
      → dot K (combination K n cs vs) w ≡ dot K cs (map (λ v. dot K v w) vs)
  combination-dot m n [] vs w h = zeros-dot n w
  combination-dot m n (c ∷ cs) [] w h = zeros-dot n w
  combination-dot zero n (c ∷ cs) (v ∷ vs) w h = absurd h
  combination-dot (suc m) n (c ∷ cs) (v ∷ vs) w h =
      plus-dot n (multiple K c v) (combination K n cs vs) w (multiple-vector n c v h.0)
      (combination-vector m n cs vs h.1)
      ∙ ap₂ K.add (multiple-dot c v w) (combination-dot m n cs vs w h.1)

pub ruleset pushing = (zeros-pushed)
