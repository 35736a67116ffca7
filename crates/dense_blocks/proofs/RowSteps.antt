-- Rows that a loop changes entry by entry.
use Rattle.std.proofs.Common.{◌≡◌, ℕ, zero, suc, ◌+◌, ◌<◌, List, [], ◌∷◌, ◌++◌, length, take, get_or, set, replicate}
use Rattle.std.proofs.Common.{refl, sym, ap, ap₂, ◌∙◌, arith, add-one}
use Rattle.std.proofs.lemmas.List.{length-map, take_more}
use Rattle.dense_blocks.specs.Field.{Ops}
use Rattle.dense_blocks.specs.FieldLaws.{IsField}
use Rattle.dense_blocks.specs.Vectors.{zeros, plus, multiple, dot}
use Rattle.dense_blocks.proofs.ScalarLaws.{zero_add}
use Rattle.dense_blocks.proofs.Shapes.{Vector}
use Rattle.dense_blocks.proofs.VectorLaws.{plus-zeros, multiple-zero, dot-below}

-- the first i entries of w, and the later ones of u
unfoldable pub changed : ℕ → List ℕ → List ℕ → List ℕ
changed zero w u = u
changed (suc i) w [] = []
changed (suc i) [] (b ∷ u) = b ∷ u
changed (suc i) (a ∷ w) (b ∷ u) = a ∷ changed i w u

pub changed-none : (w u : List ℕ) → changed 0 w u ≡ u
unfolding changed
changed-none w u = refl

changed-suc : (i : ℕ) (w u : List ℕ) (x : ℕ) → length w ≡ length u → i < length u → x ≡ get_or w i 0
    → set (changed i w u) i x ≡ changed (suc i) w u
unfolding changed
changed-suc i w [] x e l h = absurd (omega arith)
changed-suc i [] (b ∷ u) x e l h = absurd (omega arith)
changed-suc zero (a ∷ w) (b ∷ u) x e l h = ap (λ t. t ∷ u) h
changed-suc (suc i) (a ∷ w) (b ∷ u) x e l h = ap (λ t. a ∷ t) (changed-suc i w u x (omega arith) (omega arith) h)

pub changed-next : (i : ℕ) (w u : List ℕ) (x : ℕ) → length w ≡ length u → i < length u → x ≡ get_or w i 0
    → set (changed i w u) i x ≡ changed (i + 1) w u
changed-next i w u x e l h = changed-suc i w u x e l h ∙ ap (λ t. changed t w u) (sym (add-one i))

pub changed-all : (w u : List ℕ) → length w ≡ length u → changed (length u) w u ≡ w
unfolding changed
changed-all [] [] e = refl
changed-all [] (b ∷ u) e = absurd (omega arith)
changed-all (a ∷ w) [] e = absurd (omega arith)
changed-all (a ∷ w) (b ∷ u) e = ap (λ t. a ∷ t) (changed-all w u (omega arith))

pub changed-at : (i : ℕ) (w u : List ℕ) → get_or (changed i w u) i 0 ≡ get_or u i 0
unfolding changed
changed-at zero w u = refl
changed-at (suc i) w [] = refl
changed-at (suc i) [] (b ∷ u) = refl
changed-at (suc i) (a ∷ w) (b ∷ u) = changed-at i w u

pub length-plus : (K : Ops) (u v : List ℕ) → length v ≡ length u → length (plus K u v) ≡ length u
length-plus K [] v e = refl
length-plus K (a ∷ u) [] e = absurd (omega arith)
length-plus K (a ∷ u) (b ∷ v) e = ap suc (length-plus K u v (omega arith))

pub plus-multiple-at : (K : Ops) (k i : ℕ) (u v : List ℕ) → length v ≡ length u → i < length u
    → K.add (get_or u i 0) (K.mul k (get_or v i 0)) ≡ get_or (plus K u (multiple K k v)) i 0
plus-multiple-at K k i [] v e l = absurd (omega arith)
plus-multiple-at K k i (a ∷ u) [] e l = absurd (omega arith)
plus-multiple-at K k zero (a ∷ u) (b ∷ v) e l = refl
plus-multiple-at K k (suc i) (a ∷ u) (b ∷ v) e l = plus-multiple-at K k i u v (omega arith) (omega arith)

pub multiple-at : (K : Ops) (k i : ℕ) (v : List ℕ) → i < length v → K.mul k (get_or v i 0) ≡ get_or (multiple K k v) i 0
multiple-at K k i [] l = absurd (omega arith)
multiple-at K k zero (b ∷ v) l = refl
multiple-at K k (suc i) (b ∷ v) l = multiple-at K k i v (omega arith)

-- one more entry of u plus k times v
pub add_scaled-next : (K : Ops) (k i : ℕ) (target u v : List ℕ) (a b : ℕ) → length v ≡ length u → i < length u
    → target ≡ changed i (plus K u (multiple K k v)) u → a ≡ get_or target i 0 → b ≡ get_or v i 0
    → set target i (K.add a (K.mul k b)) ≡ changed (i + 1) (plus K u (multiple K k v)) u
add_scaled-next K k i target u v a b e l now is_a is_b =
    let w : List ℕ = plus K u (multiple K k v) in
    let size : length w ≡ length u = length-plus K u (multiple K k v) (length-map v (K.mul k) ∙ e) in
    let at : a ≡ get_or u i 0 = is_a ∙ ap (λ t. get_or t i 0) now ∙ changed-at i w u in
    ap (λ t. set t i (K.add a (K.mul k b))) now
    ∙ changed-next i w u (K.add a (K.mul k b)) size l (ap₂ (λ x y. K.add x (K.mul k y)) at is_b
    ∙ plus-multiple-at K k i u v e l)

pub add_scaled-all : (K : Ops) (k i : ℕ) (target u v : List ℕ) → length v ≡ length u → i ≡ length u
    → target ≡ changed i (plus K u (multiple K k v)) u → target ≡ plus K u (multiple K k v)
add_scaled-all K k i target u v e l now =
    now ∙ ap (λ t. changed t (plus K u (multiple K k v)) u) l
    ∙ changed-all (plus K u (multiple K k v)) u (length-plus K u (multiple K k v) (length-map v (K.mul k) ∙ e))

-- one more entry of k times v
pub scale-next : (K : Ops) (k i : ℕ) (target v : List ℕ) (a : ℕ) → i < length v
    → target ≡ changed i (multiple K k v) v → a ≡ get_or target i 0 → set target i (K.mul k a)
    ≡ changed (i + 1) (multiple K k v) v
scale-next K k i target v a l now is_a =
    let at : a ≡ get_or v i 0 = is_a ∙ ap (λ t. get_or t i 0) now ∙ changed-at i (multiple K k v) v in
    ap (λ t. set t i (K.mul k a)) now
    ∙ changed-next i (multiple K k v) v (K.mul k a) (length-map v (K.mul k)) l (ap (K.mul k) at ∙ multiple-at K k i v l)

pub scale-all : (K : Ops) (k i : ℕ) (target v : List ℕ) → i ≡ length v → target ≡ changed i (multiple K k v) v
    → target ≡ multiple K k v
scale-all K k i target v l now =
    now ∙ ap (λ t. changed t (multiple K k v) v) l ∙ changed-all (multiple K k v) v (length-map v (K.mul k))

pub zeros-replicate : (n : ℕ) → replicate n 0 ≡ zeros n
zeros-replicate zero = refl
zeros-replicate (suc n) = ap (λ t. 0 ∷ t) (zeros-replicate n)

pub zeros-push : (n : ℕ) → zeros n ++ 0 ∷ [] ≡ zeros (suc n)
zeros-push zero = refl
zeros-push (suc n) = ap (λ t. 0 ∷ t) (zeros-push n)

-- one more entry that is 0
pub zeros-next : (i a : ℕ) (v : List ℕ) → i < length v → take i v ≡ zeros i → a ≡ get_or v i 0 → a ≡ 0
    → take (i + 1) v ≡ zeros (i + 1)
zeros-next i a v l e is_a none =
    take_more v i 0 l ∙ ap₂ (λ x y. x ++ y ∷ []) e (sym is_a ∙ none) ∙ zeros-push i ∙ ap zeros (sym (add-one i))

-- the product of u and v from place i on
unfoldable pub dot_from : Ops → ℕ → List ℕ → List ℕ → ℕ
dot_from K zero u v = dot K u v
dot_from K (suc i) [] v = 0
dot_from K (suc i) (a ∷ u) [] = 0
dot_from K (suc i) (a ∷ u) (b ∷ v) = dot_from K i u v

dot_from-suc : (K : Ops) (i : ℕ) (u v : List ℕ) → length u ≡ length v → i < length u
    → dot_from K i u v ≡ K.add (K.mul (get_or u i 0) (get_or v i 0)) (dot_from K (suc i) u v)
unfolding dot_from
dot_from-suc K i [] v e l = absurd (omega arith)
dot_from-suc K i (a ∷ u) [] e l = absurd (omega arith)
dot_from-suc K zero (a ∷ u) (b ∷ v) e l = refl
dot_from-suc K (suc i) (a ∷ u) (b ∷ v) e l = dot_from-suc K i u v (omega arith) (omega arith)

dot_from-end : (K : Ops) (u v : List ℕ) → dot_from K (length u) u v ≡ 0
unfolding dot_from
dot_from-end K [] v = refl
dot_from-end K (a ∷ u) [] = refl
dot_from-end K (a ∷ u) (b ∷ v) = dot_from-end K u v

module _ (K : Ops) (h : IsField K) where
  pub plus-multiple-zero : (n : ℕ) (u v : List ℕ) → Vector K n u → Vector K n v → plus K u (multiple K 0 v) ≡ u
  plus-multiple-zero n u v hu hv = ap (plus K u) (multiple-zero K h n v hv) ∙ plus-zeros K h n u hu

  pub dot_from-start : (u v : List ℕ) → K.add 0 (dot_from K 0 u v) ≡ dot K u v
  unfolding dot_from
  dot_from-start u v = zero_add K h (dot K u v) (dot-below K h u v)

  pub dot_from-next : (i total a b : ℕ) (u v : List ℕ) → length u ≡ length v → i < length u → a ≡ get_or u i 0
      → b ≡ get_or v i 0
      → K.add total (dot_from K i u v) ≡ dot K u v → K.add (K.add total (K.mul a b)) (dot_from K (i + 1) u v)
      ≡ dot K u v
  dot_from-next i total a b u v e l is_a is_b now =
      h.add_assoc total (K.mul a b) (dot_from K (i + 1) u v)
      ∙ ap (K.add total)
      (ap₂ (λ x y. K.add (K.mul x y) (dot_from K (i + 1) u v)) is_a is_b
      ∙ ap (λ t. K.add (K.mul (get_or u i 0) (get_or v i 0)) (dot_from K t u v)) (add-one i)
      ∙ sym (dot_from-suc K i u v e l))
      ∙ now

  pub dot_from-all : (i total : ℕ) (u v : List ℕ) → i ≡ length u → total < K.order → K.add total (dot_from K i u v)
      ≡ dot K u v → total ≡ dot K u v
  dot_from-all i total u v e l now =
      sym (h.add_zero total l) ∙ ap (K.add total) (sym (dot_from-end K u v) ∙ ap (λ t. dot_from K t u v) (sym e)) ∙ now
