-- Sums and products with one remainder each, or one for all of them.
use Rattle.std.proofs.Common.{◌≡◌, ℕ, zero, suc, ◌+◌, ◌*◌, ◌%◌, ◌<◌, ◌≤◌, List, [], ◌∷◌, ◌++◌, length, take, drop}
use Rattle.std.proofs.Common.{get_or}
use Rattle.std.proofs.Common.{sym, ap, ap₂, ◌∙◌, add-zero, arith}
use Rattle.std.proofs.lemmas.List.{drop_more, drop_all, take-append-drop}
use Rattle.std.proofs.lemmas.Nat.{mul-le, mod_below}
use Rattle.std.proofs.Math.Nat.{add-mod, add_assoc, zero-mod}
use Rattle.dense_blocks.specs.Field.{Ops}
use Rattle.dense_blocks.specs.FieldLaws.{IsField}
use Rattle.dense_blocks.specs.Vectors.{AllScalars, plus, multiple, dot}
use Rattle.dense_blocks.proofs.VectorLaws.{dot-append}
use Rattle.field_table.specs.Modular.{modulo}
use Rattle.field_table.specs.ModularFacts.{whole_dot}

-- remainders are scalars
pub plus-scalars : (q : ℕ) → 0 < q → (u v : List ℕ) → AllScalars (modulo q) (plus (modulo q) u v)
plus-scalars q h [] v k d l = absurd (omega arith)
plus-scalars q h (a ∷ u) [] k d l = absurd (omega arith)
plus-scalars q h (a ∷ u) (b ∷ v) zero d l = mod_below (a + b) q h
plus-scalars q h (a ∷ u) (b ∷ v) (suc k) d l = plus-scalars q h u v k d (omega arith)

pub multiple-scalars : (q : ℕ) → 0 < q → (m : ℕ) (v : List ℕ) → AllScalars (modulo q) (multiple (modulo q) m v)
multiple-scalars q h m [] k d l = absurd (omega arith)
multiple-scalars q h m (b ∷ v) zero d l = mod_below (m * b) q h
multiple-scalars q h m (b ∷ v) (suc k) d l = multiple-scalars q h m v k d (omega arith)

-- one remainder for all products and their sum
pub whole_dot-remainder : (q : ℕ) (u v : List ℕ) → whole_dot u v % q ≡ dot (modulo q) u v
whole_dot-remainder q [] v = zero-mod q
whole_dot-remainder q (a ∷ u) [] = zero-mod q
whole_dot-remainder q (a ∷ u) (b ∷ v) =
    add-mod (a * b) (whole_dot u v) q ∙ ap (λ t. ((a * b) % q + t) % q) (whole_dot-remainder q u v)

-- one product more
pub whole_dot-next : (u v : List ℕ) (i total a b : ℕ) → i < length u → length u ≡ length v → a ≡ get_or u i 0
    → b ≡ get_or v i 0 → total + whole_dot (drop i u) (drop i v) ≡ whole_dot u v
    → (total + a * b) + whole_dot (drop (i + 1) u) (drop (i + 1) v) ≡ whole_dot u v
whole_dot-next u v i total a b l e is_a is_b h =
    ap₂ (λ x y. (total + x * y) + whole_dot (drop (i + 1) u) (drop (i + 1) v)) is_a is_b
    ∙ add_assoc total (get_or u i 0 * get_or v i 0) (whole_dot (drop (i + 1) u) (drop (i + 1) v))
    ∙ ap (λ t. total + t) (sym (ap₂ whole_dot (drop_more u i 0 l) (drop_more v i 0 (omega arith)))) ∙ h

-- no product is left
pub whole_dot-all : (u v : List ℕ) (i total : ℕ) → length u ≤ i → length u ≡ length v
    → total + whole_dot (drop i u) (drop i v) ≡ whole_dot u v → total ≡ whole_dot u v
whole_dot-all u v i total l e h =
    sym (add-zero total)
    ∙ ap (λ t. total + t) (sym (ap₂ whole_dot (drop_all i u l) (drop_all i v (omega arith)))) ∙ h

-- the products of i + 1 pairs of bytes
pub products-small : (i total a b : ℕ) → total ≤ i * 65025 → a < 256 → b < 256 → total + a * b ≤ (i + 1) * 65025
products-small i total a b h la lb = let p : a * b ≤ 65025 = mul-le a b 255 255 (omega arith) (omega arith) in
    omega arith

-- the products of the first n pairs, and of the later ones
pub dot-parts : (K : Ops) → IsField K → (n : ℕ) (u v u_front v_front u_back v_back : List ℕ) → u_front ≡ take n u
    → v_front ≡ take n v → u_back ≡ drop n u → v_back ≡ drop n v → length u_front ≡ length v_front
    → K.add (dot K u_front v_front) (dot K u_back v_back) ≡ dot K u v
dot-parts K h n u v u_front v_front u_back v_back u_first v_first u_later v_later e =
    sym (dot-append K h u_front v_front u_back v_back e)
    ∙ ap₂ (dot K) (ap₂ (λ x y. x ++ y) u_first u_later ∙ take-append-drop n u)
    (ap₂ (λ x y. x ++ y) v_first v_later ∙ take-append-drop n v)
