-- Faces as the entries of a map from pairs of cells to signs.
use Rattle.std.proofs.Common.{◌≡◌, ℕ, Bool, true, false, cond, not, ◌+◌, ◌&&◌, ◌||◌, nat_eq, nat_lt, List, [], ◌∷◌, map}
use Rattle.std.proofs.Common.{Option, None, Some, is_some, find, position, refl, sym, ap, ap₂, ◌∙◌}
use Rattle.std.specs.List.{list_any, prefix_len}
use Rattle.std.specs.Map.{lookup, keys_of}
use Rattle.std.specs.Option.{option_map}
use Rattle.std.proofs.lemmas.List.{length-map}
use Rattle.cell_complex.specs.declared.face.Sign.{Sign}
use Rattle.cell_complex.specs.Complexes.{joins}
use Rattle.cell_complex.specs.Fields.{face_of_entry}

-- whether the key is the pair of s and t
abbrev pub is_pair : ℕ → ℕ → ℕ × ℕ → Bool
is_pair s t k = nat_eq s k.0 && nat_eq t k.1

prefix_len-map : {X Y : Type 0} (p : Y → Bool) (f : X → Y) (xs : List X) → prefix_len p (map f xs)
    ≡ prefix_len (λ x. p (f x)) xs
prefix_len-map p f [] = refl
prefix_len-map p f (x ∷ xs) = ap (λ n. cond (p (f x)) (1 + n) 0) (prefix_len-map p f xs)

position-map : {X Y : Type 0} (p : Y → Bool) (f : X → Y) (xs : List X) → position p (map f xs) ≡ position (λ x. p (f x))
    xs
position-map p f xs = ap₂ (λ i n. cond (nat_lt i n) (Some i) None) (prefix_len-map (λ y. not (p y)) f xs)
    (length-map xs f)

module _ (s t : ℕ) where
  pub lookup-sign : (es : List ((ℕ × ℕ) × Sign)) → lookup (is_pair s t) es ≡ option_map (λ f. f.sign)
      (find (joins s t) (map face_of_entry es))
  lookup-sign [] = refl
  lookup-sign (e ∷ es) = by (is_pair s t e.0) (lookup-sign es)
    where
      by : (b : Bool) → lookup (is_pair s t) es ≡ option_map (λ f. f.sign) (find (joins s t) (map face_of_entry es))
          → cond b (Some e.1) (lookup (is_pair s t) es) ≡ option_map (λ f. f.sign)
          (cond b (Some (face_of_entry e)) (find (joins s t) (map face_of_entry es)))
      by true h = refl
      by false h = h

  pub is_some-lookup : (es : List ((ℕ × ℕ) × Sign)) → is_some (lookup (is_pair s t) es) ≡ list_any (joins s t)
      (map face_of_entry es)
  is_some-lookup [] = refl
  is_some-lookup (e ∷ es) = by (is_pair s t e.0) (is_some-lookup es)
    where
      by : (b : Bool) → is_some (lookup (is_pair s t) es) ≡ list_any (joins s t) (map face_of_entry es)
          → is_some (cond b (Some e.1) (lookup (is_pair s t) es)) ≡ (b || list_any (joins s t) (map face_of_entry es))
      by true h = refl
      by false h = h

  pub position-place : (es : List ((ℕ × ℕ) × Sign)) → position (is_pair s t) (keys_of es) ≡ position (joins s t)
      (map face_of_entry es)
  position-place es = position-map (is_pair s t) (λ e. e.0) es ∙ sym (position-map (joins s t) face_of_entry es)

-- nothing is found where no face joins the pair
pub none-lookup : (s t : ℕ) (es : List ((ℕ × ℕ) × Sign)) → list_any (joins s t) (map face_of_entry es) ≡ false
    → lookup (is_pair s t) es ≡ None
none-lookup s t es h = by (lookup (is_pair s t) es) (is_some-lookup s t es ∙ h)
  where
    by : (o : Option Sign) → is_some o ≡ false → o ≡ None
    by None h = refl
    by (Some x) h = absurd (cc)
