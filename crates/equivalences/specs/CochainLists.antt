-- Lists of cochains of one degree.
use Rattle.std.specs.Prelude.{◌≡◌, ℕ, List, map, All}
use Rattle.cochain_vec.specs.declared.cochain.Cochain.{Cochain}

-- the coordinates of each
abbrev pub values_of : List Cochain → List (List ℕ)
values_of zs = map (λ z. z.values.items) zs

-- cochains of degree k, with these coordinates
pub record AreCochains (k : ℕ) (values : List (List ℕ)) (zs : List Cochain) : Type 0 where
  pub degrees : All (λ z. z.degree ≡ k) zs
  pub values_are : values_of zs ≡ values
