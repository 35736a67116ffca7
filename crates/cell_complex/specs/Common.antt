-- What two lists have in common.
use Rattle.std.specs.Prelude.{ℕ, List, filter, ◌==◌}
use Rattle.std.specs.List.{list_any}

-- the numbers of xs that are in ys, in the order of xs
abbrev pub common : List ℕ → List ℕ → List ℕ
common xs ys = filter (λ x. list_any (λ y. x == y) ys) xs
