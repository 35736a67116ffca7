-- The number of degrees, with one dimension more.
use Rattle.std.proofs.Common.{◌≡◌, ℕ, zero, suc, ◌<◌, ◌+◌, List, [], ◌∷◌, length, take, get_or, max, ap, ◌∙◌}
use Rattle.std.proofs.Common.{add-one, arith}
use Rattle.sheaf_data.specs.Betti.{degree_count}

count_next : (ds : List ℕ) (i : ℕ) → i < length ds → degree_count (take (suc i) ds) ≡ max (degree_count (take i ds))
    (get_or ds i 0 + 1)
count_next [] i h = absurd (omega arith)
count_next (d ∷ ds) zero h = omega arith
count_next (d ∷ ds) (suc i) h = let rest = count_next ds i (omega arith) in omega arith

-- one dimension more
pub degree_count_next : (ds : List ℕ) (i : ℕ) → i < length ds → degree_count (take (i + 1) ds)
    ≡ max (degree_count (take i ds)) (get_or ds i 0 + 1)
degree_count_next ds i h = ap (λ k. degree_count (take k ds)) (add-one i) ∙ count_next ds i h
