use Rattle.std.proofs.Common.{◌≡◌, ℕ, true, false, List, nat_eq, nat_lt, length, sym, ◌∙◌, subst, rules}
use Rattle.std.specs.List.{AllWithin, list_any}
use Rattle.std.proofs.lemmas.List.Sorted.{IsPartitionedBy-ltb, IsPartitionPoint-from_clause}
use Rattle.incidence_check.specs.Reach.{IsLeastFrom}
use Rattle.incidence_check.proofs.Least.{copied-get, least-point}
use Rattle.incidence_check.proofs.reach.first_from.Goals as goal

pub returns : goal.returns
returns c =
    let xs : List ℕ = c.args.numbers.now in
    let from : ℕ = c.args.from in
    let i : ℕ = c.partition_point-at.result in
    let point : AllWithin (λ y. nat_lt y from ≡ true) xs 0 i × AllWithin (λ y. nat_lt y from ≡ false) xs i (length xs) =
    IsPartitionPoint-from_clause (λ y. nat_lt y from) xs i c.partition_point-at.ensures.partitioned
    (IsPartitionedBy-ltb (λ y. y) xs from c.requires) (λ a r q k. search rules) in
    subst (IsLeastFrom (λ u. list_any (nat_eq u) xs) from) (copied-get xs i c.get.result c.get.ensures.lookup
    ∙ sym c.copied.ensures) (least-point xs from i c.requires point.0 point.1)
