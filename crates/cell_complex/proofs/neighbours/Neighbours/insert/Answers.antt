use Rattle.std.proofs.Common.{◌≡◌, ℕ, true, false, List, [], nat_lt, insert, length, set, get_or, sym, ap, ◌∙◌, subst}
use Rattle.std.proofs.Common.{arith, rules, is_ok, if◌then◌else◌}
use Rattle.std.specs.List.{AllWithin}
use Rattle.std.specs.List.Sorted.{IsNonDecreasing}
use Rattle.std.proofs.lemmas.List.{map-set, get_or-map, length-map}
use Rattle.std.proofs.lemmas.List.Sorted.{IsPartitionedBy-ltb, IsPartitionPoint-from_clause}
use Rattle.cell_complex.specs.Neighbours.{neighbour_lists, with_cell}
use Rattle.cell_complex.proofs.Numbers.{insert-with_cell}
use Rattle.cell_complex.proofs.neighbours.Neighbours.insert.Goals as goal

pub returns : goal.returns
returns c =
    let x : ℕ = c.args.other in
    let i : ℕ = c.partition_point-at.result in
    let vs = c.args.self.now.lists.items in
    let v = c.index_mut-list.result.now in
    let xs : List ℕ = v.items in
    let ys : List ℕ = c.deref.result.now in
    let same : ys ≡ xs = c.deref.ensures.value in
    let is : get_or (neighbour_lists c.args.self.now) c.args.cell [] ≡ xs =
    get_or-map (λ w. w.items) vs c.args.cell v [] (omega (arith, length-map vs (λ w. w.items), c.requires.cell))
    ∙ ap (λ w. w.items) (sym c.index_mut-list.ensures.value) in
    let rise : IsNonDecreasing ys = subst IsNonDecreasing (is ∙ sym same) c.requires.rising in
    let point : AllWithin (λ y. nat_lt y x ≡ true) ys 0 i × AllWithin (λ y. nat_lt y x ≡ false) ys i (length ys) =
    IsPartitionPoint-from_clause (λ y. nat_lt y x) ys i c.partition_point-at.ensures.partitioned
    (IsPartitionedBy-ltb (λ y. y) ys x rise) (λ a r q k. search rules) in
    let after : c.insert.new.self.items ≡ insert xs i x = c.insert.ensures.items
    ∙ ap (λ r. if is_ok r then insert xs i x else xs) c.unwrap.ensures in
    map-set (λ w. w.items) vs c.args.cell c.insert.new.self
    ∙ ap (set (neighbour_lists c.args.self.now) c.args.cell)
    (after ∙ ap (λ s. insert s i x) (sym same) ∙ insert-with_cell x ys i (omega arith) point.0 point.1
    ∙ ap (with_cell x) (same ∙ sym is))
