use Rattle.std.proofs.Common.{ℕ, ◌+◌, ◌<◌, nat_eq, List, length, take, get_or, All, sym, subst, arith}
use Rattle.std.specs.List.{list_any}
use Rattle.cell_complex.specs.Complexes.{CellComplex}
use Rattle.cell_complex.specs.Invariants.{cofaces_of}
use Rattle.cell_complex.proofs.Numbers.{non_decreasing}
use Rattle.cell_complex.proofs.Callers.{cofaces_of-below}
use Rattle.incidence_check.specs.Reach.{IsLeastFrom, reaches}
use Rattle.incidence_check.proofs.Least.{lesser-least, least_agree}
use Rattle.incidence_check.proofs.Faults.{reaches-more}
use Rattle.incidence_check.proofs.reach.next_above.Goals as goal

pub cofaces_of-requires : goal.cofaces_of-requires
cofaces_of-requires c =
    subst (λ ts. All (λ t. t < length c.args.c.now.dims) ts) (sym c.cofaces_of-t-items.ensures.cells)
    (cofaces_of-below c.args.c.now c.args.s) c.loop-t.t-index 0 (omega arith)

pub first_from-requires : goal.first_from-requires
first_from-requires c = non_decreasing c.cofaces_of.result.now c.cofaces_of.ensures.rising

pub loop-t-preserved : goal.loop-t-preserved
loop-t-preserved c =
    let all : CellComplex = c.args.c.now in
    let ts : List ℕ = c.cofaces_of-t-items.result.now in
    let i : ℕ = c.loop-t.t-index in
    let from : ℕ = c.args.from in
    let above : List ℕ = cofaces_of all (get_or ts i 0) in
    let found : IsLeastFrom (λ u. list_any (nat_eq u) above) from c.first_from.result =
    subst (λ us. IsLeastFrom (λ u. list_any (nat_eq u) us) from c.first_from.result) c.cofaces_of.ensures.cells
    c.first_from.ensures in
    subst (IsLeastFrom (reaches all (take (i + 1) ts)) from) (sym c.lesser-least.ensures)
    (least_agree _ (reaches all (take (i + 1) ts)) from _
    (λ u. reaches-more all c.requires.complex ts i 0 u (omega arith))
    (lesser-least (reaches all (take i ts)) (λ u. list_any (nat_eq u) above) from c.loop-t.least c.first_from.result
    c.loop-t.invariant found))
