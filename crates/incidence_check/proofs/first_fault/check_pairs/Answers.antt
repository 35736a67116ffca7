use Rattle.std.proofs.Common.{◌≡◌, ℕ, ◌<◌, ◌≤◌, ⊎_elim, length, sym, ap, ◌∙◌, arith}
use Rattle.std.proofs.lemmas.Bool.{cases_lt}
use Rattle.cell_complex.specs.Complexes.{CellComplex}
use Rattle.cell_complex.specs.Invariants.{cofaces_of}
use Rattle.incidence_check.specs.Answers.{pair_fault}
use Rattle.incidence_check.proofs.Firsts.{filter_map-none, filter_map-first}
use Rattle.incidence_check.proofs.Faults.{none_unreached, reached-below}
use Rattle.incidence_check.proofs.first_fault.check_pairs.Goals as goal

pub pair_fault-requires-clause-u_is_cell : goal.pair_fault-requires-clause-u_is_cell
pair_fault-requires-clause-u_is_cell c =
    let all : CellComplex = c.args.c.now in
    reached-below all c.requires.complex (cofaces_of all c.args.s) c.in-Some.u c.in-Some.ensures.1

pub returns-in-Some-pair_fault : goal.returns-in-Some-pair_fault
returns-in-Some-pair_fault c =
    let all : CellComplex = c.args.c.now in
    let u : ℕ = c.in-Some.u in
    let inside : u < length all.dims = reached-below all c.requires.complex (cofaces_of all c.args.s) u
    c.in-Some.ensures.1 in
    filter_map-first (pair_fault all c.args.s) 0 (length all.dims) u c.in-Some-pair_fault.fault (omega arith)
    (omega arith)
    (λ k l m. ⊎_elim (λ (before : k < c.loop-u.from). c.loop-u.invariant.before k before)
    (λ (after : c.loop-u.from ≤ k). none_unreached all c.args.s k (c.in-Some.ensures.2 k after m))
    (cases_lt k c.loop-u.from))
    (sym c.in-Some-pair_fault.ensures)

pub overflow_add-from : goal.overflow_add-from
overflow_add-from c =
    let all : CellComplex = c.args.c.now in
    omega (
      arith,
      c.requires.complex.small.few,
      reached-below all c.requires.complex (cofaces_of all c.args.s)
          c.in-Some.u c.in-Some.ensures.1,
    )

pub loop-u-smaller : goal.loop-u-smaller
loop-u-smaller c =
    let all : CellComplex = c.args.c.now in
    omega (
      arith,
      c.in-Some.ensures.0,
      reached-below all c.requires.complex (cofaces_of all c.args.s) c.in-Some.u
          c.in-Some.ensures.1,
    )

pub loop-u-preserved : goal.loop-u-preserved
loop-u-preserved c =
    let all : CellComplex = c.args.c.now in
    let u : ℕ = c.in-Some.u in
    record {
      within = omega (arith, reached-below all c.requires.complex (cofaces_of all c.args.s) u c.in-Some.ensures.1);
      before = λ k l. ⊎_elim (λ (before : k < c.loop-u.from). c.loop-u.invariant.before k before)
          (λ (after : c.loop-u.from ≤ k).
          ⊎_elim (λ (less : k < u). none_unreached all c.args.s k (c.in-Some.ensures.2 k after less))
          (λ (more : u ≤ k). let same : k ≡ u = omega arith in ap (pair_fault all c.args.s) same
          ∙ sym c.in_default-pair_fault.ensures) (cases_lt k u)) (cases_lt k c.loop-u.from);
    }

pub returns : goal.returns
returns c =
    let all : CellComplex = c.args.c.now in
    filter_map-none (pair_fault all c.args.s) 0 (length all.dims)
    (λ k l m. ⊎_elim (λ (before : k < c.loop-u.from). c.loop-u.invariant.before k before)
    (λ (after : c.loop-u.from ≤ k). none_unreached all c.args.s k (c.in_default.ensures k after))
    (cases_lt k c.loop-u.from))
