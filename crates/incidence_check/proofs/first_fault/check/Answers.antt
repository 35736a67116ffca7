use Rattle.std.proofs.Common.{◌≡◌, ◌++◌, [], Some, Ok, Err, length, slice_get, refl, sym, ap, ap₂, ◌∙◌, subst, arith}
use Rattle.std.specs.List.{filter_map, flat_map}
use Rattle.std.proofs.lemmas.Result.{err_from_is_err_and}
use Rattle.cell_complex.specs.Complexes.{CellComplex, all_cells}
use Rattle.incidence_check.specs.Incidences.{edge_fault, faults}
use Rattle.incidence_check.specs.Answers.{pair_fault, pair_faults}
use Rattle.incidence_check.specs.Answers.{AnswersFirst}
use Rattle.incidence_check.proofs.Firsts.{filter_map-none, filter_map-first, flat_map-none, flat_map-first}
use Rattle.incidence_check.proofs.Firsts.{first-append}
use Rattle.incidence_check.proofs.Faults.{regular_iff}
use Rattle.incidence_check.proofs.first_fault.check.Goals as goal

pub returns-in-Some-clause-first : goal.returns-in-Some-clause-first
returns-in-Some-clause-first c =
    let all : CellComplex = c.args.c.now in
    first-append (filter_map (edge_fault all) (all_cells all)) (flat_map (pair_faults all) (all_cells all))
    c.in-Some.fault
    (filter_map-first (edge_fault all) 0 (length all.dims) c.loop-t.t c.in-Some.fault (omega arith)
    (omega (arith, ap length c.dims.ensures.dims))
    (λ k l m. c.loop-t.invariant k m) (sym c.in-Some.ensures))

pub returns-in_err-check_pairs-clause-first : goal.returns-in_err-check_pairs-clause-first
returns-in_err-check_pairs-clause-first c =
    let all : CellComplex = c.args.c.now in
    let p = err_from_is_err_and c.from_residual.result c.from_residual.ensures.1 in
    let fault = c.in_err-check_pairs.field-0.0 in
    let none : filter_map (edge_fault all) (all_cells all) ≡ [] =
    filter_map-none (edge_fault all) 0 (length all.dims)
    (λ k l m. c.loop-t.invariant k (omega (arith, ap length c.dims.ensures.dims))) in
    let first : slice_get (flat_map (pair_faults all) (all_cells all)) 0 ≡ Some fault =
    flat_map-first (pair_faults all) 0 (length all.dims) c.loop-s.s fault (omega arith)
    (omega (arith, ap length c.dims.ensures.dims))
    (λ k l m. c.loop-s.invariant k m) c.in_err-check_pairs.ensures in
    subst (AnswersFirst (faults all)) (sym (p.1 ∙ ap Err p.2))
    (ap (λ xs. slice_get (xs ++ flat_map (pair_faults all) (all_cells all)) 0) none ∙ first)

pub returns-in_err-check_pairs-clause-regular : goal.returns-in_err-check_pairs-clause-regular
returns-in_err-check_pairs-clause-regular c =
    regular_iff c.args.c.now c.dims.ensures.complex c.from_residual.result (returns-in_err-check_pairs-clause-first c)

pub returns-then-all_pass-clause-first : goal.returns-then-all_pass-clause-first
returns-then-all_pass-clause-first c =
    let all : CellComplex = c.args.c.now in
    ap₂ (λ xs ys. xs ++ ys)
    (filter_map-none (edge_fault all) 0 (length all.dims)
    (λ k l m. c.loop-t.invariant k (omega (arith, ap length c.dims.ensures.dims))))
    (flat_map-none (pair_faults all) 0 (length all.dims)
    (λ s l m. filter_map-none (pair_fault all s) 0 (length all.dims) (λ u p q. c.if-all_pass.ensures refl s u)))

pub returns-clause-first : goal.returns-clause-first
returns-clause-first c =
    let all : CellComplex = c.args.c.now in
    ap₂ (λ xs ys. xs ++ ys)
    (filter_map-none (edge_fault all) 0 (length all.dims)
    (λ k l m. c.loop-t.invariant k (omega (arith, ap length c.dims.ensures.dims))))
    (flat_map-none (pair_faults all) 0 (length all.dims)
    (λ k l m. c.loop-s.invariant k (omega (arith, ap length c.dims.ensures.dims))))

pub returns-clause-regular : goal.returns-clause-regular
returns-clause-regular c = regular_iff c.args.c.now c.dims.ensures.complex (Ok tt) (returns-clause-first c)
