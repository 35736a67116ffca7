use Rattle.std.proofs.Common.{◌≡◌, ◌∙◌, ℕ, length, get_or, refl, ap, ap₂, subst, arith}
use Rattle.dense_blocks.specs.Vectors.{IsVector, combination}
use Rattle.dense_blocks.specs.Solutions.{Combines, lists}
use Rattle.cochain_vec.specs.Complexes.{coordinates, total_size}
use Rattle.block_complexes.specs.Cochains.{complex_of, of_degree}
use Rattle.block_sparse.specs.StoredBlocks.{complex_in}
use Rattle.equivalences.specs.CochainLists.{values_of}
use Rattle.equivalence_laws.proofs.CompositeLaws.{complex_fits}
use Rattle.sections.specs.Places.{BeginAt}
use Rattle.sections.proofs.ExtensionLaws.{basis-vectors, column-vectors, combined-section, each-cochain}
use Rattle.sections.proofs.ExtensionLaws.{separating-obstruction}
use Rattle.sections.proofs.extension.extend.Goals as goal

pub values_at-requires : goal.values_at-requires
values_at-requires g c = λ k d l.
    let K = g.F.Scalars.ops c.args.f.now in
    let F = g.met.F.Scalars.is_field c.args.f.now in
    let w = complex_in c.args.base.now in
    let B = values_of c.args.basis.now in
    let start : ℕ = c.start_of-start.result in
    let begin : BeginAt w.live c.args.s start =
    subst (λ ls. BeginAt ls c.args.s start) c.live.ensures.live c.start_of-start.ensures in
    let n : ℕ = coordinates (complex_of w) 0 in
    let full : length (get_or c.args.basis.now k d).values.items ≡ total_size (of_degree 0 w.live) =
    (each-cochain (IsVector K n) c.args.basis.now
    (basis-vectors K F (complex_of w) (complex_fits K F w c.requires.base) B c.requires.basis) k d l).size in
    omega (arith, begin.within, full, c.requires.size)

pub solve-requires-clause-sizes : goal.solve-requires-clause-sizes
solve-requires-clause-sizes g c = λ k d l.
    let K = g.F.Scalars.ops c.args.f.now in
    let w = complex_in c.args.base.now in
    let start : ℕ = c.start_of-start.result in
    (column-vectors K (g.met.F.Scalars.is_field c.args.f.now) w c.requires.base (values_of c.args.basis.now)
    c.requires.basis c.args.s start
    (subst (λ ls. BeginAt ls c.args.s start) c.live.ensures.live c.start_of-start.ensures)
    c.requires.vertex c.args.v.now c.requires.size c.deref.result.now
    (ap lists c.deref.ensures.value ∙ c.in_ok-values.ensures) k d l).size

pub solve-requires-clause-column_scalars : goal.solve-requires-clause-column_scalars
solve-requires-clause-column_scalars g c = λ k d l.
    let K = g.F.Scalars.ops c.args.f.now in
    let w = complex_in c.args.base.now in
    let start : ℕ = c.start_of-start.result in
    (column-vectors K (g.met.F.Scalars.is_field c.args.f.now) w c.requires.base (values_of c.args.basis.now)
    c.requires.basis c.args.s start
    (subst (λ ls. BeginAt ls c.args.s start) c.live.ensures.live c.start_of-start.ensures)
    c.requires.vertex c.args.v.now c.requires.size c.deref.result.now
    (ap lists c.deref.ensures.value ∙ c.in_ok-values.ensures) k d l).scalars

pub returns-in-Combination : goal.returns-in-Combination
returns-in-Combination g c =
    let K = g.F.Scalars.ops c.args.f.now in
    let w = complex_in c.args.base.now in
    let B = values_of c.args.basis.now in
    let start : ℕ = c.start_of-start.result in
    let cs = c.in-Combination.coefficients.items in
    let z = c.in_ok-section-in-Combination.section.items in
    let h : Combines K (lists c.deref.result.now) c.args.v.now cs =
    rw c.in-Combination.is at c.in_ok-coefficients.ensures in
    let e : z ≡ combination K (coordinates (complex_of w) 0) cs B =
    c.in_ok-section-in-Combination.ensures
    ∙ ap₂ (λ k ds. combination K k ds B) c.coordinates-size.ensures c.deref-in-Combination.ensures.value in
    let both = combined-section K (g.met.F.Scalars.is_field c.args.f.now) w c.requires.base B c.requires.basis
    c.args.s start (subst (λ ls. BeginAt ls c.args.s start) c.live.ensures.live c.start_of-start.ensures)
    c.requires.vertex c.args.v.now c.requires.size c.deref.result.now
    (ap lists c.deref.ensures.value ∙ c.in_ok-values.ensures) cs z h e in
    (refl, both.0, both.1)

pub returns : goal.returns
returns g c =
    let K = g.F.Scalars.ops c.args.f.now in
    let w = complex_in c.args.base.now in
    let start : ℕ = c.start_of-start.result in
    let p = c.in-Apart.functional.items in
    let h = rw c.in-Apart.is at c.in_ok-coefficients.ensures in
    separating-obstruction K (g.met.F.Scalars.is_field c.args.f.now) w c.requires.base (values_of c.args.basis.now)
    c.requires.basis c.args.s start
    (subst (λ ls. BeginAt ls c.args.s start) c.live.ensures.live c.start_of-start.ensures)
    c.requires.vertex c.args.v.now c.requires.size c.deref.result.now
    (ap lists c.deref.ensures.value ∙ c.in_ok-values.ensures) p h.0
