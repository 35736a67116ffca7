use Rattle.std.proofs.Common.{◌≤◌, ◌+◌, ◌∙◌, All, List, length, sym, subst, ap, ap₂}
use Rattle.std.specs.Prelude.{◌==◌}
use Rattle.dense_blocks.specs.MatrixFacts.{IsMatrix}
use Rattle.dense_blocks.specs.Solutions.{lists}
use Rattle.cochain_vec.specs.declared.cell.Cell.{Cell}
use Rattle.cochain_vec.specs.Complexes.{total_size}
use Rattle.plain_bases.specs.declared.complex.Arrow.{Arrow}
use Rattle.plain_bases.specs.View.{FitsCells}
use Rattle.plain_bases.specs.Parts.{images}
use Rattle.plain_bases.proofs.ComplexLaws.{few_of, fits-filter, images-columns, columns_from-vectors}
use Rattle.plain_bases.proofs.cohomology.columns_from.Goals as goal

pub columns-requires-clause-few : goal.columns-requires-clause-few
columns-requires-clause-few g c =
    subst (λ (cs : List Cell). total_size cs ≤ 4096) (sym (c.deref.ensures.value ∙ c.in_ok-source.ensures))
    (few_of (g.F.Scalars.ops c.args.f.now) (g.met.F.Scalars.is_field c.args.f.now) c.args.complex.now c.requires.complex
    (λ x. x.degree == c.args.degree))

pub columns-requires-clause-target_few : goal.columns-requires-clause-target_few
columns-requires-clause-target_few g c =
    subst (λ (cs : List Cell). total_size cs ≤ 4096) (sym (c.deref-2.ensures.value ∙ c.in_ok-target.ensures))
    (few_of (g.F.Scalars.ops c.args.f.now) (g.met.F.Scalars.is_field c.args.f.now) c.args.complex.now c.requires.complex
    (λ x. x.degree == c.args.degree + 1))

pub columns-requires-clause-source_fits : goal.columns-requires-clause-source_fits
columns-requires-clause-source_fits g c =
    let K = g.F.Scalars.ops c.args.f.now in
    let complex = c.args.complex.now in
    let fits = fits-filter K (λ x. x.degree == c.args.degree) complex.cells complex.arrows c.requires.complex.fits in
    let cells = sym (c.deref.ensures.value ∙ c.in_ok-source.ensures) in
    subst (λ (arrows : List Arrow). All (FitsCells K c.deref.result.now) arrows) (sym c.as_slice.ensures)
    (subst (λ (cs : List Cell). All (FitsCells K cs) complex.arrows) cells fits)

pub columns-requires-clause-target_fits : goal.columns-requires-clause-target_fits
columns-requires-clause-target_fits g c =
    let K = g.F.Scalars.ops c.args.f.now in
    let complex = c.args.complex.now in
    let fits = fits-filter K (λ x. x.degree == c.args.degree + 1) complex.cells complex.arrows c.requires.complex.fits
    in
    let cells = sym (c.deref-2.ensures.value ∙ c.in_ok-target.ensures) in
    subst (λ (arrows : List Arrow). All (FitsCells K c.deref-2.result.now) arrows) (sym c.as_slice.ensures)
    (subst (λ (cs : List Cell). All (FitsCells K cs) complex.arrows) cells fits)

pub returns-clause-columns : goal.returns-clause-columns
returns-clause-columns g c =
    let K = g.F.Scalars.ops c.args.f.now in
    let complex = c.args.complex.now in
    c.in_ok-columns.ensures.images
    ∙ ap (λ (arrows : List Arrow). images K arrows c.deref.result.now c.deref-2.result.now) c.as_slice.ensures
    ∙ ap₂ (λ (source target : List Cell). images K complex.arrows source target) (c.deref.ensures.value
    ∙ c.in_ok-source.ensures) (c.deref-2.ensures.value ∙ c.in_ok-target.ensures)
    ∙ images-columns K (g.met.F.Scalars.is_field c.args.f.now) complex c.requires.complex c.args.degree

pub returns-clause-vectors : goal.returns-clause-vectors
returns-clause-vectors g c =
    let K = g.F.Scalars.ops c.args.f.now in
    let columns = c.in_ok-columns.columns in
    let size = c.in_ok-columns.ensures.size ∙ ap total_size (c.deref-2.ensures.value ∙ c.in_ok-target.ensures) in
    subst (λ n. IsMatrix K (length columns.all.items) n (lists columns.all.items)) (sym size)
    (columns_from-vectors K (g.met.F.Scalars.is_field c.args.f.now) c.args.complex.now c.requires.complex c.args.degree
    columns.all.items (returns-clause-columns g c))
