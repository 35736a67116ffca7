use Rattle.std.proofs.Common.{◌≡◌, [], sym, subst, get_or}
use Rattle.std.proofs.lemmas.List.{get_or_read}
use Rattle.dense_blocks.specs.Field.{Ops}
use Rattle.dense_blocks.specs.Vectors.{AllScalars}
use Rattle.equivalences.proofs.BlockLaws.{added-columns}
use Rattle.equivalences.proofs.maps.add_columns.Goals as goal

pub add_product-requires-clause-coefficient_scalars : goal.add_product-requires-clause-coefficient_scalars
add_product-requires-clause-coefficient_scalars g c =
    let K : Ops = g.F.Scalars.ops c.args.f.now in
    subst (AllScalars K) (sym c.as_slice.ensures)
    (c.in_ok-coefficients.ensures.scalars K (g.met.F.Scalars.is_field c.args.f.now) c.requires.column_scalars)

pub returns : goal.returns
returns g c =
    let K : Ops = g.F.Scalars.ops c.args.f.now in
    let h = c.args.h.now.items in
    let rows = c.index_mut-rows.result.now in
    let same : rows ≡ get_or h c.args.k [] =
    get_or_read h c.args.k rows c.requires.k c.index_mut-rows.ensures.value [] in
    added-columns K h c.args.k c.args.columns.now c.args.moved.now c.in_ok-coefficients.coefficients rows
    c.add_product.new.self c.as_slice.result.now same c.requires.rows.size c.requires.heights
    c.in_ok-coefficients.ensures.block c.as_slice.ensures c.in_ok-add_product.ensures
