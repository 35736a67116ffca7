-- The live cells one by one, and all of them.
use Rattle.std.proofs.Common.{◌≡◌, ◌∙◌, ◌≤◌, ◌<◌, ◌+◌, ℕ, suc, List, ap, sym, subst, length, get_or, arith, ◌++◌, ◌∷◌}
use Rattle.std.proofs.Common.{[], refl, add-one}
use Rattle.std.specs.List.{flat_map}
use Rattle.std.proofs.lemmas.List.{take_all}
use Rattle.cochain_vec.specs.declared.cell.Cell.{Cell}
use Rattle.cochain_vec.specs.Complexes.{IsCochain, coboundary, coordinates, sum_into, value_at}
use Rattle.cochain_vec.proofs.CoboundaryLaws.{coboundary-cochain}
use Rattle.dense_blocks.proofs.Shapes.{from_vector}
use Rattle.rising_lists.specs.Rising.{has}
use Rattle.rising_lists.proofs.Keyed.{has-at}
use Rattle.block_complexes.specs.BlockComplexes.{cells, degree_of, size_of}
use Rattle.block_sparse.specs.StoredBlocks.{complex_in}
use Rattle.block_complexes.proofs.SumLaws.{rows_fit}
use Rattle.block_sparse.proofs.ScalarBlocks.{matrix-size_of}
use Rattle.block_complexes.specs.Cochains.{complex_of, of_degree}
use Rattle.block_complexes.proofs.LiveLaws.{cell-at, length-cells, of_cell-at}
use Rattle.block_complexes.proofs.DegreeLaws.{parts-next}
use Rattle.block_sparse.proofs.blocks.Blocks.apply.Goals as goal

pub add_part-requires-clause-live : goal.add_part-requires-clause-live
add_part-requires-clause-live g c =
    let live = c.live-live.result.now in
    let i : ℕ = c.loop-cell.cell-index in
    let inside : i < length live = omega arith in
    ap (λ q. has q (cells c.args.self.now.live)) (sym (cell-at live i inside))
    ∙ ap (λ l. has (get_or (cells live) i 0) (cells l)) (sym c.live-live.ensures.live)
    ∙ has-at (cells live) i (omega (arith, inside, length-cells live))

pub add_part-requires-clause-degree : goal.add_part-requires-clause-degree
add_part-requires-clause-degree g c =
    let live = c.live-live.result.now in
    let i : ℕ = c.loop-cell.cell-index in
    let inside : i < length live = omega arith in
    let rising = rw (sym c.live-live.ensures.live) at c.live-live.ensures.live_cells.rising in
    ap (λ l. degree_of l (get_or live i (0, 0, 0)).0) (sym c.live-live.ensures.live)
    ∙ of_cell-at (λ l. l.1) live i _ rising inside refl

pub add_part-requires-clause-size : goal.add_part-requires-clause-size
add_part-requires-clause-size g c =
    let live = c.live-live.result.now in
    let i : ℕ = c.loop-cell.cell-index in
    let inside : i < length live = omega arith in
    let rising = rw (sym c.live-live.ensures.live) at c.live-live.ensures.live_cells.rising in
    ap (λ l. size_of l (get_or live i (0, 0, 0)).0) (sym c.live-live.ensures.live)
    ∙ of_cell-at (λ l. l.2) live i _ rising inside refl

pub loop-cell-preserved : goal.loop-cell-preserved
loop-cell-preserved g c =
    let K = g.F.Scalars.ops c.args.f.now in
    let v = c.args.self.now in
    let k = c.args.k in
    let live = c.live-live.result.now in
    let i : ℕ = c.loop-cell.cell-index in
    let inside : i < length live = omega arith in
    let cell = get_or live i (0, 0, 0) in
    let old = c.loop-cell.all.items in
    let piece : ℕ → Cell → List ℕ = λ j t. sum_into K (complex_of (complex_in v)).arrows
    (value_at (of_degree j v.live) c.args.z.now) t.size t.cell in
    let grown : c.add_part.new.all.items ≡ old ++ flat_map (piece k) (of_degree (k + 1) (cell ∷ [])) =
    c.in_ok-add_part.ensures ∙ ap (λ j. old ++ flat_map (piece j) (of_degree (j + 1) (cell ∷ [])))
    c.in_ok-starts.ensures.degree in
    grown
    ∙ ap (λ u. u ++ flat_map (piece k) (of_degree (k + 1) (cell ∷ []))) c.loop-cell.invariant
    ∙ sym (parts-next (piece k) (k + 1) live i (0, 0, 0) inside)

pub returns-clause-coboundary : goal.returns-clause-coboundary
returns-clause-coboundary g c =
    let K = g.F.Scalars.ops c.args.f.now in
    let v = c.args.self.now in
    let k = c.args.k in
    let live = c.live-live.result.now in
    let end : length live ≤ c.loop-cell.cell-index = omega arith in
    let piece : Cell → List ℕ = λ t. sum_into K (complex_of (complex_in v)).arrows
    (value_at (of_degree k v.live) c.args.z.now) t.size t.cell in
    c.loop-cell.invariant
    ∙ ap (λ l. flat_map piece (of_degree (k + 1) l)) (take_all c.loop-cell.cell-index live end
    ∙ c.live-live.ensures.live)
    ∙ ap (λ j. flat_map piece (of_degree j v.live)) (add-one k)

pub returns-clause-cochain : goal.returns-clause-cochain
returns-clause-cochain g c =
    let K = g.F.Scalars.ops c.args.f.now in
    let F = g.met.F.Scalars.is_field c.args.f.now in
    let v = c.args.self.now in
    let k = c.args.k in
    let z = c.args.z.now in
    let C = complex_of (complex_in v) in
    let sound = c.live-live.ensures.sound in
    let fits = rows_fit (complex_in v) sound.live_cells.rising (matrix-size_of v sound) in
    subst (λ j. IsCochain K C j c.loop-cell.all.items) (sym (add-one k))
    (subst (IsCochain K C (suc k)) (sym (returns-clause-coboundary g c))
    (from_vector K (coordinates C (suc k)) (coboundary K C k z) (coboundary-cochain K F C fits k z)))
