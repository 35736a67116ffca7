use Rattle.std.proofs.Common.{◌≡◌, ◌∙◌, ◌<◌, ℕ, ap, sym, length, take, drop, get_or, refl, arith}
use Rattle.std.proofs.lemmas.List.{get_or_read_under}
use Rattle.cochain_vec.specs.Complexes.{total_size, value_at}
use Rattle.block_complexes.specs.Cochains.{of_degree}
use Rattle.block_complexes.proofs.LiveLaws.{of_cell-at}
use Rattle.block_complexes.proofs.DegreeLaws.{value-place, value-within}
use Rattle.block_sparse.proofs.coboundary.value_of.Goals as goal

pub part-requires : goal.part-requires
part-requires c =
    let live = c.args.live.now in
    let k = c.args.starts.now.degree in
    let places = c.args.starts.now.places.items in
    let i : ℕ = c.unwrap-at.result in
    let found = rw c.unwrap-at.ensures at c.find.ensures in
    let degree : (get_or live i (0, 0, 0)).1 ≡ k =
    sym (of_cell-at (λ l. l.1) live i c.args.s c.requires.live_cells.rising found.0 found.1) ∙ c.requires.degree in
    let inside : i < length places = omega (arith, found.0, c.requires.starts.count) in
    let start : c.index.result.now ≡ total_size (of_degree k (take i live)) =
    get_or_read_under places i (length places) c.index.result.now 0 c.index.ensures inside refl
    ∙ c.requires.starts.each i found.0 in
    omega (arith, c.requires.size, value-within k live i found.0 degree, start)

pub returns-clause-value : goal.returns-clause-value
returns-clause-value c =
    let live = c.args.live.now in
    let k = c.args.starts.now.degree in
    let places = c.args.starts.now.places.items in
    let i : ℕ = c.unwrap-at.result in
    let found = rw c.unwrap-at.ensures at c.find.ensures in
    let degree : (get_or live i (0, 0, 0)).1 ≡ k =
    sym (of_cell-at (λ l. l.1) live i c.args.s c.requires.live_cells.rising found.0 found.1) ∙ c.requires.degree in
    let inside : i < length places = omega (arith, found.0, c.requires.starts.count) in
    let start : c.index.result.now ≡ total_size (of_degree k (take i live)) =
    get_or_read_under places i (length places) c.index.result.now 0 c.index.ensures inside refl
    ∙ c.requires.starts.each i found.0 in
    c.part.ensures.part
    ∙ ap (λ n. take (get_or live i (0, 0, 0)).2 (drop n c.args.z.now)) start
    ∙ sym (value-place k live c.args.z.now i c.requires.live_cells.rising found.0 degree)
    ∙ ap (value_at (of_degree k live) c.args.z.now) found.1

pub returns-clause-size : goal.returns-clause-size
returns-clause-size c =
    let found = rw c.unwrap-at.ensures at c.find.ensures in
    c.part.ensures.size ∙ sym (of_cell-at (λ l. l.2) c.args.live.now c.unwrap-at.result c.args.s
    c.requires.live_cells.rising found.0 found.1)
