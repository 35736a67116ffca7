use Rattle.std.proofs.Common.{◌≡◌, ◌<◌, true, [], length, get_or, refl, sym, ap, subst, arith}
use Rattle.std.proofs.lemmas.List.Elements.{filter_passes}
use Rattle.cell_complex.specs.Complexes.{all_cells, is_face, joins}
use Rattle.cell_complex.specs.Invariants.{cofaces_of}
use Rattle.edit_versions.specs.Works.{Puts, is_to, zero_at}
use Rattle.edit_versions.proofs.Putting.{puts-none, puts-count, puts-to-more}
use Rattle.edit_versions.proofs.work.Work.clear_above.Goals as goal

pub loop-t-init : goal.loop-t-init
loop-t-init c = puts-none c.args.c.now (is_to [] c.args.s) (zero_at c.args.self.now.stalks.items) c.args.self.now
    c.requires.count (λ f. refl)

pub clear-requires-clause-face : goal.clear-requires-clause-face
clear-requires-clause-face c =
    let i = c.loop-t.t-index in
    let within : i < length (cofaces_of c.args.c.now c.args.s) =
    omega (arith, ap length c.cofaces_of-t-items.ensures.cells) in
    subst (λ xs. is_face c.args.c.now c.args.s (get_or xs i 0) ≡ true) (sym c.cofaces_of-t-items.ensures.cells)
    (filter_passes (λ q. is_face c.args.c.now c.args.s q) (all_cells c.args.c.now) i 0 within)

pub clear-requires-clause-count : goal.clear-requires-clause-count
clear-requires-clause-count c = puts-count c.args.c.now _ _ c.args.self.now c.loop-t.self c.requires.count
    c.loop-t.invariant

pub loop-t-preserved : goal.loop-t-preserved
loop-t-preserved c =
    let above = c.cofaces_of-t-items.result.now in
    let within : c.loop-t.t-index < length above = omega arith in
    puts-to-more c.args.c.now (zero_at c.args.self.now.stalks.items) above c.args.s c.loop-t.t-index c.args.self.now
    c.loop-t.self c.clear.new.self
    within c.loop-t.invariant
    (subst (λ xs. Puts c.args.c.now (joins c.args.s (get_or above c.loop-t.t-index 0)) (zero_at xs) c.loop-t.self
    c.clear.new.self)
    c.loop-t.invariant.stalks c.in_ok-clear.ensures)
