use Rattle.std.proofs.Common.{◌≡◌, ◌<◌, true, [], length, get_or, refl, sym, ap, subst, arith}
use Rattle.std.proofs.lemmas.List.Elements.{filter_passes}
use Rattle.cell_complex.specs.Complexes.{all_cells, is_face, joins, faces_of}
use Rattle.edit_versions.specs.Works.{Puts, is_from, zero_at}
use Rattle.edit_versions.proofs.Putting.{puts-none, puts-count, puts-from-more}
use Rattle.edit_versions.proofs.work.Work.clear_below.Goals as goal

pub loop-s-init : goal.loop-s-init
loop-s-init c = puts-none c.args.c.now (is_from [] c.args.t) (zero_at c.args.self.now.stalks.items) c.args.self.now
    c.requires.count (λ f. refl)

pub clear-requires-clause-face : goal.clear-requires-clause-face
clear-requires-clause-face c =
    let i = c.loop-s.s-index in
    let within : i < length (faces_of c.args.c.now c.args.t) = omega (arith, ap length c.faces_of-s-items.ensures.cells)
    in
    subst (λ xs. is_face c.args.c.now (get_or xs i 0) c.args.t ≡ true) (sym c.faces_of-s-items.ensures.cells)
    (filter_passes (λ q. is_face c.args.c.now q c.args.t) (all_cells c.args.c.now) i 0 within)

pub clear-requires-clause-count : goal.clear-requires-clause-count
clear-requires-clause-count c = puts-count c.args.c.now _ _ c.args.self.now c.loop-s.self c.requires.count
    c.loop-s.invariant

pub loop-s-preserved : goal.loop-s-preserved
loop-s-preserved c =
    let below = c.faces_of-s-items.result.now in
    let within : c.loop-s.s-index < length below = omega arith in
    puts-from-more c.args.c.now (zero_at c.args.self.now.stalks.items) below c.args.t c.loop-s.s-index c.args.self.now
    c.loop-s.self c.clear.new.self
    within c.loop-s.invariant
    (subst (λ xs. Puts c.args.c.now (joins (get_or below c.loop-s.s-index 0) c.args.t) (zero_at xs) c.loop-s.self
    c.clear.new.self)
    c.loop-s.invariant.stalks c.in_ok-clear.ensures)
