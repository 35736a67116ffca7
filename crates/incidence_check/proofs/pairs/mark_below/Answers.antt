use Rattle.std.proofs.Common.{◌≡◌, ℕ, ◌+◌, ◌*◌, ◌-◌, ◌<◌, true, List, length, All, get_or, take, sym, ap, ap₂, ◌∙◌}
use Rattle.std.proofs.Common.{subst, arith}
use Rattle.std.specs.Option.{option_map, option_and_then}
use Rattle.std.proofs.lemmas.List.{length-set}
use Rattle.std.proofs.lemmas.List.Elements.{filter_passes}
use Rattle.std.proofs.lemmas.List.Kept.{AllPairs-from_increasing}
use Rattle.cell_complex.specs.Complexes.{CellComplex, all_cells, is_face, faces_of}
use Rattle.incidence_check.specs.Incidences.{times, sign_product}
use Rattle.incidence_check.specs.Marks.{next_state, IsMark}
use Rattle.incidence_check.proofs.Faces.{faces_of-below}
use Rattle.incidence_check.proofs.Passing.{mark-here, done-more, left-more, marks-after}
use Rattle.incidence_check.proofs.pairs.mark_below.Goals as goal

pub before_faces-guess-requires : goal.before_faces-guess-requires
before_faces-guess-requires c =
    subst (λ ss. All (λ s. s < length c.args.c.now.dims) ss) (sym c.faces_of.ensures.cells)
    (faces_of-below c.args.c.now c.args.u) c.args.at 0
    (subst (λ ss. c.args.at < length ss) (sym c.faces_of.ensures.cells) c.requires.at)

pub faces_of-s-items-requires : goal.faces_of-s-items-requires
faces_of-s-items-requires c =
    subst (λ ss. All (λ s. s < length c.args.c.now.dims) ss) (sym c.faces_of.ensures.cells)
    (faces_of-below c.args.c.now c.args.u) c.args.at 0
    (subst (λ ss. c.args.at < length ss) (sym c.faces_of.ensures.cells) c.requires.at)

pub bounds-marks-s : goal.bounds-marks-s
bounds-marks-s c =
    let below : get_or c.faces_of-s-items.result.now c.loop-s.s-index 0 < length c.args.c.now.dims =
    subst (λ ss. All (λ s. s < length c.args.c.now.dims) ss) (sym c.faces_of-s-items.ensures.cells)
    (faces_of-below c.args.c.now (get_or c.faces_of.result.now c.args.at 0)) c.loop-s.s-index 0 (omega arith) in
    omega (arith, below, c.requires.complex.small.few, c.loop-s.invariant.count)

pub bounds-marks-s-in-loop-s : goal.bounds-marks-s-in-loop-s
bounds-marks-s-in-loop-s c =
    let below : get_or c.faces_of-s-items.result.now c.loop-s.s-index 0 < length c.args.c.now.dims =
    subst (λ ss. All (λ s. s < length c.args.c.now.dims) ss) (sym c.faces_of-s-items.ensures.cells)
    (faces_of-below c.args.c.now (get_or c.faces_of.result.now c.args.at 0)) c.loop-s.s-index 0 (omega arith) in
    omega (arith, below, c.requires.complex.small.few, c.loop-s.invariant.count)

pub loop-s-preserved : goal.loop-s-preserved
loop-s-preserved c =
    let all : CellComplex = c.args.c.now in
    let u : ℕ = c.args.u in
    let at : ℕ = c.args.at in
    let fs : List ℕ = faces_of all u in
    let items : List ℕ = c.faces_of-s-items.result.now in
    let marks : List ℕ = c.loop-s.marks in
    let j : ℕ = c.loop-s.s-index in
    let s : ℕ = get_or items j 0 in
    let t : ℕ = get_or c.faces_of.result.now at 0 in
    let state : ℕ = c.next_state-state.result in
    let inside : j < length items = omega arith in
    let is : get_or fs at 0 ≡ t = ap (λ xs. get_or xs at 0) (sym c.faces_of.ensures.cells) in
    let face : is_face all s t ≡ true = subst (λ ss. All (λ s. is_face all s t ≡ true) ss)
    (sym c.faces_of-s-items.ensures.cells) (filter_passes (λ s. is_face all s t) (all_cells all)) j 0 inside in
    let below : s < length all.dims = subst (λ ss. All (λ s. s < length all.dims) ss)
    (sym c.faces_of-s-items.ensures.cells) (faces_of-below all t) j 0 inside in
    let room : s < length marks = omega (arith, below, c.requires.complex.small.few, c.loop-s.invariant.count) in
    let way : c.product-way.result ≡ sign_product all s t u = c.product-way.ensures
    ∙ ap₂ (λ low up. option_and_then (λ a. option_map (times a) up) low) c.sign_near.ensures
    c.sign_near-upper.ensures in
    let before : IsMark all u (take at fs) s (get_or marks s 0) = c.loop-s.invariant.left s
    (λ k l e. let a : get_or items k 0 < s = AllPairs-from_increasing items c.faces_of-s-items.ensures.rising k j 0 l
    inside in omega (arith, e, a)) in
    let next : state ≡ next_state (get_or marks s 0 - 4 * u) c.product-way.result = c.next_state-state.ensures.next
    ∙ ap (λ m. next_state m c.product-way.result) c.saturating_sub.ensures in
    let here : IsMark all u (take (at + 1) fs) s (4 * u + state) =
    mark-here all u at t s (get_or marks s 0) state fs c.product-way.result c.requires.at is face way before next in
    record {
      count = length-set marks s (4 * u + state) ∙ c.loop-s.invariant.count;
      done = done-more all u (take (at + 1) fs) items marks j (4 * u + state) c.faces_of-s-items.ensures.rising inside
          room here c.loop-s.invariant.done;
      left = left-more all u (take at fs) items marks j (4 * u + state) c.loop-s.invariant.left;
    }

pub returns-clause-marks : goal.returns-clause-marks
returns-clause-marks c =
    marks-after c.args.c.now c.requires.complex c.args.u c.args.at (get_or c.faces_of.result.now c.args.at 0)
    (faces_of c.args.c.now c.args.u) c.faces_of-s-items.result.now c.loop-s.s-index c.loop-s.marks c.requires.at
    (ap (λ xs. get_or xs c.args.at 0) (sym c.faces_of.ensures.cells)) c.faces_of-s-items.ensures.cells (omega arith)
    c.loop-s.invariant.done c.loop-s.invariant.left
