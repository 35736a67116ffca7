use Rattle.std.proofs.Common.{◌≡◌, ℕ, ◌<◌, ◌≤◌, ⊎_elim, List, Option, length, slice_get, refl, sym, ap, ◌∙◌, subst, arith}
use Rattle.std.specs.Option.{option_and_then}
use Rattle.std.proofs.lemmas.Bool.{cases_lt}
use Rattle.std.proofs.lemmas.Option.{slice_get_read}
use Rattle.cell_complex.specs.declared.face.Face.{Face}
use Rattle.cell_complex.specs.Complexes.{CellComplex}
use Rattle.cell_complex.proofs.Places.{place-of_face}
use Rattle.dense_blocks.specs.Field.{Ops}
use Rattle.dense_blocks.specs.declared.block.Block.{Block}
use Rattle.square_check.specs.Searches.{Fails}
use Rattle.square_check.specs.Squares.{Commutes}
use Rattle.square_check.proofs.Clearing.{earlier-fails}
use Rattle.square_check.proofs.Placed.{some-same}
use Rattle.square_check.proofs.Visited.{ClearsFirst, once-first, once-second, first-of_all}
use Rattle.square_check.proofs.touched.first_of_all.Goals as goal

pub bounds-blocks-place : goal.bounds-blocks-place
bounds-blocks-place g c = omega (arith, c.requires.restrictions.shapes.count, c.requires.count)

pub bad_first-requires-clause-low : goal.bad_first-requires-clause-low
bad_first-requires-clause-low g c =
    let face : Face = c.face_at-face.result in
    let blocks : List Block = c.args.blocks.now in
    ap (option_and_then (slice_get blocks)) (place-of_face c.args.c.now c.requires.complex c.loop-place.place face
    c.face_at-face.ensures)
    ∙ slice_get_read blocks (length blocks) c.loop-place.place _ refl
    (omega (arith, c.requires.restrictions.shapes.count, c.requires.count)) c.index-blocks-place.is

pub loop-place-preserved : goal.loop-place-preserved
loop-place-preserved g c =
    let K : Ops = g.F.Scalars.ops c.args.f.now in
    let all : CellComplex = c.args.c.now in
    let blocks : List Block = c.args.blocks.now in
    let old : Option (ℕ × ℕ) = c.loop-place.least in
    let bad : Option (ℕ × ℕ) = c.bad_first.result in
    let place : ℕ = c.loop-place.place in
    let face : Face = c.face_at-face.result in
    record {
      fails = subst (Fails (Commutes K all blocks)) (sym c.earlier-least.ensures)
          (earlier-fails (Commutes K all blocks) old bad c.loop-place.invariant.fails c.bad_first.ensures.fails);
      clears = λ k f l e. subst (λ r. ClearsFirst K all blocks r f) (sym c.earlier-least.ensures)
          (⊎_elim (λ (before : k < place). once-first K all blocks old bad f
          (c.loop-place.invariant.clears k f before e))
          (λ (after : place ≤ k).
          let here : place ≡ k = omega arith in
          let same : face ≡ f = some-same face f (sym c.face_at-face.ensures ∙ ap (slice_get all.faces) here ∙ e) in
          once-second K all blocks old bad f (subst (ClearsFirst K all blocks bad) same c.bad_first.ensures.clears))
          (cases_lt k place));
    }

pub returns : goal.returns
returns g c =
    first-of_all (g.F.Scalars.ops c.args.f.now) c.args.c.now c.requires.complex c.args.blocks.now c.loop-place.least
    c.loop-place.place
    (omega (arith, c.requires.count)) c.loop-place.invariant.fails c.loop-place.invariant.clears
