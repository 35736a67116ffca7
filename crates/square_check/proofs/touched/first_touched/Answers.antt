use Rattle.std.proofs.Common.{◌≡◌, ℕ, ◌<◌, ◌≤◌, ⊎_elim, List, Option, get_or, slice_get, sym, ap, ◌∙◌, subst, arith}
use Rattle.std.proofs.lemmas.Bool.{cases_lt}
use Rattle.cell_complex.specs.declared.face.Face.{Face}
use Rattle.cell_complex.specs.Complexes.{CellComplex}
use Rattle.dense_blocks.specs.Field.{Ops}
use Rattle.dense_blocks.specs.declared.block.Block.{Block}
use Rattle.square_check.specs.Searches.{earlier_pair, Fails}
use Rattle.square_check.specs.Squares.{Commutes}
use Rattle.square_check.proofs.Clearing.{earlier-fails}
use Rattle.square_check.proofs.Placed.{some-same}
use Rattle.square_check.proofs.Visited.{ClearsAbove, ClearsBelow, above-first, above-second, below-first, below-second}
use Rattle.square_check.proofs.Visited.{first-touched}
use Rattle.square_check.proofs.touched.first_touched.Goals as goal

pub loop-place-preserved : goal.loop-place-preserved
loop-place-preserved g c =
    let K : Ops = g.F.Scalars.ops c.args.f.now in
    let all : CellComplex = c.args.c.now in
    let blocks : List Block = c.args.blocks.now in
    let places : List ℕ = c.args.places.now in
    let old : Option (ℕ × ℕ) = c.loop-place.least in
    let above : Option (ℕ × ℕ) = c.bad_above.result in
    let below : Option (ℕ × ℕ) = c.bad_below.result in
    let index : ℕ = c.loop-place.place-index in
    let face : Face = c.face_at-face.result in
    let now = c.earlier-least-in-loop-place.ensures ∙ ap (λ r. earlier_pair r below) c.earlier-least.ensures in
    record {
      fails = subst (Fails (Commutes K all blocks)) (sym now)
          (earlier-fails (Commutes K all blocks) (earlier_pair old above) below
          (earlier-fails (Commutes K all blocks) old above c.loop-place.invariant.fails c.bad_above.ensures.fails)
          c.bad_below.ensures.fails);
      clears = λ k f l e. subst (λ r. ClearsAbove K all blocks r f × ClearsBelow K all blocks r f) (sym now)
          (⊎_elim
          (λ (before : k < index).
          let kept = c.loop-place.invariant.clears k f before e in (
            above-first K all blocks (earlier_pair old above) below f (above-first K all blocks old above f kept.0),
            below-first K all blocks (earlier_pair old above) below f (below-first K all blocks old above f kept.1),
          ))
          (λ (after : index ≤ k).
          let here : index ≡ k = omega arith in
          let same : face ≡ f = some-same face f (sym c.face_at-face.ensures
          ∙ ap (λ i. slice_get all.faces (get_or places i 0)) here ∙ e) in (
            above-first K all blocks (earlier_pair old above) below f
                (above-second K all blocks old above f
                (subst (ClearsAbove K all blocks above) same c.bad_above.ensures.clears)),
            below-second K all blocks (earlier_pair old above) below f
                (subst (ClearsBelow K all blocks below) same c.bad_below.ensures.clears),
          ))
          (cases_lt k index));
    }

pub returns : goal.returns
returns g c =
    first-touched (g.F.Scalars.ops c.args.f.now) c.args.c.now c.requires.complex c.args.blocks.now c.loop-place.least
    c.args.places.now c.loop-place.place-index
    (omega arith) c.requires.others c.loop-place.invariant.fails c.loop-place.invariant.clears
