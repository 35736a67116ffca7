use Rattle.std.proofs.Common.{◌≡◌, ◌++◌, ◌∷◌, [], is_some, set, refl, sym, ap, ◌∙◌}
use Rattle.cell_complex.proofs.Places.{placed}
use Rattle.square_check.proofs.Placed.{some-same}
use Rattle.edit_versions.proofs.Putting.{put-one}
use Rattle.edit_versions.proofs.work.Work.put.Goals as goal

pub unwrap-place-requires : goal.unwrap-place-requires
unwrap-place-requires c = ap is_some (c.place.ensures ∙ (placed c.args.c.now c.args.s c.args.t c.requires.face).is)

pub returns : goal.returns
returns c =
    let p = placed c.args.c.now c.args.s c.args.t c.requires.face in
    let e : c.unwrap-place.result ≡ p.at = some-same c.unwrap-place.result p.at (sym c.unwrap-place.ensures
    ∙ c.place.ensures ∙ p.is) in
    put-one c.args.c.now c.requires.complex c.args.s c.args.t p c.args.block c.args.self.now _ c.requires.count refl
    (ap (λ i. set c.args.self.now.blocks.items i c.args.block) e) (c.in_ok-push.ensures.items
    ∙ ap (λ i. c.args.self.now.touched.items ++ i ∷ []) e)
