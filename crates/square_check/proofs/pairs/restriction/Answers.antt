use Rattle.std.proofs.Common.{◌≡◌, length, is_some, slice_get, refl, sym, ap, ◌∙◌, arith}
use Rattle.std.specs.Option.{option_and_then}
use Rattle.std.proofs.lemmas.Option.{slice_get_read}
use Rattle.cell_complex.proofs.Places.{placed}
use Rattle.square_check.proofs.Placed.{some-same}
use Rattle.square_check.proofs.pairs.restriction.Goals as goal

pub unwrap-requires : goal.unwrap-requires
unwrap-requires c = ap is_some (c.place.ensures ∙ (placed c.args.c.now c.args.s c.args.t c.requires.face).is)

pub returns : goal.returns
returns c =
    let p = placed c.args.c.now c.args.s c.args.t c.requires.face in
    let i : c.unwrap.result ≡ p.at = some-same c.unwrap.result p.at (sym c.unwrap.ensures ∙ c.place.ensures ∙ p.is) in
    ap (option_and_then (slice_get c.args.blocks.now)) (sym c.place.ensures ∙ c.unwrap.ensures)
    ∙ slice_get_read c.args.blocks.now (length c.args.blocks.now) c.unwrap.result c.index-blocks-unwrap.result refl
    (omega (arith, i, p.inside, c.requires.count)) c.index-blocks-unwrap.is
