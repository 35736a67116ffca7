use Rattle.std.proofs.Common.{◌≡◌, [], map, take}
use Rattle.reply_text.specs.JoinedMatrices.{all_coordinates}
use Rattle.reply_text.specs.Parts.{capped}
use Rattle.reply_text.proofs.CoordinateLaws.{AreSizes}
use Rattle.reply_text.proofs.coordinates.all_coordinates.Given as goal

abbrev pub invariant-loop-cell : goal.invariant-loop-cell
invariant-loop-cell l =
    (l.list.items ≡ map capped (all_coordinates [] (take l.cell-index l.cells)))
    × AreSizes (take l.cell-index l.cells) l.sizes
