use Rattle.std.proofs.Common.{◌+◌, ◌∙◌, ap, length, drop, arith}
use Rattle.std.specs.List.{remove}
use Rattle.std.proofs.lemmas.List.{length-drop}
use Rattle.block_sparse.proofs.GapLaws.{removed-in_front}
use Rattle.block_sparse.proofs.gapped.Gapped.remove_in_front.Goals as goal

pub returns : goal.returns
returns c =
    let xs = c.self.inside.cells.items in
    let gap = c.self.inside.gap in
    ap (drop (gap + 1)) c.copy_within.ensures.items
    ∙ removed-in_front xs gap c.args.at
    (omega (arith, c.requires, ap length c.self.view_is, length-drop gap xs, c.self.invariant))
    ∙ ap (λ live. remove live c.args.at) c.self.view_is
