use Rattle.std.proofs.Common.{sym}
use Rattle.block_complexes.proofs.LiveLaws.{of_cell-at}
use Rattle.equivalences.proofs.live.degree_in.Goals as goal

pub returns : goal.returns
returns c =
    let found = rw c.unwrap-at.ensures at c.find.ensures in
    sym (of_cell-at (λ l. l.1) c.args.live.now c.unwrap-at.result c.args.c c.requires.rising found.0 found.1)
