use Rattle.std.proofs.Common.{◌≡◌, take, drop, map}
use Rattle.dense_blocks.specs.Solutions.{lists}
use Rattle.equivalences.specs.CochainLists.{values_of}
use Rattle.sections.proofs.values.values_at.Given as goal

abbrev pub invariant-loop-cochain : goal.invariant-loop-cochain
invariant-loop-cochain l = lists l.values.items
    ≡ map (λ z. take l.size (drop l.start z)) (take l.cochain-index (values_of l.cochains))
