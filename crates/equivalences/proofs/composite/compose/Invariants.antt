use Rattle.std.proofs.Common.{◌≡◌, length}
use Rattle.equivalences.specs.Composition.{ForComposable}
use Rattle.equivalences.proofs.ComposedBlocks.{HoldComposite}
use Rattle.equivalences.proofs.composite.compose.Given as goal

abbrev pub invariant-loop-k : goal.invariant-loop-k
invariant-loop-k g l = record {
  pi_count : length l.pi.items ≡ l.k;
  iota_count : length l.iota.items ≡ l.k;
  h_count : length l.h.items ≡ l.k;
  composite : ForComposable (g.F.Scalars.ops l.f) l.first l.second
      (λ C D E. HoldComposite (g.F.Scalars.ops l.f) l.first l.second C E l.pi.items l.iota.items l.h.items);
}
