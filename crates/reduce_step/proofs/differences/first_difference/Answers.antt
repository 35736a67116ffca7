use Rattle.std.proofs.Common.{◌⊎◌, ℕ}
use Rattle.reduce_step.specs.Differences.{IsSameAt, IsResized, IsReached, IsGained}
use Rattle.reduce_step.proofs.FirstLaws.{found-either, found-all}
use Rattle.reduce_step.proofs.DifferenceLaws.{all-pairs}
use Rattle.reduce_step.proofs.differences.first_difference.Goals as goal

pub returns : goal.returns
returns c =
    let v = c.args.b.now in
    let foot = c.args.foot.now in
    let resized = c.first_resized-resized in
    let other = c.first_changed-other in
    let gained = c.first_gained-gained in
    let Copied : ℕ → ℕ → Type 0 = λ s t. IsResized v foot s t ⊎ IsReached v foot s t in
    found-all (IsSameAt v foot) (λ s t. Copied s t ⊎ IsGained v foot s t) (λ _ _. Unit {0}) c.earlier-2.result
    (found-either (IsSameAt v foot) Copied (IsGained v foot) c.earlier.result gained.result c.earlier-2.result
    c.earlier-2.ensures
    (found-either (IsSameAt v foot) (IsResized v foot) (IsReached v foot) resized.result other.result c.earlier.result
    c.earlier.ensures resized.ensures other.ensures)
    gained.ensures)
    (λ s t _. all-pairs v foot s t)
