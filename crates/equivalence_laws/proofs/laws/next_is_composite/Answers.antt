use Rattle.equivalence_laws.proofs.NextComposite as laws
use Rattle.equivalence_laws.proofs.laws.next_is_composite.Goals as goal

pub returns : goal.returns
returns c = laws.next_is_composite
