use Rattle.sheaf_text.proofs.Accepted.{set_accepted}
use Rattle.sheaf_text.proofs.Taken.{takes_set}
use Rattle.sheaf_text.proofs.state.State.take_set.Goals as goal

pub returns : goal.returns
returns c = takes_set c.args.self.now _ _ _ _ c.requires.accepted.sound c.requires.set
    (set_accepted _ _ _ c.requires.set c.requires.accepted) c.in_ok-set.ensures c.in_ok-add_set.ensures
