use Rattle.sheaf_text.proofs.Accepted.{edit_accepted}
use Rattle.sheaf_text.proofs.Taken.{takes_edit}
use Rattle.sheaf_text.proofs.state.State.take_edit.Goals as goal

pub returns : goal.returns
returns c = takes_edit c.args.self.now _ _ c.requires.sound c.requires.ready (edit_accepted _ _ c.requires)
    c.open_edit.ensures
