use Rattle.sheaf_text.proofs.Accepted.{face_accepted}
use Rattle.sheaf_text.proofs.state.State.take_face.Goals as goal

pub add_face-requires-clause-fits : goal.add_face-requires-clause-fits
add_face-requires-clause-fits c = face_accepted _ _ c.requires
