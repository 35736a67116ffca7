use Rattle.std.proofs.Common.{Err, ap}
use Rattle.sheaf_text.proofs.parts.add_face.Goals as goal

pub unreachable-requires : goal.unreachable-requires
unreachable-requires c =
    let faulty = (c.in-Err-Face.ensures.refused c.in-Err-Face.field-0-0).0 (ap Err c.in-Err-Face.field-0-is) in
    let none = c.requires in
    cc
