use Rattle.std.proofs.Common.{nat_eq, ◌&&◌, ◌∙◌}
use Rattle.indexmap.proofs.CallerLemmas.{insert_entry-new}
use Rattle.cell_complex.proofs.complex.keep_face.Goals as goal

pub returns-clause-signs : goal.returns-clause-signs
returns-clause-signs c =
    let f = c.args.face in
    c.in_ok-insert.ensures.entries
    ∙ insert_entry-new (λ p q. nat_eq p.0 q.0 && nat_eq p.1 q.1) c.args.signs.now (f.s, f.t) f.sign c.requires.absent
