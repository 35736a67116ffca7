use Rattle.std.proofs.Common.{◌≡◌, ◌+◌, if◌then◌else◌, Bool, sym, ap, subst, arith}
use Rattle.sheaf_words.specs.declared.query.Command.TheVariants.{Ask}
use Rattle.sheaf_text.specs.Rooms.{large_replies, new_coordinates}
use Rattle.sheaf_text.specs.Needs.{AreNeeds}
use Rattle.sheaf_text.proofs.RoomLaws.{needs-same}
use Rattle.sheaf_text.proofs.room.Needs.after_command.Goals as goal

pub returns-in-Ask : goal.returns-in-Ask
returns-in-Ask c = λ n k h.
    let query = c.in-Ask.query in
    let none : k ≡ k + 0 = omega arith in
    subst (λ command. AreNeeds (n + large_replies command) (k + new_coordinates command) c.after_reply.result)
    (sym c.in-Ask.is)
    (needs-same (n + (if c.is_large.result then 1 else 0)) (n + large_replies (Ask query)) k (k + 0)
    c.after_reply.result
    (ap (λ (large : Bool). n + (if large then 1 else 0)) c.is_large.ensures) none (c.after_reply.ensures n k h))
