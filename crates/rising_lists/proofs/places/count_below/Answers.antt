use Rattle.std.proofs.Common.{arith, Ok, Err}
use Rattle.std.proofs.lemmas.List.Sorted.{searched}
use Rattle.rising_lists.proofs.Keyed.{rising_le}
use Rattle.rising_lists.proofs.places.count_below.Goals as goal

pub returns-in-Ok-clause-below : goal.returns-in-Ok-clause-below
returns-in-Ok-clause-below c = λ i l.
    let f : _ = searched c.args.cells.now c.args.c (Ok c.in-Ok.at) c.in-Ok.ensures.position
    (rising_le c.args.cells.now c.requires) in
    omega (arith, c.requires i c.in-Ok.at l f.0, f.1)

pub returns-in-Ok-clause-from : goal.returns-in-Ok-clause-from
returns-in-Ok-clause-from c = λ i l m.
    let f : _ = searched c.args.cells.now c.args.c (Ok c.in-Ok.at) c.in-Ok.ensures.position
    (rising_le c.args.cells.now c.requires) in
    omega (arith, rising_le c.args.cells.now c.requires c.in-Ok.at i l m, f.1)

pub returns-in-Err-clause-below : goal.returns-in-Err-clause-below
returns-in-Err-clause-below c =
    let f : _ = searched c.args.cells.now c.args.c (Err c.in-Err.at) c.in-Err.ensures.position
    (rising_le c.args.cells.now c.requires) in
    f.1

pub returns-in-Err-clause-from : goal.returns-in-Err-clause-from
returns-in-Err-clause-from c = λ i l m.
    let f : _ = searched c.args.cells.now c.args.c (Err c.in-Err.at) c.in-Err.ensures.position
    (rising_le c.args.cells.now c.requires) in
    omega (arith, f.2 i l m)
