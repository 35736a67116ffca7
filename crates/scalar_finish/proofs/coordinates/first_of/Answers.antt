use Rattle.scalar_finish.proofs.coordinates.first_of.Goals as goal

pub returns-in-Some : goal.returns-in-Some
returns-in-Some c =
    let e = c.requires.numbers.firsts c.args.s c.requires.live in cc (c.in-Some.ensures, e)

pub returns-in-None : goal.returns-in-None
returns-in-None c =
    let e = c.requires.numbers.firsts c.args.s c.requires.live in cc (c.in-None.ensures, e)
