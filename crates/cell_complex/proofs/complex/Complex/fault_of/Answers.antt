use Rattle.std.proofs.Common.{◌≡◌, true, false, sym, ap, ◌∙◌, arith}
use Rattle.std.proofs.lemmas.Grind.{common_steps}
use Rattle.cell_complex.specs.Complexes.{is_face}
use Rattle.cell_complex.proofs.Entries.{is_some-lookup}
use Rattle.cell_complex.proofs.complex.Complex.fault_of.Goals as goal

pub returns-then-contains_key : goal.returns-then-contains_key
returns-then-contains_key c =
    let f = c.args.face in
    let is : is_face c.args.self.now f.s f.t ≡ true =
    sym (c.contains_key.ensures ∙ is_some-lookup f.s f.t c.self.inside.signs.entries
    ∙ ap (λ all. is_face all f.s f.t) c.self.view_is) ∙ c.if-contains_key.true in
    grind (arith, common_steps, is)

pub returns : goal.returns
returns c =
    let f = c.args.face in
    let is : is_face c.args.self.now f.s f.t ≡ false =
    sym (c.contains_key.ensures ∙ is_some-lookup f.s f.t c.self.inside.signs.entries
    ∙ ap (λ all. is_face all f.s f.t) c.self.view_is) ∙ c.if-contains_key.false in
    grind (arith, common_steps, is)
