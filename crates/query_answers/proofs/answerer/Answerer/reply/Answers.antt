use Rattle.std.proofs.Common.{IfOk, sym, subst}
use Rattle.cochain_vec.specs.CochainComplexes.{IsCochainComplex}
use Rattle.block_complexes.specs.Cochains.{complex_of}
use Rattle.block_sparse.specs.StoredBlocks.{complex_in}
use Rattle.pair_commit.specs.Slots.{SlotValue}
use Rattle.query_answers.specs.Answers.{IsAnswerIn}
use Rattle.query_answers.proofs.answerer.Answerer.reply.Goals as goal

pub betti-requires-clause-closed : goal.betti-requires-clause-closed
betti-requires-clause-closed g c =
    subst (λ (s : SlotValue _). IsCochainComplex (g.F.Scalars.ops s.f) (complex_of (complex_in s.base)))
    (sym c.self.view_is) c.requires.closed

pub equivalence_reply-requires-clause-closed : goal.equivalence_reply-requires-clause-closed
equivalence_reply-requires-clause-closed g c =
    subst (λ (s : SlotValue _). IsCochainComplex (g.F.Scalars.ops s.f) (complex_of (complex_in s.base)))
    (sym c.self-in-Equiv.view_is) c.requires.closed

pub returns-in-Basis-clause-right : goal.returns-in-Basis-clause-right
returns-in-Basis-clause-right g c =
    let slot = c.args.self.now in
    subst (λ query. IfOk c.basis_reply.result (IsAnswerIn (g.F.Scalars.ops slot.f) c.args.degrees slot query))
    (sym c.in-Basis.is) (c.basis_reply.ensures.right c.args.degrees)

pub returns-in-Class-clause-right : goal.returns-in-Class-clause-right
returns-in-Class-clause-right g c =
    let slot = c.args.self.now in
    subst (λ query. IfOk c.class_reply.result (IsAnswerIn (g.F.Scalars.ops slot.f) c.args.degrees slot query))
    (sym c.in-Class.is) (c.class_reply.ensures.right c.args.degrees)
