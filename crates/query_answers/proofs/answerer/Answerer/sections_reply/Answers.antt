use Rattle.std.proofs.Common.{IfOk, sym, subst}
use Rattle.cochain_vec.specs.CochainComplexes.{IsCochainComplex}
use Rattle.block_complexes.specs.Cochains.{complex_of}
use Rattle.block_sparse.specs.StoredBlocks.{complex_in}
use Rattle.pair_commit.specs.Slots.{SlotValue}
use Rattle.sheaf_words.specs.declared.query.Query.TheVariants as queries
use Rattle.query_answers.specs.Answers.{IsAnswerIn}
use Rattle.query_answers.proofs.answerer.Answerer.sections_reply.Goals as goal

pub kept_cohomology-requires-clause-closed : goal.kept_cohomology-requires-clause-closed
kept_cohomology-requires-clause-closed g c =
    subst (λ (s : SlotValue _). IsCochainComplex (g.F.Scalars.ops s.f) (complex_of (complex_in s.base)))
    (sym c.self.view_is) c.requires.closed

pub returns-clause-right : goal.returns-clause-right
returns-clause-right g c = λ degrees.
    subst (λ (s : SlotValue _). IfOk c.sections_of-reply.result
    (IsAnswerIn (g.F.Scalars.ops s.f) degrees s queries.Sections)) c.self.view_is
    (c.sections_of-reply.ensures degrees)
