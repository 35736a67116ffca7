use Rattle.std.proofs.Common.{◌≡◌, ℕ, IfOk, MatchOption, Vec, Global, sym, subst, subst₂, ◌∙◌}
use Rattle.dense_blocks.specs.Vectors.{AllScalars}
use Rattle.cochain_vec.specs.CochainComplexes.{IsCochainComplex}
use Rattle.block_complexes.specs.Cochains.{complex_of}
use Rattle.block_sparse.specs.StoredBlocks.{complex_in}
use Rattle.pair_commit.specs.Slots.{SlotValue}
use Rattle.sheaf_words.specs.declared.query.Query.TheVariants as queries
use Rattle.query_answers.specs.Answers.{IsAnswerIn}
use Rattle.query_answers.proofs.answerer.Answerer.class_reply.Goals as goal

pub kept_cohomology-requires-clause-closed : goal.kept_cohomology-requires-clause-closed
kept_cohomology-requires-clause-closed g c =
    subst (λ (s : SlotValue _). IsCochainComplex (g.F.Scalars.ops s.f) (complex_of (complex_in s.base)))
    (sym c.self.view_is) c.requires.closed

pub returns-clause-right : goal.returns-clause-right
returns-clause-right g c = λ degrees.
    let K = g.F.Scalars.ops c.field.result in
    let numbers = c.as_slice-numbers.result.now in
    let taken = subst (λ o. MatchOption o (AllScalars K numbers → ⊥)
    (λ (v : Vec ℕ Global). (v.items ≡ numbers) × AllScalars K numbers)) c.in-Some.is c.in_ok-values.ensures in
    subst₂ (λ (s : SlotValue _) z. IfOk c.class_of-reply.result
    (IsAnswerIn (g.F.Scalars.ops s.f) degrees s (queries.Class c.args.k z))) c.self.view_is
    (taken.0 ∙ c.as_slice-numbers.ensures) (c.class_of-reply.ensures degrees)
