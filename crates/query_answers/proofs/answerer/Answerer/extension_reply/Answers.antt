use Rattle.std.proofs.Common.{◌≡◌, ◌∙◌, ℕ, MatchOption, Vec, Global, length, sym, ap, subst, subst₂}
use Rattle.dense_blocks.specs.Vectors.{AllScalars}
use Rattle.cochain_vec.specs.CochainComplexes.{IsCochainComplex}
use Rattle.block_complexes.specs.BlockComplexes.{size_of}
use Rattle.block_complexes.specs.Cochains.{complex_of}
use Rattle.block_sparse.specs.StoredBlocks.{StoredBlocks, complex_in}
use Rattle.pair_commit.specs.Slots.{SlotValue}
use Rattle.query_answers.proofs.ExtensionLaws.{length-answer, entry-answer}
use Rattle.query_answers.proofs.answerer.Answerer.extension_reply.Goals as goal

pub kept_cohomology-requires-clause-closed : goal.kept_cohomology-requires-clause-closed
kept_cohomology-requires-clause-closed g c =
    subst (λ (s : SlotValue _). IsCochainComplex (g.F.Scalars.ops s.f) (complex_of (complex_in s.base)))
    (sym c.self.view_is) c.requires.closed

pub returns-then-numbers-size-clause-right : goal.returns-then-numbers-size-clause-right
returns-then-numbers-size-clause-right g c =
    let slot = c.args.self.now in
    let s = c.args.s in
    let size = c.size.ensures ∙ ap (λ (v : StoredBlocks). size_of v.live s) c.base.ensures
    ∙ ap (λ (x : SlotValue _). size_of x.base.live s) c.self.view_is in
    length-answer (g.F.Scalars.ops slot.f) slot s c.args.v.now c.requires.vertex
    (λ e. c.if-numbers-size.true (ap length c.as_slice-numbers.ensures ∙ e ∙ sym size))

pub returns-in_default-clause-right : goal.returns-in_default-clause-right
returns-in_default-clause-right g c =
    let ops = g.F.Scalars.ops in
    let slot = c.args.self.now in
    let s = c.args.s in
    let numbers = c.as_slice-numbers.result.now in
    let size = c.size.ensures ∙ ap (λ (v : StoredBlocks). size_of v.live s) c.base.ensures
    ∙ ap (λ (x : SlotValue _). size_of x.base.live s) c.self.view_is in
    let foreign = subst (λ o. MatchOption o (AllScalars (ops c.field.result) numbers → ⊥)
    (λ (v : Vec ℕ Global). (v.items ≡ numbers) × AllScalars (ops c.field.result) numbers)) c.in_default.is
    c.in_ok-values.ensures in
    entry-answer (ops slot.f) slot s c.args.v.now c.requires.vertex
    (sym (ap length c.as_slice-numbers.ensures) ∙ c.if-numbers-size.false ∙ size)
    (subst₂ (λ f vs. AllScalars (ops f) vs → ⊥) (c.field.ensures ∙ ap (λ (x : SlotValue _). x.f) c.self.view_is)
    c.as_slice-numbers.ensures foreign)
