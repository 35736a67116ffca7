use Rattle.std.proofs.Common.{sym, subst, ◌∙◌}
use Rattle.field_table.specs.declared.field.Field.{Field}
use Rattle.field_table.specs.Table.{ops_of}
use Rattle.field_table.specs.TableLaws.{table_is_field}
use Rattle.cochain_vec.specs.CochainComplexes.{IsCochainComplex}
use Rattle.block_complexes.specs.Cochains.{complex_of}
use Rattle.block_complexes.proofs.ComplexLaws.{differential_is_cochain_complex}
use Rattle.removals.proofs.ReductionLaws.{removals_keep_all}
use Rattle.block_sparse.specs.StoredBlocks.{complex_in}
use Rattle.reduce_step.specs.Logs.{pairs_of}
use Rattle.reduce_step.proofs.LogLaws.{steps-after}
use Rattle.pair_commit.specs.Slots.{SlotValue}
use Rattle.equivalence_tests.proofs.composite_tests.rest.Goals as goal

pub returns-clause-closed : goal.returns-clause-closed
returns-clause-closed g c =
    let slot : SlotValue Field = c.args.slot.now in
    let K = ops_of slot.f in
    let F = table_is_field slot.f in
    let v = complex_in slot.base in
    let w = complex_in slot.present in
    let is = c.now.ensures.slot in
    let keeps = removals_keep_all K v w (pairs_of slot.log) F is.base_is (steps-after K slot.log v w is.steps) in
    let closed = (differential_is_cochain_complex K w F is.present_is).0
    (keeps.differential ((differential_is_cochain_complex K v F is.base_is).1 c.requires)) in
    subst (λ (s : SlotValue Field). IsCochainComplex (ops_of s.f) (complex_of (complex_in s.base)))
    (sym c.in_ok-rest.ensures)
    (subst (λ f. IsCochainComplex (ops_of f) (complex_of (complex_in c.in_ok-base.base))) (sym c.field-f.ensures)
    (subst (λ b. IsCochainComplex K (complex_of (complex_in b))) (sym (c.in_ok-base.ensures ∙ c.now.ensures.present))
    closed))
