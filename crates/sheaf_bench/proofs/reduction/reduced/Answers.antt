use Rattle.std.proofs.Common.{◌≡◌, ap, sym, ◌∙◌, subst}
use Rattle.field_table.specs.Table.{ops_of}
use Rattle.field_table.specs.declared.field.Field.{Field}
use Rattle.cochain_vec.specs.CochainComplexes.{IsCochainComplex}
use Rattle.block_complexes.specs.Cochains.{complex_of}
use Rattle.block_sparse.specs.StoredBlocks.{complex_in}
use Rattle.pair_commit.specs.Slots.{SlotValue}
use Rattle.sheaf_data.specs.Sheaves.{SheafData}
use Rattle.sheaf_bench.proofs.reduction.reduced.Goals as goal

pub returns : goal.returns
returns c =
    let f_is : c.reduce.new.slot.f ≡ c.args.sheaf.now.field =
    c.in_ok-reduce.ensures.field
    ∙ ap (λ (s : SlotValue Field). s.f) c.in_ok-slot.ensures
    ∙ ap (λ (x : SheafData Field). x.field) (c.behind-sheaf.view_is ∙ c.draft.ensures.draft) in
    let base_is : c.reduce.new.slot.base ≡ c.in_ok-base.base =
    c.in_ok-reduce.ensures.base ∙ ap (λ (s : SlotValue Field). s.base) c.in_ok-slot.ensures in
    record {
      closed = subst (λ f. IsCochainComplex (ops_of f) (complex_of (complex_in c.reduce.new.slot.base))) (sym f_is)
          (subst (λ v. IsCochainComplex (ops_of c.args.sheaf.now.field) (complex_of (complex_in v))) (sym base_is)
          c.in_ok-base.ensures.closed);
    }
