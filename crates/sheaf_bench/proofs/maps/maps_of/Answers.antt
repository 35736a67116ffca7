use Rattle.std.proofs.Common.{◌≡◌, List, sym, subst}
use Rattle.field_table.specs.Table.{ops_of}
use Rattle.field_table.specs.declared.field.Field.{Field}
use Rattle.cochain_vec.specs.CochainComplexes.{IsCochainComplex}
use Rattle.block_complexes.specs.BlockComplexes.{BlockComplex, IsBlockComplex}
use Rattle.block_complexes.specs.Cochains.{complex_of}
use Rattle.block_sparse.specs.StoredBlocks.{StoredBlocks, complex_in}
use Rattle.reduce_step.specs.declared.record.Step.{Step}
use Rattle.reduce_step.specs.Logs.{AreStepsFrom}
use Rattle.pair_commit.specs.Slots.{SlotValue}
use Rattle.sheaf_bench.proofs.maps.maps_of.Goals as goal

at_parts : (slot : SlotValue Field) (f : Field) (v : StoredBlocks) (log : List Step) → f ≡ slot.f → v ≡ slot.base
    → log ≡ slot.log → (P : Field → StoredBlocks → List Step → Type 0) → P slot.f slot.base slot.log → P f v log
at_parts slot f v log f_is v_is log_is P h =
    subst (λ x. P x v log) (sym f_is)
    (subst (λ x. P slot.f x log) (sym v_is) (subst (λ x. P slot.f slot.base x) (sym log_is) h))

pub of_log-requires : goal.of_log-requires
of_log-requires c =
    let slot = c.args.slot.now in
    let is = c.now-present.ensures.slot in
    let read = at_parts slot c.field.result c.base.result.now c.log.result.now c.field.ensures c.base.ensures
    c.log.ensures in
    record {
      complex = read (λ f v log. IsBlockComplex (ops_of f) (complex_in v)) is.base_is;
      closed = read (λ f v log. IsCochainComplex (ops_of f) (complex_of (complex_in v))) c.requires;
      steps = read (λ f v log. (w : BlockComplex) × AreStepsFrom (ops_of f) (complex_in v) log w)
          (complex_in slot.present, is.steps);
    }
