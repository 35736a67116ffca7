use Rattle.std.proofs.Common.{length, slice_index, ap, ◌∙◌, arith}
use Rattle.cell_complex.specs.Complexes.{joins}
use Rattle.cell_complex.proofs.Callers.{incident_from_face}
use Rattle.dense_blocks.specs.Blocks.{written_matrix}
use Rattle.edit_versions.specs.Works.{Puts, zero_at}
use Rattle.edit_versions.proofs.Putting.{on_ok, puts-agree, zero-written, zero-joined}
use Rattle.edit_versions.proofs.work.Work.clear.Goals as goal

pub size_at-rows-requires : goal.size_at-rows-requires
size_at-rows-requires c =
    let i = incident_from_face c.args.c.now c.requires.complex c.args.s c.args.t c.requires.face in
    omega (arith, i.t_is_cell, ap length c.deref.ensures.value)

pub size_at-cols-requires : goal.size_at-cols-requires
size_at-cols-requires c =
    let i = incident_from_face c.args.c.now c.requires.complex c.args.s c.args.t c.requires.face in
    omega (arith, i.s_is_cell, ap length c.deref-2.ensures.value)

pub returns : goal.returns
returns c =
    let stalks = c.args.self.now.stalks.items in
    on_ok c.put.result (Puts c.args.c.now (joins c.args.s c.args.t) (λ f. written_matrix c.in_ok-block.block)
    c.args.self.now c.put.new.self)
    (Puts c.args.c.now (joins c.args.s c.args.t) (zero_at stalks) c.args.self.now c.put.new.self)
    c.put.ensures
    (puts-agree c.args.c.now (joins c.args.s c.args.t) (λ f. written_matrix c.in_ok-block.block) (zero_at stalks)
    c.args.self.now c.put.new.self
    (λ f e. zero-written stalks c.args.s c.args.t c.size_at-rows.result c.size_at-cols.result c.in_ok-block.block
    c.in_ok-block.ensures
    (c.size_at-rows.ensures.value ∙ ap (λ xs. slice_index xs c.args.t) c.deref.ensures.value)
    (c.size_at-cols.ensures.value ∙ ap (λ xs. slice_index xs c.args.s) c.deref-2.ensures.value)
    ∙ zero-joined stalks c.args.s c.args.t f e))
