use Rattle.std.proofs.Common.{sym, subst}
use Rattle.block_complexes.specs.BlockComplexes.{IsBlockComplex}
use Rattle.block_sparse.specs.StoredBlocks.{complex_in}
use Rattle.scalar_finish.proofs.PairLaws.{step-at}
use Rattle.scalar_finish.proofs.reduction.remove.Goals as goal

pub apply-requires-clause-over : goal.apply-requires-clause-over
apply-requires-clause-over g c =
    subst (λ f. IsBlockComplex (g.F.Scalars.ops f) (complex_in c.args.b.now)) (sym c.in_ok-record.ensures.field)
    c.requires.over

pub returns-in-Ok : goal.returns-in-Ok
returns-in-Ok g c =
    step-at g.F.Scalars.ops c.args.f.now (complex_in c.args.b.now) (complex_in c.apply.new.b) c.args.x c.args.y
    c.in_ok-record.record c.in-Ok.step c.in_ok-record.ensures.field c.in_ok-record.ensures.from
    c.in_ok-record.ensures.to c.in-Ok.ensures.step c.in-Ok.ensures.step_from c.in-Ok.ensures.removal
