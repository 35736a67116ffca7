use Rattle.std.proofs.Common.{sym, subst₂}
use Rattle.block_complexes.specs.BlockComplexes.{IsBlockComplex}
use Rattle.block_sparse.specs.StoredBlocks.{StoredBlocks, complex_in}
use Rattle.query_answers.specs.Endings.{IsEndingOf}
use Rattle.query_answers.proofs.ending.ending_of.Goals as goal

pub end-requires : goal.end-requires
end-requires g c =
    subst₂ (λ f (v : StoredBlocks). IsBlockComplex (g.F.Scalars.ops f) (complex_in v)) (sym c.field-f.ensures)
    (sym c.now-present.ensures.present) c.now-present.ensures.slot.present_is

pub returns : goal.returns
returns g c =
    subst₂ (λ f v. IsEndingOf (g.F.Scalars.ops f) v c.in_ok-ending.ending) c.field-f.ensures
    c.now-present.ensures.present c.in_ok-ending.ensures
