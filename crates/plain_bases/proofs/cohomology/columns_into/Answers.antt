use Rattle.std.proofs.Common.{◌≤◌, ◌∙◌, List, sym, subst}
use Rattle.std.specs.Prelude.{◌==◌}
use Rattle.cochain_vec.specs.declared.cell.Cell.{Cell}
use Rattle.cochain_vec.specs.Complexes.{total_size}
use Rattle.plain_bases.proofs.ComplexLaws.{few_of}
use Rattle.plain_bases.proofs.cohomology.columns_into.Goals as goal

pub total_size-requires : goal.total_size-requires
total_size-requires g c =
    subst (λ (cs : List Cell). total_size cs ≤ 4096) (sym (c.deref.ensures.value ∙ c.in_ok-cells.ensures))
    (few_of (g.F.Scalars.ops c.args.f.now) (g.met.F.Scalars.is_field c.args.f.now) c.args.complex.now c.requires.complex
    (λ x. x.degree == 0))
