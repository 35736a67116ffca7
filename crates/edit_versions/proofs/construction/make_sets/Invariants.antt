use Rattle.std.proofs.Common.{◌≡◌, List, drop}
use Rattle.dense_blocks.specs.declared.block.Block.{Block}
use Rattle.edit_versions.specs.Edits.{sets_made}
use Rattle.edit_versions.specs.Works.{IsWork, IsTouched, work_lists}
use Rattle.edit_versions.proofs.construction.make_sets.Given as goal

abbrev pub invariant-loop-i : goal.invariant-loop-i
invariant-loop-i g l = record {
  rest : sets_made (g.F.Scalars.ops l.f) l.c (work_lists l.work) l.i (drop l.i l.sets) ≡ sets_made (g.F.Scalars.ops l.f)
      l.c (work_lists l.initial.work) 0 l.sets;
  work : IsWork (g.F.Scalars.ops l.f) l.c l.work;
  touched : (start : List Block) → IsTouched l.c start l.initial.work → IsTouched l.c start l.work;
}
