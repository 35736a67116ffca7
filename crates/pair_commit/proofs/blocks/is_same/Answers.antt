use Rattle.std.proofs.Common.{sym, ◌∙◌, ap, refl}
use Rattle.std.proofs.lemmas.Bool.Decides.{Decides-eqb}
use Rattle.std.proofs.lemmas.Slice.Eq.{slice_eq-Decides}
use Rattle.dense_blocks.proofs.SameBlocks.{same_block}
use Rattle.pair_commit.proofs.blocks.is_same.Goals as goal

pub returns-then-has_same_shape : goal.returns-then-has_same_shape
returns-then-has_same_shape c =
    let d = slice_eq-Decides Decides-eqb _ _ _ c.eq.ensures in
    let a = c.as_slice.ensures in
    let b = c.as_slice-then-has_same_shape.ensures in
    let shape = c.if-has_same_shape.ensures.0 refl in (
      λ e. same_block c.args.a.now c.args.b.now shape.0 shape.1 (sym a ∙ d.0 e ∙ b),
      λ e. d.1 (a ∙ ap (λ block. block.entries) e ∙ sym b),
    )
