use Rattle.std.proofs.Common.{◌∙◌, sym, subst, All, inl, inr}
use Rattle.std.proofs.lemmas.Bool.{cases_Bool}
use Rattle.dense_blocks.specs.Vectors.{AllScalars}
use Rattle.rising_lists.specs.Rising.{has}
use Rattle.rising_lists.proofs.Keyed.{place_of}
use Rattle.block_sparse.specs.StoredBlocks.{block_at, matrix}
use Rattle.block_sparse.proofs.ScalarBlocks.{none-scalars, not-block_at}
use Rattle.block_sparse.proofs.blocks.Blocks.row_is_over.Goals as goal

pub returns : goal.returns
returns g c =
    let K = g.F.Scalars.ops c.args.f.now in
    let v = c.args.self.now in
    let t = c.args.t in
    let row = c.row.result.now in (
      λ h s. elim (cases_Bool (has s row)) [
        | inl e ↦ let p = place_of row s e in subst (λ q. All (AllScalars K) (matrix v q t)) p.is
            (c.blocks_are_over.ensures.0 h p.at 0 p.inside)
        | inr e ↦ none-scalars K v s t (g.met.F.Scalars.is_field c.args.f.now)
            (not-block_at (block_at v s t) (sym (c.row.ensures.cells s) ∙ e))
      ],
      λ all. c.blocks_are_over.ensures.1 (λ i d l. all _),
    )
