use Rattle.std.proofs.Common.{◌≡◌, ◌∙◌, ap, sym, subst, false, inl, inr}
use Rattle.std.proofs.lemmas.Bool.{cases_Bool}
use Rattle.rising_lists.specs.Rising.{has}
use Rattle.rising_lists.proofs.Keyed.{place_of}
use Rattle.block_sparse.specs.StoredBlocks.{block_at, flag_of}
use Rattle.block_sparse.proofs.ScalarBlocks.{not-block_at}
use Rattle.block_sparse.proofs.blocks.Blocks.column_has_no_flags.Goals as goal

pub returns : goal.returns
returns c =
    let v = c.args.self.now in
    let s = c.args.s in
    let column = c.column.result.now in (
      λ h t. elim (cases_Bool (has t column)) [
        | inl e ↦ let p = place_of column t e in subst (λ q. flag_of (block_at v s q) ≡ false) p.is
            (c.blocks_have_no_flags.ensures.0 h p.at 0 p.inside)
        | inr e ↦ ap flag_of (not-block_at (block_at v s t) (sym (c.column.ensures.cells t) ∙ e))
      ],
      λ none. c.blocks_have_no_flags.ensures.1 (λ i d l. none _),
    )
