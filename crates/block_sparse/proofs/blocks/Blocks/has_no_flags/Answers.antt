use Rattle.std.proofs.Common.{◌≡◌, ap, ◌∙◌, sym, subst, false, inl, inr, ◌<◌, length, arith}
use Rattle.std.specs.Option.{is_some}
use Rattle.std.proofs.lemmas.Bool.{cases_Bool}
use Rattle.rising_lists.specs.Rising.{has}
use Rattle.rising_lists.proofs.Keyed.{place_of}
use Rattle.block_complexes.specs.BlockComplexes.{cells}
use Rattle.block_complexes.proofs.LiveLaws.{cell-at, length-cells}
use Rattle.block_sparse.specs.StoredBlocks.{block_at, flag_of}
use Rattle.block_sparse.proofs.ScalarBlocks.{block_at-between, not-block_at}
use Rattle.block_sparse.proofs.blocks.Blocks.has_no_flags.Goals as goal

pub returns : goal.returns
returns c =
    let v = c.args.self.now in
    let live = c.live.result.now in (
      λ h s t. elim (cases_Bool (is_some (block_at v s t))) [
        | inl e ↦
            let from = (block_at-between v c.live.ensures.sound s t e).from in
            let p = place_of (cells live) s (ap (λ l. has s (cells l)) c.live.ensures.live ∙ from) in
            let l : p.at < length live = omega (arith, p.inside, length-cells live) in
            subst (λ q. flag_of (block_at v q t) ≡ false) (sym (cell-at live p.at l) ∙ p.is)
            (c.columns_have_no_flags.ensures.0 h p.at (0, 0, 0) l t)
        | inr e ↦ ap flag_of (not-block_at (block_at v s t) e)
      ],
      λ none. c.columns_have_no_flags.ensures.1 (λ i d l t. none _ t),
    )
