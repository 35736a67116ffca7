use Rattle.std.proofs.Common.{◌≡◌, ap, ◌∙◌, sym, subst, All, inl, inr, ◌<◌, length, arith}
use Rattle.std.specs.Option.{is_some}
use Rattle.std.proofs.lemmas.Bool.{cases_Bool}
use Rattle.dense_blocks.specs.Vectors.{AllScalars}
use Rattle.rising_lists.specs.Rising.{has}
use Rattle.rising_lists.proofs.Keyed.{place_of}
use Rattle.block_complexes.specs.BlockComplexes.{cells}
use Rattle.block_sparse.specs.StoredBlocks.{block_at, matrix}
use Rattle.block_sparse.specs.Invariants.{IsSound}
use Rattle.block_complexes.proofs.LiveLaws.{cell-at, length-cells}
use Rattle.block_sparse.proofs.ScalarBlocks.{block_at-between, none-scalars, not-block_at}
use Rattle.block_sparse.proofs.StoredLaws.{all-scalars, stored-block_complex}
use Rattle.block_sparse.proofs.blocks.Blocks.is_over.Goals as goal

pub returns : goal.returns
returns g c =
    let K = g.F.Scalars.ops c.args.f.now in
    let F = g.met.F.Scalars.is_field c.args.f.now in
    let v = c.args.self.now in
    let live = c.live.result.now in
    let is : live ≡ v.live = c.live.ensures.live in
    let sound : IsSound v.live v.rows v.columns = c.live.ensures.sound in (
      λ h. stored-block_complex K F v sound (λ s t. elim (cases_Bool (is_some (block_at v s t))) [
        | inl e ↦
            let p = place_of (cells live) t (ap (λ l. has t (cells l)) is ∙ (block_at-between v sound s t e).to) in
            let l : p.at < length live = omega (arith, p.inside, length-cells live) in
            subst (λ q. All (AllScalars K) (matrix v s q)) (sym (cell-at live p.at l) ∙ p.is)
            (c.rows_are_over.ensures.0 h p.at (0, 0, 0) l s)
        | inr e ↦ none-scalars K v s t F (not-block_at (block_at v s t) e)
      ]),
      λ is. c.rows_are_over.ensures.1 (λ i d l s. all-scalars K F v sound is s _),
    )
