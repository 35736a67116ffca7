use Rattle.std.proofs.Common.{ap, ◌∙◌}
use Rattle.rising_lists.specs.Rising.{entry_of}
use Rattle.open_columns.specs.Open.{is_open}
use Rattle.block_sparse.specs.Candidates.{is_candidate}
use Rattle.open_columns.proofs.OpenLaws.{first_pair-same}
use Rattle.block_sparse.proofs.CandidateLaws.{open-candidate}
use Rattle.block_sparse.proofs.blocks.Blocks.first_open_after.Goals as goal

pub returns : goal.returns
returns c =
    first_pair-same (λ s t. is_open (entry_of c.self.inside.columns s t)) (is_candidate c.args.self.now) c.args.x
    c.first_open_after.result
    (λ s t. open-candidate (record {
      live = c.self.inside.live;
      rows = c.self.inside.rows;
      columns =
          c.self.inside.columns;
    }) s t c.self.invariant ∙ ap (λ v. is_candidate v s t) c.self.view_is)
    c.first_open_after.ensures
