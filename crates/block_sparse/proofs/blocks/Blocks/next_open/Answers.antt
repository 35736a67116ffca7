use Rattle.std.proofs.Common.{ap, ◌∙◌}
use Rattle.rising_lists.specs.Rising.{entry_of}
use Rattle.open_columns.specs.Open.{is_open}
use Rattle.block_sparse.specs.Candidates.{is_candidate}
use Rattle.open_columns.proofs.OpenLaws.{first_from-same}
use Rattle.block_sparse.proofs.CandidateLaws.{open-candidate}
use Rattle.block_sparse.proofs.blocks.Blocks.next_open.Goals as goal

pub returns : goal.returns
returns c =
    first_from-same (λ t. is_open (entry_of c.self.inside.columns c.args.x t)) (is_candidate c.args.self.now c.args.x)
    c.args.from c.next_open.result
    (λ t. open-candidate (record {
      live = c.self.inside.live;
      rows = c.self.inside.rows;
      columns =
          c.self.inside.columns;
    }) c.args.x t c.self.invariant ∙ ap (λ v. is_candidate v c.args.x t) c.self.view_is)
    c.next_open.ensures
