use Rattle.std.proofs.Common.{subst}
use Rattle.sheaf_text.specs.Scripts.{AddsQuery}
use Rattle.sheaf_text.proofs.Accepted.{query_accepted, degree_accepted}
use Rattle.sheaf_text.proofs.Taken.{takes_query}
use Rattle.sheaf_text.proofs.state.State.take_query.Goals as goal

pub returns : goal.returns
returns c = takes_query c.args.self.now _ c.args.kind _ c.requires.accepted.sound c.requires.query
    (query_accepted _ c.args.kind _ c.requires.query c.requires.accepted)
    (subst (AddsQuery c.args.self.now.scripts _) c.in_ok-query.ensures c.in_ok-add_query.ensures)

pub query_of-requires : goal.query_of-requires
query_of-requires c = degree_accepted _ _ _ c.requires.accepted
