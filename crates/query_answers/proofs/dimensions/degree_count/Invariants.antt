use Rattle.std.proofs.Common.{◌≡◌, take}
use Rattle.sheaf_data.specs.Betti.{degree_count}
use Rattle.query_answers.proofs.dimensions.degree_count.Given as goal

abbrev pub invariant-loop-dim : goal.invariant-loop-dim
invariant-loop-dim l = l.count ≡ degree_count (take l.dim-index l.dims)
