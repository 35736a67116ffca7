use Rattle.block_complexes.specs.Cochains.{complex_of}
use Rattle.block_sparse.specs.StoredBlocks.{complex_in}
use Rattle.query_answers.specs.Answers.{AreSizes}
use Rattle.query_answers.proofs.numbers.sizes.Given as goal

abbrev pub invariant-loop-k : goal.invariant-loop-k
invariant-loop-k l = AreSizes (complex_of (complex_in l.b)) l.k l.numbers.items
