-- Several removals: what they keep, and that they leave one block complex at most.
use Rattle.std.proofs.Common.{ℕ, List, [], ◌∷◌, subst}
use Rattle.dense_blocks.specs.Field.{Ops}
use Rattle.dense_blocks.specs.MatrixFacts.{IsMatrix}
use Rattle.dense_blocks.proofs.Shapes.{to_matrix}
use Rattle.dense_blocks.proofs.MatrixLaws.{inverse-unique}
use Rattle.block_complexes.specs.BlockComplexes.{BlockComplex, HaveSameMatrices, size_of}
use Rattle.block_complexes.proofs.SameLaws.{same-sym, same-trans, same-block_complex, same-differential}
use Rattle.removals.specs.Removals.{IsRemoval}
use Rattle.removals.specs.Reductions.{IsAfter}
use Rattle.removals.specs.Laws.{RemovalsKeepAll, RemovalsLeaveOne}
use Rattle.removals.proofs.SameRemovals.{removal-same-before, removal-one}
use Rattle.removals.proofs.RemovalLaws.{removal_keeps_block_complex, removal_keeps_differential}

pub removals_keep_all : RemovalsKeepAll
removals_keep_all K v w [] F is after =
    record { block_complex = same-block_complex K v w after is; differential = same-differential K v w after }
removals_keep_all K v w (p ∷ pairs) F is after =
    let m = after.0 in
    let a = after.1 in
    let rest = removals_keep_all K m w pairs F (removal_keeps_block_complex K v m p.0 p.1 a F is after.2) after.3 in
    record {
      block_complex = rest.block_complex;
      differential = λ closed. rest.differential (removal_keeps_differential K v m p.0 p.1 a F is after.2 closed);
    }

-- from the same block complex
pub after-same-before : (K : Ops) (v m w : BlockComplex) (pairs : List (ℕ × ℕ)) → HaveSameMatrices v m
    → IsAfter K v pairs w → IsAfter K m pairs w
after-same-before K v m w [] h after = same-trans m v w (same-sym v m h) after
after-same-before K v m w (p ∷ pairs) h after =
    (after.0, after.1, removal-same-before K v m p.0 p.1 after.1 after.0 h after.2, after.3)

pub removals_leave_one : RemovalsLeaveOne
removals_leave_one K v w m [] F is one other = same-trans w v m (same-sym v w one) other
removals_leave_one K v w m (p ∷ pairs) F is one other =
    let x = p.0 in
    let y = p.1 in
    let n = size_of v.live x in
    let first = one.2 in
    let shape = is.matrices x y (record { from = first.pair.from; to = first.pair.to }) in
    let square = to_matrix K n n (v.matrix x y) (subst (λ k. IsMatrix K k n (v.matrix x y)) first.square shape) in
    let same-inverse = inverse-unique K F n (v.matrix x y) other.1 one.1 square other.2.inverse first.inverse in
    let second = subst (λ a. IsRemoval K v x y a other.0) same-inverse other.2 in
    let same = removal-one K v x y one.1 other.0 one.0 second first in
    removals_leave_one K one.0 w m pairs F (removal_keeps_block_complex K v one.0 x y one.1 F is first) one.3
    (after-same-before K other.0 one.0 m pairs same other.3)
