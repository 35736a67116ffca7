-- Which reply is right for a question.
use Rattle.std.specs.Prelude.{◌≡◌, ◌≢◌, ℕ, suc, ◌==◌, List, [], ◌∷◌, Some, length, slice_get, if◌then◌else◌}
use Rattle.dense_blocks.specs.Field.{Ops}
use Rattle.dense_blocks.specs.LinearMaps.{IsMatrixOf}
use Rattle.dense_blocks.specs.declared.block.Block.{Block}
use Rattle.dense_blocks.specs.Vectors.{AllScalars, IsVector}
use Rattle.cochain_vec.specs.declared.cell.Cell.{Cell}
use Rattle.cochain_vec.specs.Complexes.{CellularComplex, IsCochain, cells_of, coordinates, coboundary}
use Rattle.cochain_vec.specs.Cohomology.{IsBasis, AreDimensions}
use Rattle.cocycle_bases.specs.Classes.{IsFirstOpen, IsClass}
use Rattle.sections.specs.Extensions.{IsSectionWith, IsObstruction}
use Rattle.block_complexes.specs.BlockComplexes.{BlockComplex}
use Rattle.block_complexes.specs.Cochains.{complex_of}
use Rattle.equivalence_laws.specs.Equivalences.{IsEquivalence, graded_matrix}
use Rattle.sheaf_words.specs.declared.query.Query.{Query}
use Rattle.sheaf_words.specs.declared.query.Query.TheVariants as queries
use Rattle.sheaf_words.specs.declared.reply.Reduced.{Reduced}
use Rattle.sheaf_words.specs.declared.reply.Maps.{Maps}
use Rattle.sheaf_words.specs.declared.reply.Reply.{Reply}
use Rattle.sheaf_words.specs.declared.reply.Reply.TheVariants as replies

-- the whole complex of a version, with cells of so many degrees; its start complex, the pairs of cells that were
-- removed from it, in order, and what is left
pub record Reduction : Type 0 where
  pub whole : CellularComplex
  pub degrees : ℕ
  pub start : BlockComplex
  pub pairs : List (ℕ × ℕ)
  pub rest : BlockComplex

-- a block for each of so many degrees, from 0 on: that of degree k has m k rows and n k columns
pub record AreGradedBlocks (degrees : ℕ) (m n : ℕ → ℕ) (blocks : List Block) : Type 0 where
  pub one_each : length blocks ≡ degrees
  pub rows : (k : ℕ) (b : Block) → slice_get blocks k ≡ Some b → b.rows ≡ m k
  pub columns : (k : ℕ) (b : Block) → slice_get blocks k ≡ Some b → b.cols ≡ n k

-- the pairs that were removed; the cells that are left; and in each degree the matrix of their coboundary
pub record IsRightReduced (K : Ops) (r : Reduction) (reply : Reduced) : Type 0 where
  pub pairs : reply.pairs ≡ r.pairs
  pub live : reply.live ≡ r.rest.live
  pub shapes : AreGradedBlocks r.degrees
      (λ k. coordinates (complex_of r.rest) (suc k)) (coordinates (complex_of r.rest)) reply.d
  pub matrices : (k : ℕ) → IsMatrixOf K (coordinates (complex_of r.rest) (suc k)) (coordinates (complex_of r.rest) k)
      (coboundary K (complex_of r.rest) k) (graded_matrix reply.d k)

-- the cells of the start complex; and matrices that make it equivalent to what is left
pub record AreRightMaps (K : Ops) (r : Reduction) (maps : Maps) : Type 0 where
  pub base : maps.base ≡ r.start.live
  pub pi_shapes : AreGradedBlocks r.degrees (coordinates (complex_of r.rest)) (coordinates (complex_of r.start)) maps.pi
  pub iota_shapes : AreGradedBlocks r.degrees (coordinates (complex_of r.start)) (coordinates (complex_of r.rest))
      maps.iota
  pub h_shapes : AreGradedBlocks r.degrees (coordinates (complex_of r.start))
      (λ k. coordinates (complex_of r.start) (suc k)) maps.h
  pub equivalence : IsEquivalence K (complex_of r.start) (complex_of r.rest)
      (graded_matrix maps.pi) (graded_matrix maps.iota) (graded_matrix maps.h)

-- right for the numbers z as a cochain of degree k of C: they are too many or too few; or as many as it has
-- coordinates, but not all scalars; or a cochain whose coboundary is not zero, first at the cell t; or a cocycle, with
-- its class
abbrev pub IsRightClass : Ops → CellularComplex → ℕ → List ℕ → Reply → Type 0
IsRightClass K C k z replies.BadLength = length z ≢ coordinates C k
IsRightClass K C k z replies.BadEntry = (length z ≡ coordinates C k) × (AllScalars K z → ⊥)
IsRightClass K C k z (replies.NotCocycle j t) = (j ≡ k) × IsCochain K C k z × IsFirstOpen K C k z t
IsRightClass K C k z (replies.Class j coords vectors primitive) = (j ≡ k) × IsClass K C k z coords vectors primitive
IsRightClass K C k z reply = ⊥

-- how many coordinates the cell s has among these cells: none where it is not one of them
abbrev pub size_in : List Cell → ℕ → ℕ
size_in [] s = 0
size_in (c ∷ cs) s = if c.cell == s then c.size else size_in cs s

-- how many coordinates a cochain of degree 0 has at s: none where s is no cell of degree 0
abbrev pub vertex_size : CellularComplex → ℕ → ℕ
vertex_size C s = size_in (cells_of C 0) s

-- right for the numbers v as the value of a section at s: they are too many or too few; or as many as s has
-- coordinates, but not all scalars; or such a value, with a section that has it, or with an obstruction to it
abbrev pub IsRightExtension : Ops → CellularComplex → ℕ → List ℕ → Reply → Type 0
IsRightExtension K C s v replies.BadLength = length v ≢ vertex_size C s
IsRightExtension K C s v replies.BadEntry = (length v ≡ vertex_size C s) × (AllScalars K v → ⊥)
IsRightExtension K C s v (replies.Section t z) = (t ≡ s) × IsVector K (vertex_size C s) v × IsSectionWith K C s v z
IsRightExtension K C s v (replies.NoSection t functional) =
    (t ≡ s) × IsVector K (vertex_size C s) v × IsObstruction K C s v functional
IsRightExtension K C s v reply = ⊥

-- the reply is right for the question on the version: a line for each kind of reply
abbrev pub IsRightReply : Ops → Reduction → Query → Reply → Type 0
IsRightReply K r queries.Betti (replies.Betti numbers) = AreDimensions K r.whole r.degrees numbers
IsRightReply K r queries.Reduce (replies.Reduce reply) = IsRightReduced K r reply
IsRightReply K r queries.Equiv (replies.Equiv reply maps) = IsRightReduced K r reply × AreRightMaps K r maps
IsRightReply K r (queries.Basis k) (replies.Basis j vectors) = (j ≡ k) × IsBasis K r.whole k vectors
IsRightReply K r (queries.Class k z) reply = IsRightClass K r.whole k z reply
IsRightReply K r queries.Sections (replies.Sections vectors) = IsBasis K r.whole 0 vectors
IsRightReply K r (queries.Extend s v) reply = IsRightExtension K r.whole s v reply
IsRightReply K r query reply = ⊥
