-- What a slot gives to be worked on.
use Rattle.std.specs.Prelude.{◌≡◌, ℕ, true, List, [], ◌∷◌}
use Rattle.dense_blocks.specs.Field.{Ops}
use Rattle.dense_blocks.specs.declared.block.Block.{Block}
use Rattle.dense_blocks.specs.Inverses.{IsInverseBlock}
use Rattle.block_sparse.specs.StoredBlocks.{StoredBlocks, StandsAt}
use Rattle.block_sparse.specs.Candidates.{is_candidate}
use Rattle.pair_find.specs.Pairs.{IsNextFrom}
use Rattle.reduce_step.specs.declared.footprint.Footprint.{Footprint}
use Rattle.reduce_step.specs.Footprints.{IsFootprint, IsOverField}
use Rattle.pair_commit.specs.declared.kept.Kept.{Kept}
use Rattle.pair_commit.specs.declared.work.Work.{Work}
use Rattle.pair_commit.specs.declared.work.Work.TheVariants.{Carried, Dropped, Try, Finished}
use Rattle.pair_commit.specs.Slots.{IsTried}

-- a square block has no flag
abbrev pub HasCandidate : StoredBlocks → Type 0
HasCandidate v = (s t : ℕ) × (is_candidate v s t ≡ true)

-- the first carried pivot stands at its pair: the footprint of the pair, and the kept inverse
pub record IsCarried (v : StoredBlocks) (carried : List Kept) (foot : Footprint) (inverse : Block) : Type 0 where
  pub kept : Kept
  pub rest : List Kept
  pub first : carried ≡ kept ∷ rest
  pub stands : StandsAt v kept.x kept.y kept.pivot
  pub footprint : IsFootprint v kept.x kept.y foot
  pub pivot : foot.pivot ≡ kept.pivot
  pub inverse_is : inverse ≡ kept.inverse

-- the first carried pivot does not stand at its pair: it is carried no more
pub record IsDropped (v : StoredBlocks) (carried : List Kept) (x y : ℕ) (after : List Kept) : Type 0 where
  pub kept : Kept
  pub first : carried ≡ kept ∷ after
  pub from : x ≡ kept.x
  pub to : y ≡ kept.y
  pub differs : StandsAt v kept.x kept.y kept.pivot → ⊥

-- nothing is carried: the footprint of the next candidate from a pair on
pub record IsTry (v : StoredBlocks) (carried : List Kept) (from : ℕ × ℕ) (foot : Footprint) : Type 0 where
  pub none : carried ≡ []
  pub pair : ℕ × ℕ
  pub next : IsNextFrom v from pair
  pub footprint : IsFootprint v pair.0 pair.1 foot

-- what is given of the present blocks and of what is carried, and what is carried after
abbrev pub Takes : StoredBlocks → List Kept → ℕ × ℕ → Work → List Kept → Type 0
Takes v carried from (Carried foot inverse) after =
    HasCandidate v × IsCarried v carried foot inverse × (after ≡ carried)
Takes v carried from (Dropped x y) after = HasCandidate v × IsDropped v carried x y after
Takes v carried from (Try foot) after = HasCandidate v × IsTry v carried from foot × (after ≡ carried)
Takes v carried from Finished after = IsTried v × (after ≡ carried)

-- a footprint may be finished over the field, as it is or with the inverse that comes along: its entries are scalars,
-- and the inverse is that of its pivot
abbrev pub MayFinish : Ops → Work → Type 0
MayFinish K (Carried foot inverse) = IsOverField K foot × IsInverseBlock K foot.pivot inverse
MayFinish K (Dropped x y) = Unit {0}
MayFinish K (Try foot) = IsOverField K foot
MayFinish K Finished = Unit {0}
