-- Solo orders: one client after the other, and each choice fixed.
use Rattle.std.specs.Prelude.{◌≡◌, ℕ, ◌<◌, List}
use Rattle.dense_blocks.specs.Field.{Ops}
use Rattle.first_reduction.specs.FirstPairs.{IsFirstInvertible}
use Rattle.dense_blocks.specs.Matrices.{image_of}
use Rattle.block_complexes.specs.BlockComplexes.{BlockComplex}
use Rattle.block_complexes.specs.Cochains.{complex_of}
use Rattle.equivalence_laws.specs.Bases.{unit_images}
use Rattle.equivalence_laws.specs.Composites.{IsCompositeOfPairs}
use Rattle.equivalence_laws.specs.Equivalences.{GradedMatrix, graded_matrix, composite_pi, composite_iota, composite_h}
use Rattle.scalar_finish.specs.Splits.{IsSplit}
use Rattle.scalar_finish.specs.Finishes.{IsFinish}
use Rattle.cocycle_bases.specs.Classes.{homotopy_below}
use Rattle.sections.specs.Extensions.{IsLeadingSection, IsLeadingObstruction}
use Rattle.sheaf_words.specs.declared.query.Query.{Query}
use Rattle.sheaf_words.specs.declared.query.Query.TheVariants as queries
use Rattle.sheaf_data.specs.Sheaves.{SheafData}
use Rattle.sheaf_words.specs.declared.query.Command.{Command}
use Rattle.sheaf_words.specs.declared.reply.Reply.{Reply as Answer}
use Rattle.sheaf_words.specs.declared.reply.Reply.TheVariants as replies
use Rattle.sheaf_words.specs.declared.event.Event.{Event}
use Rattle.sheaf_words.specs.declared.event.Event.TheVariants.{Edit, Ask, Pair, Reply}
use Rattle.core_machine.specs.Replies.{Reduction}
use Rattle.core_machine.specs.Machine.{State, EditStep, AskStep, PairStep, ReplyStep, IsDone, IsWholeOrder}

-- what is left at the end, and the maps from the start complex to it
pub record Final : Type 0 where
  pub rest : BlockComplex
  pub pi : GradedMatrix
  pub iota : GradedMatrix
  pub h : GradedMatrix

-- the coordinates of the reduced complex become cells of size 1, and the first pair with a nonzero matrix is removed,
-- again and again; the maps are the composite of the removals before and of these
pub record IsFinal (K : Ops) (r : Reduction) (final : Final) : Type 0 where
  pub split : BlockComplex
  pub pairs : List (ℕ × ℕ)
  pub is_split : IsSplit r.rest split
  pub is_finish : IsFinish K split pairs final.rest
  pub pi1 : GradedMatrix
  pub iota1 : GradedMatrix
  pub h1 : GradedMatrix
  pub pi2 : GradedMatrix
  pub iota2 : GradedMatrix
  pub h2 : GradedMatrix
  pub first : IsCompositeOfPairs K r.start r.pairs pi1 iota1 h1
  pub second : IsCompositeOfPairs K split pairs pi2 iota2 h2
  pub pi_is : (k : ℕ) → final.pi k ≡ composite_pi K (complex_of r.start) pi1 pi2 k
  pub iota_is : (k : ℕ) → final.iota k ≡ composite_iota K (complex_of final.rest) iota1 iota2 k
  pub h_is : (k : ℕ) → final.h k ≡ composite_h K (complex_of r.start) pi1 iota1 h1 h2 k

-- the images of the unit vectors of degree k under iota
abbrev pub AreFinalVectors : Ops → Final → ℕ → List (List ℕ) → Type 0
AreFinalVectors K final k vectors = vectors ≡ unit_images K (complex_of final.rest) final.iota k

-- each choice in a reply is fixed: the maps are the composite of the removals; a basis is that of the final maps; a
-- cocycle z has the coordinates pi z and the primitive h z; and a section, or an obstruction, is the leading one of the
-- basis of degree 0
abbrev pub HasSoloChoices : Ops → Reduction → Query → Answer → Type 0
HasSoloChoices K r query (replies.Equiv reply maps) = IsCompositeOfPairs K r.start r.pairs
    (graded_matrix maps.pi) (graded_matrix maps.iota) (graded_matrix maps.h)
HasSoloChoices K r (queries.Basis k) (replies.Basis j vectors) =
    (final : Final) × IsFinal K r final × AreFinalVectors K final k vectors
HasSoloChoices K r (queries.Class k z) (replies.Class j coords vectors primitive) =
    (final : Final) × IsFinal K r final × AreFinalVectors K final k vectors
    × (coords ≡ image_of K (final.pi k) z) × (primitive ≡ homotopy_below K final.h k z)
HasSoloChoices K r queries.Sections (replies.Sections vectors) =
    (final : Final) × IsFinal K r final × AreFinalVectors K final 0 vectors
HasSoloChoices K r (queries.Extend s v) (replies.Section t z) =
    (final : Final) × (vectors : List (List ℕ)) × IsFinal K r final × AreFinalVectors K final 0 vectors
    × IsLeadingSection K (complex_of r.start) s v vectors z
HasSoloChoices K r (queries.Extend s v) (replies.NoSection t functional) =
    (final : Final) × (vectors : List (List ℕ)) × IsFinal K r final × AreFinalVectors K final 0 vectors
    × IsLeadingObstruction K (complex_of r.start) s v vectors functional
HasSoloChoices K r query reply = Unit {0}

-- a step of a solo order: a client comes to a command only once the clients before it are done; the pair that is
-- removed is the first that can be; and the choices in a reply are fixed
abbrev pub SoloStep : {F : Type 0} → Ops → List (List Command) → Event → State F → State F → Type 0
SoloStep K scripts (Edit c verdict) s t =
    EditStep K scripts c verdict s t × ((d : ℕ) → d < c → IsDone scripts s.lanes d)
SoloStep K scripts (Ask c) s t = AskStep scripts c s t × ((d : ℕ) → d < c → IsDone scripts s.lanes d)
SoloStep K scripts (Pair v x y) s t =
    (step : PairStep K v x y s t) × IsFirstInvertible K step.reduction.rest x y
SoloStep K scripts (Reply c reply) s t =
    (step : ReplyStep K scripts c reply s t) × HasSoloChoices K step.reduction step.query reply

-- the events are a legal order of all commands of these scripts on this sheaf, by such steps alone: so the clients are
-- served one after the other, and between a question on a version that was not asked before and its answer come the
-- pairs of that version
abbrev pub IsSoloOrder : {F : Type 0} → Ops → List (List Command) → SheafData F → List Event → Type 0
IsSoloOrder {F} K scripts sheaf events = IsWholeOrder (SoloStep {F = F} K scripts) scripts sheaf events
