-- A reply that is right for the start complex is right for the sheaf.
use Rattle.std.specs.Prelude.{ℕ}
use Rattle.dense_blocks.specs.Field.{Ops}
use Rattle.dense_blocks.specs.FieldLaws.{IsField}
use Rattle.cell_complex.specs.Invariants.{IsComplex}
use Rattle.block_complexes.specs.Cochains.{complex_of}
use Rattle.sheaf_data.specs.Sheaves.{IsSheaf}
use Rattle.sheaf_words.specs.declared.query.Query.{Query}
use Rattle.sheaf_words.specs.declared.reply.Reply.{Reply}
use Rattle.core_machine.specs.Replies.{Reduction, IsRightReply}
use Rattle.core_machine.specs.Machine.{State, IsReductionOf}

-- the reply is right where the start complex of the version stands for its whole complex
abbrev pub IsRightForStart : Ops → Reduction → Query → Reply → Type 0
IsRightForStart K r query reply = IsRightReply K (record r { whole = complex_of r.start }) query reply

-- what is right for the start complex of a version that is a sheaf is right for the version
abbrev pub RightForStartIsRight : Type 0 → Type 0
RightForStartIsRight F = (K : Ops) (s : State F) (v : ℕ) (r : Reduction) (query : Query) (reply : Reply) → IsField K
    → (reduction : IsReductionOf K s v r) → IsComplex reduction.sheaf.complex
    → IsSheaf K reduction.sheaf.complex reduction.sheaf.stalks reduction.sheaf.blocks
    → IsRightForStart K r query reply → IsRightReply K r query reply
