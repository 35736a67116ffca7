-- Betti numbers in a legal order.
use Rattle.std.specs.Prelude.{◌≡◌, ℕ, List, Some, slice_get, take}
use Rattle.dense_blocks.specs.Field.{Ops}
use Rattle.dense_blocks.specs.FieldLaws.{IsField}
use Rattle.cell_complex.specs.Invariants.{IsComplex}
use Rattle.sheaf_data.specs.Sheaves.{SheafData, IsSheaf}
use Rattle.sheaf_words.specs.declared.query.Command.{Command}
use Rattle.sheaf_words.specs.declared.reply.Reply.TheVariants as replies
use Rattle.sheaf_words.specs.declared.event.Event.{Event}
use Rattle.sheaf_words.specs.declared.event.Event.TheVariants.{Reply}
use Rattle.reply_text.specs.Parts.{asked_version}
use Rattle.core_machine.specs.Machine.{State}
use Rattle.core_machine.specs.Legal.{IsLegal}

-- two replies with Betti numbers on one version, in whatever legal order, have the same numbers
abbrev pub BettiRepliesAgree : Type 0 → Type 0
BettiRepliesAgree F = (K : Ops) (scripts : List (List Command)) (sheaf : SheafData F) (events : List Event)
    (s : State F) → IsField K → IsComplex sheaf.complex → IsSheaf K sheaf.complex sheaf.stalks sheaf.blocks
    → IsLegal K scripts sheaf events s
    → (i j c d : ℕ) (m n : List ℕ) → slice_get events i ≡ Some (Reply c (replies.Betti m))
    → slice_get events j ≡ Some (Reply d (replies.Betti n))
    → asked_version c (take i events) ≡ asked_version d (take j events) → m ≡ n
