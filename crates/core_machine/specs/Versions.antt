-- What the versions of a legal state are.
use Rattle.std.specs.Prelude.{List, All}
use Rattle.dense_blocks.specs.Field.{Ops}
use Rattle.dense_blocks.specs.FieldLaws.{IsField}
use Rattle.sheaf_data.specs.Sheaves.{SheafData, IsSheaf}
use Rattle.sheaf_words.specs.declared.query.Command.{Command}
use Rattle.sheaf_words.specs.declared.event.Event.{Event}
use Rattle.core_machine.specs.Machine.{State}
use Rattle.core_machine.specs.Legal.{IsLegal}

-- in each state that is reached from a sheaf over a field, every version is a sheaf
abbrev pub LegalVersionsAreSheaves : Type 0 → Type 0
LegalVersionsAreSheaves F = (K : Ops) (scripts : List (List Command)) (sheaf : SheafData F) (events : List Event)
    (s : State F) → IsField K → IsSheaf K sheaf.complex sheaf.stalks sheaf.blocks
    → IsLegal K scripts sheaf events s → All (λ v. IsSheaf K v.complex v.stalks v.blocks) s.sheaves
