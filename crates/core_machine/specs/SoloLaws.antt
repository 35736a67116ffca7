-- Solo orders are legal, and an input has one at most.
use Rattle.std.specs.Prelude.{◌≡◌, List}
use Rattle.dense_blocks.specs.Field.{Ops}
use Rattle.dense_blocks.specs.FieldLaws.{IsField}
use Rattle.cell_complex.specs.Invariants.{IsComplex}
use Rattle.sheaf_data.specs.Sheaves.{SheafData, IsSheaf}
use Rattle.sheaf_words.specs.declared.query.Command.{Command}
use Rattle.sheaf_words.specs.declared.event.Event.{Event}
use Rattle.core_machine.specs.Machine.{IsLegalAndWhole}
use Rattle.core_machine.specs.Solo.{IsSoloOrder}

-- a solo order is legal and whole
abbrev pub SoloOrdersAreLegal : Type 0 → Type 0
SoloOrdersAreLegal F = (K : Ops) (scripts : List (List Command)) (sheaf : SheafData F) (events : List Event)
    → IsSoloOrder K scripts sheaf events → IsLegalAndWhole K scripts sheaf events

-- two solo orders of the same commands on the same sheaf are equal
abbrev pub SoloOrdersAreEqual : Type 0 → Type 0
SoloOrdersAreEqual F = (K : Ops) (scripts : List (List Command)) (sheaf : SheafData F) (first second : List Event)
    → IsField K → IsComplex sheaf.complex → IsSheaf K sheaf.complex sheaf.stalks sheaf.blocks
    → IsSoloOrder K scripts sheaf first → IsSoloOrder K scripts sheaf second → first ≡ second
