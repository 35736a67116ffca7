-- Legal events.
use Rattle.std.specs.Prelude.{List, [], ◌∷◌, None}
use Rattle.dense_blocks.specs.Field.{Ops}
use Rattle.sheaf_data.specs.Sheaves.{SheafData}
use Rattle.sheaf_words.specs.declared.query.Command.{Command}
use Rattle.sheaf_words.specs.declared.event.Event.{Event}
use Rattle.core_machine.specs.Machine.{State, free_lane, Step, Leads}

-- one version, nothing done, nothing pending, nothing asked
abbrev pub first_state : {F : Type 0} → SheafData F → State F
first_state sheaf = record { sheaves = sheaf ∷ []; lanes = λ c. free_lane 0; pairs = λ v. None }

-- legal: the events lead from the first state to this one
abbrev pub IsLegal : {F : Type 0} → Ops → List (List Command) → SheafData F → List Event → State F → Type 0
IsLegal {F} K scripts sheaf events t = Leads (Step {F = F} K scripts) events (first_state sheaf) t
