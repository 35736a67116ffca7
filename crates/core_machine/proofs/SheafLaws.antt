-- In each legal state every version is a sheaf over the complex of the first one.
use Rattle.std.proofs.Common.{◌≡◌, ℕ, List, [], ◌∷◌, Some, All, slice_get, sym, subst}
use Rattle.std.proofs.lemmas.List.Elements.{All-nil, All-cons, All-push, All-get_or}
use Rattle.std.proofs.lemmas.Option.{slice_get_within, get_or_from_slice_get}
use Rattle.cell_complex.specs.Invariants.{IsComplex}
use Rattle.dense_blocks.specs.Field.{Ops}
use Rattle.dense_blocks.specs.FieldLaws.{IsField}
use Rattle.sheaf_data.specs.Sheaves.{SheafData, IsSheaf}
use Rattle.sheaf_words.specs.declared.query.Command.{Command}
use Rattle.sheaf_words.specs.declared.edit.Edit.{Edit as Change}
use Rattle.sheaf_words.specs.declared.edit.Verdict.{Verdict}
use Rattle.sheaf_words.specs.declared.edit.Verdict.TheVariants.{Accepted, Refused}
use Rattle.sheaf_words.specs.declared.event.Event.{Event}
use Rattle.sheaf_words.specs.declared.event.Event.TheVariants.{Edit, Ask, Pair, Reply}
use Rattle.edit_versions.specs.Verdicts.{IsVerdict, IsEdited}
use Rattle.edit_versions.proofs.Edited.{edited_sheaf}
use Rattle.core_machine.specs.Machine.{State, AreVersionsAfter, EditStep, Step, Leads}
use Rattle.core_machine.specs.Legal.{first_state, IsLegal}

-- the data are a sheaf
abbrev pub IsSheafOver : {F : Type 0} → Ops → SheafData F → Type 0
IsSheafOver K v = IsSheaf K v.complex v.stalks v.blocks

-- they are one over a complex
pub record IsVersion {F : Type 0} (K : Ops) (v : SheafData F) : Type 0 where
  pub complex : IsComplex v.complex
  pub sheaf : IsSheafOver K v

-- what holds of all versions holds of this one
pub version-at : {F : Type 0} (P : SheafData F → Type 0) (sheaves : List (SheafData F)) (v : ℕ) (sheaf : SheafData F)
    → slice_get sheaves v ≡ Some sheaf → All P sheaves → P sheaf
version-at P sheaves v sheaf at h =
    subst P (get_or_from_slice_get sheaves v sheaf sheaf at)
    (All-get_or P sheaves v sheaf (slice_get_within sheaves v sheaf at) h)

-- an accepted edit keeps it
abbrev pub EditsKeep : {F : Type 0} → Ops → (SheafData F → Type 0) → Type 0
EditsKeep {F} K P = (old new : SheafData F) (edit : Change) → IsVerdict K old edit Accepted → IsEdited K old edit new
    → P old → P new

all-edit : {F : Type 0} (P : SheafData F → Type 0) (K : Ops) (scripts : List (List Command)) (c : ℕ) (verdict : Verdict)
    (s t : State F) → EditsKeep K P → EditStep K scripts c verdict s t → All P s.sheaves → All P t.sheaves
all-edit {F} P K scripts c verdict s t keeps step h = by verdict step.judged step.versions
  where
    by : (w : Verdict) → IsVerdict K step.sheaf step.edit w
        → AreVersionsAfter K step.sheaf step.edit w s.sheaves t.sheaves → All P t.sheaves
    by Accepted judged made =
        let current : P step.sheaf = version-at P s.sheaves step.version step.sheaf step.current_sheaf h in
        subst (All P) (sym made.2)
        (All-push P s.sheaves made.0 h (keeps step.sheaf made.0 step.edit judged made.1 current))
    by (Refused cause) judged same = subst (All P) (sym same) h

pub all-step : {F : Type 0} (P : SheafData F → Type 0) (K : Ops) (scripts : List (List Command)) (event : Event)
    (s t : State F) → EditsKeep K P → Step K scripts event s t → All P s.sheaves → All P t.sheaves
all-step P K scripts (Edit c verdict) s t keeps step h = all-edit P K scripts c verdict s t keeps step h
all-step P K scripts (Ask c) s t keeps step h = subst (All P) (sym step.versions) h
all-step P K scripts (Pair v x y) s t keeps step h = subst (All P) (sym step.versions) h
all-step P K scripts (Reply c r) s t keeps step h = subst (All P) (sym step.versions) h

pub all-from : {F : Type 0} (P : SheafData F → Type 0) (K : Ops) (scripts : List (List Command)) (events : List Event)
    (s t : State F) → EditsKeep K P → Leads (Step {F = F} K scripts) events s t → All P s.sheaves → All P t.sheaves
all-from P K scripts [] s t keeps leads h = subst (λ m. All P m.sheaves) leads h
all-from P K scripts (event ∷ events) s t keeps leads h =
    all-from P K scripts events leads.0 t keeps leads.2 (all-step P K scripts event s leads.0 keeps leads.1 h)

edits-keep-sheaf : {F : Type 0} (K : Ops) → IsField K → EditsKeep {F = F} K (IsSheafOver K)
edits-keep-sheaf K field old new edit judged edited is = edited_sheaf K old new edit field is judged edited

pub edits-keep-version : {F : Type 0} (K : Ops) → IsField K → EditsKeep {F = F} K (IsVersion K)
edits-keep-version K field old new edit judged edited is = record {
  complex = subst IsComplex (sym edited.complex) is.complex;
  sheaf = edits-keep-sheaf K field old new edit judged edited is.sheaf;
}

pub versions_are_sheaves : {F : Type 0} (K : Ops) (scripts : List (List Command)) (sheaf : SheafData F)
    (events : List Event) (s : State F) → IsField K → IsSheafOver K sheaf → IsLegal K scripts sheaf events s
    → All (IsSheafOver K) s.sheaves
versions_are_sheaves K scripts sheaf events s field is_sheaf legal =
    all-from (IsSheafOver K) K scripts events (first_state sheaf) s (edits-keep-sheaf K field) legal
    (All-cons (IsSheafOver K) sheaf [] is_sheaf (All-nil (IsSheafOver K)))
