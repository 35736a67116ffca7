-- What is known of a line that is not refused.
use Rattle.std.proofs.Common.{◌≡◌, ℕ, Bool, true, false, cond, not, List, drop, length, refl, ap, ◌∙◌, Option, Some}
use Rattle.std.proofs.Common.{None, Contains, nat_eq, nat_lt, ◌≤◌}
use Rattle.std.specs.Prelude.{◌==◌, nat_le, slice_index}
use Rattle.std.specs.List.{list_any}
use Rattle.std.proofs.lemmas.Bool.{eqb-true, ltb-false, leb-false}
use Rattle.std.proofs.lemmas.Map.Views.{Contains-from_any}
use Rattle.cell_complex.specs.declared.fault.FaceFault.{FaceFault}
use Rattle.cell_complex.specs.Verdicts.{face_fault}
use Rattle.field_table.specs.Table.{orders}
use Rattle.sheaf_text.specs.Lines.{value, may_stand, count_fits, word, face_in}
use Rattle.sheaf_text.specs.Grammar.{Known, face_refusal, entries_refusal, degree_refusal, vertex_refusal}
use Rattle.sheaf_text.specs.Grammar.{kind_refusal, placed_refusal}
use Rattle.sheaf_text.specs.Forms.{are_below, are_numerals, is_sign, is_full, field_refusal, incidence_refusal}
use Rattle.sheaf_text.specs.Forms.{is_query_kind, is_set_kind, command_refusal, HasDegree}
use Rattle.sheaf_text.specs.Answers.{IsVertex}
use Rattle.sheaf_text.specs.Parts.{TakesFace}
use Rattle.sheaf_text.specs.State.{known_by, IsAccepted}
use Rattle.sheaf_text.specs.declared.fault.Refusal.{Refusal}
use Rattle.sheaf_text.specs.declared.state.State.{State}
use Rattle.sheaf_text.specs.declared.line.Kind.{Kind}
use Rattle.sheaf_text.specs.declared.line.Kind.TheVariants as kinds
use Rattle.sheaf_text.specs.declared.line.Stage.{Stage}
use Rattle.sheaf_text.specs.declared.line.Stage.TheVariants as stages

-- one test of a chain that gives no refusal
pub passes : (b : Bool) (r : Refusal) (rest : Option Refusal) → cond b (Some r) rest ≡ None → (b ≡ false)
    × (rest ≡ None)
passes true r rest e = absurd cc
passes false r rest e = (refl, e)

holds : (b : Bool) → not b ≡ false → b ≡ true
holds true e = refl
holds false e = absurd cc

not_true : (b : Bool) → (b ≡ true → ⊥) → b ≡ false
not_true true h = absurd (h refl)
not_true false h = refl

pub no_order : (q : ℕ) → (Contains orders q → ⊥) → list_any (nat_eq q) orders ≡ false
no_order q h = not_true (list_any (nat_eq q) orders) (λ e. h (Contains-from_any eqb-true q orders e))

in_table : (b : Bool) (r : Refusal) → cond b None (Some r) ≡ None → b ≡ true
in_table true r e = refl
in_table false r e = absurd cc

field_fits : (ws : List (List ℕ)) → field_refusal ws ≡ None → Contains orders (value ws 1)
field_fits ws e = Contains-from_any eqb-true (value ws 1) orders (in_table _ _ e)

pub record IsRight (k : Known) (kind : Kind) (ws : List (List ℕ)) : Type 0 where
  pub stands : may_stand k.stage kind ≡ true
  pub counted : count_fits kind (length ws) ≡ true
  pub numerals : are_numerals kind ws ≡ true
  pub fits : kind_refusal k kind ws ≡ None

pub right : (k : Known) (kind : Kind) (ws : List (List ℕ)) → placed_refusal k kind ws ≡ None → IsRight k kind ws
right k kind ws e =
    let a = passes (not (may_stand k.stage kind)) _ _ e in
    let b = passes (not (count_fits kind (length ws))) _ _ a.1 in
    let c = passes (not (are_numerals kind ws)) _ _ b.1 in
    record { stands = holds _ a.0; counted = holds _ b.0; numerals = holds _ c.0; fits = c.1 }

record FaceFits (k : Known) (ws : List (List ℕ)) : Type 0 where
  pub no_fault : face_fault (record { dims = k.input.dims; faces = k.input.faces }) (face_in ws) ≡ None
  pub full : is_full k.input.stalks (face_in ws) (length (drop 4 ws)) ≡ true
  pub below : are_below k.input.order (drop 4 ws) ≡ true

no_fault : (k : Known) (ws : List (List ℕ)) (f : Option FaceFault) → incidence_refusal k ws f ≡ None → (f ≡ None)
    × (entries_refusal k ws ≡ None)
no_fault k ws (Some f) e = absurd cc
no_fault k ws None e = (refl, e)

face_fits : (k : Known) (ws : List (List ℕ)) → face_refusal k ws ≡ None → FaceFits k ws
face_fits k ws e =
    let a = passes (not (is_sign (word ws 3))) _ _ e in
    let b = no_fault k ws (face_fault (record { dims = k.input.dims; faces = k.input.faces }) (face_in ws)) a.1 in
    let c = passes (not (is_full k.input.stalks (face_in ws) (length (drop 4 ws)))) _ _ b.1 in
    let d = passes (not (are_below k.input.order (drop 4 ws))) _ _ c.1 in
    record { no_fault = b.0; full = holds _ c.0; below = holds _ d.0 }

-- a question on one degree is refused for the degree, or as any command
pub degree_fits : (k : Known) (ws : List (List ℕ)) → degree_refusal k ws ≡ None → (value ws 1 ≤ 15)
    × (command_refusal k ≡ None)
degree_fits k ws e = let a = passes (nat_lt 15 (value ws 1)) _ _ e in (ltb-false _ _ a.0, a.1)

-- a question on the value at a vertex is refused for the cell, or as any command
pub vertex_fits : (k : Known) (ws : List (List ℕ)) → vertex_refusal k ws ≡ None → IsVertex k.input.dims (value ws 1)
    × (command_refusal k ≡ None)
vertex_fits k ws e =
    let a = passes (nat_le (length k.input.dims) (value ws 1)) _ _ e in
    let b = passes (not (slice_index k.input.dims (value ws 1) == 0)) _ _ a.1 in
    (record { is_cell = leb-false _ _ a.0; dimension = eqb-true _ _ (holds _ b.0) }, b.1)

-- ---- where a line stands

query_stands : (kind : Kind) (s : Stage) → is_query_kind kind ≡ true → may_stand s kind ≡ true → s ≡ stages.InClient
query_stands kinds.Betti stages.InClient e h = refl
query_stands kinds.Betti s e h = absurd cc
query_stands kinds.Reduce stages.InClient e h = refl
query_stands kinds.Reduce s e h = absurd cc
query_stands kinds.Equiv stages.InClient e h = refl
query_stands kinds.Equiv s e h = absurd cc
query_stands kinds.Basis stages.InClient e h = refl
query_stands kinds.Basis s e h = absurd cc
query_stands kinds.Class stages.InClient e h = refl
query_stands kinds.Class s e h = absurd cc
query_stands kinds.Sections stages.InClient e h = refl
query_stands kinds.Sections s e h = absurd cc
query_stands kinds.Extend stages.InClient e h = refl
query_stands kinds.Extend s e h = absurd cc
query_stands kind s e h = absurd cc

edit_stands : (s : Stage) → may_stand s kinds.Edit ≡ true → s ≡ stages.InClient
edit_stands stages.InClient e = refl
edit_stands s e = absurd cc

set_stands : (kind : Kind) (s : Stage) → is_set_kind kind ≡ true → may_stand s kind ≡ true → s ≡ stages.InEdit
set_stands kinds.Stalk stages.InEdit e h = refl
set_stands kinds.Stalk s e h = absurd cc
set_stands kinds.Restrict stages.InEdit e h = refl
set_stands kinds.Restrict s e h = absurd cc
set_stands kind s e h = absurd cc

-- ---- lines that were not refused

pub field_accepted : (s : State) (ws : List (List ℕ)) → IsAccepted s kinds.Field ws → Contains orders (value ws 1)
field_accepted s ws a = field_fits ws (right (known_by s) kinds.Field ws a.accepted).fits

pub face_accepted : (s : State) (ws : List (List ℕ)) → IsAccepted s kinds.Face ws → TakesFace s.parts ws
face_accepted s ws a =
    let fits = face_fits (known_by s) ws (right (known_by s) kinds.Face ws a.accepted).fits in
    record {
      no_fault = ap (λ (ds : List ℕ). face_fault (record { dims = ds; faces = s.parts.complex.faces }) (face_in ws))
          a.ready ∙ fits.no_fault;
      full = fits.full;
      below = fits.below;
    }

pub query_accepted : (s : State) (kind : Kind) (ws : List (List ℕ)) → is_query_kind kind ≡ true
    → IsAccepted s kind ws → s.stage ≡ stages.InClient
query_accepted s kind ws e a = query_stands kind s.stage e (right (known_by s) kind ws a.accepted).stands

has_degree : (k : Known) (kind : Kind) (ws : List (List ℕ)) → kind_refusal k kind ws ≡ None → HasDegree kind ws
has_degree k kinds.Basis ws e = (degree_fits k ws e).0
has_degree k kinds.Class ws e = (degree_fits k ws e).0
has_degree k kind ws e = tt

pub degree_accepted : (s : State) (kind : Kind) (ws : List (List ℕ)) → IsAccepted s kind ws → HasDegree kind ws
degree_accepted s kind ws a = has_degree (known_by s) kind ws (right (known_by s) kind ws a.accepted).fits

pub edit_accepted : (s : State) (ws : List (List ℕ)) → IsAccepted s kinds.Edit ws → s.stage ≡ stages.InClient
edit_accepted s ws a = edit_stands s.stage (right (known_by s) kinds.Edit ws a.accepted).stands

pub set_accepted : (s : State) (kind : Kind) (ws : List (List ℕ)) → is_set_kind kind ≡ true → IsAccepted s kind ws
    → s.stage ≡ stages.InEdit
set_accepted s kind ws e a = set_stands kind s.stage e (right (known_by s) kind ws a.accepted).stands
