use Rattle.std.proofs.Common.{◌+◌, ◌∷◌, ◌++◌, [], min, refl, sym, ap, ap₂, ◌∙◌, subst, arith}
use Rattle.std.specs.Prelude.{sum, sum_by}
use Rattle.sheaf_words.specs.declared.query.Command.TheVariants.{Change}
use Rattle.sheaf_text.specs.Rooms.{large_replies, new_coordinates}
use Rattle.sheaf_text.specs.Needs.{AreNeeds}
use Rattle.sheaf_text.specs.State.{scripts_at}
use Rattle.sheaf_text.proofs.RoomLaws.{needs-same, client-needs, edit-needs, other-scripts}
use Rattle.sheaf_text.proofs.room.state_needs.Goals as goal

pub returns-in-InClient : goal.returns-in-InClient
returns-in-InClient c =
    let s = c.args.state.now in
    let stalks = sum s.parts.stalks.items in
    let start : AreNeeds 0 stalks (record { replies = 0; coordinates = c.min.result }) = record {
      replies_are = refl;
      coordinates_are = c.min.ensures ∙ ap (λ n. min n 4096) c.requires.total;
    } in
    subst (λ scripts. AreNeeds (sum_by (sum_by large_replies) scripts)
    (stalks + sum_by (sum_by new_coordinates) scripts) c.after_script.result)
    (ap₂ (λ ended commands. ended ++ commands ∷ []) c.deref.ensures.value c.deref-in-InClient.ensures.value
    ∙ ap (λ stage. scripts_at stage s.scripts) (sym c.in-InClient.is))
    (client-needs stalks c.deref.result.now c.deref-in-InClient.result.now c.after_script.result
    (c.after_script.ensures _ _ (c.after_scripts-ended.ensures 0 stalks start)))

pub returns-in-InEdit : goal.returns-in-InEdit
returns-in-InEdit c =
    let s = c.args.state.now in
    let stalks = sum s.parts.stalks.items in
    let start : AreNeeds 0 stalks (record { replies = 0; coordinates = c.min.result }) = record {
      replies_are = refl;
      coordinates_are = c.min.ensures ∙ ap (λ n. min n 4096) c.requires.total;
    } in
    let script = ap₂ (λ commands sets. commands ++ Change (record { sets = sets }) ∷ []) c.deref-in-InEdit.ensures.value
    c.deref-in-InEdit-2.ensures.value in
    subst (λ scripts. AreNeeds (sum_by (sum_by large_replies) scripts)
    (stalks + sum_by (sum_by new_coordinates) scripts) c.after_sets.result)
    (ap₂ (λ ended commands. ended ++ commands ∷ []) c.deref.ensures.value script
    ∙ ap (λ stage. scripts_at stage s.scripts) (sym c.in-InEdit.is))
    (edit-needs stalks c.deref.result.now c.deref-in-InEdit.result.now
    (record { sets = c.deref-in-InEdit-2.result.now }) c.after_sets.result
    (c.after_sets.ensures _ _ (c.after_script-in-InEdit.ensures _ _ (c.after_scripts-ended.ensures 0 stalks start))))

pub returns-in_default : goal.returns-in_default
returns-in_default c =
    let s = c.args.state.now in
    let stalks = sum s.parts.stalks.items in
    let start : AreNeeds 0 stalks (record { replies = 0; coordinates = c.min.result }) = record {
      replies_are = refl;
      coordinates_are = c.min.ensures ∙ ap (λ n. min n 4096) c.requires.total;
    } in
    subst (λ scripts. AreNeeds (sum_by (sum_by large_replies) scripts)
    (stalks + sum_by (sum_by new_coordinates) scripts) c.after_scripts-ended.result)
    (c.deref.ensures.value ∙ other-scripts s.stage s.scripts c.in_default.not-InClient c.in_default.not-InEdit)
    (needs-same _ _ _ _ c.after_scripts-ended.result (omega arith) refl (c.after_scripts-ended.ensures 0 stalks start))
