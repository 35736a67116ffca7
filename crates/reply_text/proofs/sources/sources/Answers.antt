use Rattle.std.proofs.Common.{ℕ, List, Bool, ap, ◌∙◌, true, not, filter, get_or}
use Rattle.std.specs.List.{flat_map}
use Rattle.reply_text.specs.declared.coordinates.Coordinates.{Coordinates}
use Rattle.reply_text.specs.JoinedMatrices.{block_line}
use Rattle.reply_text.specs.Parts.{joined_value, matrix_place}
use Rattle.reply_text.proofs.ZeroLaws.{sources-lines}
use Rattle.reply_text.proofs.sources.sources.Goals as goal

pub returns : goal.returns
returns c = λ word to.
    let m = joined_value c.args.m in
    let lines : Coordinates → List (List (List ℕ)) = λ s. flat_map (λ t. block_line word m s t) to in
    let kept : List Bool → List Coordinates = λ zeros.
    filter (λ (s : Coordinates). not (get_or zeros (matrix_place m.direction s.degree) true)) c.args.from.now in
    ap (flat_map lines)
    (c.in_ok-list.ensures ∙ ap kept (c.as_slice.ensures.value ∙ c.in_ok-zeros.ensures))
    ∙ sources-lines word m to c.args.from.now
