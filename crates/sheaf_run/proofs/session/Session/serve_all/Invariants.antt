use Rattle.std.proofs.Common.{◌≡◌, ◌+◌, ◌≤◌, List, Some, slice_get}
use Rattle.field_table.specs.declared.field.Field.{Field}
use Rattle.sheaf_data.specs.Sheaves.{SheafData}
use Rattle.sheaf_words.specs.declared.query.Command.{Command}
use Rattle.sheaf_run.specs.Sessions.{IsProgress}
use Rattle.sheaf_run.proofs.session.Session.serve_all.Given as goal

abbrev pub invariant-loop-command : goal.invariant-loop-command
invariant-loop-command l =
    ((scripts : List (List Command)) (start : SheafData Field) → slice_get scripts l.fn.client ≡ Some l.script
    → IsProgress scripts start l.fn.client 0 l.fn.self → IsProgress scripts start l.fn.client l.command-index l.self)
    × (l.self.sheaf.complex ≡ l.fn.self.sheaf.complex) × (l.self.version ≤ l.fn.self.version + l.command-index)
