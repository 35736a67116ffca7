use Rattle.std.proofs.Common.{◌≡◌, ◌++◌, sym, subst}
use Rattle.std.specs.Result.{OnOk}
use Rattle.block_grids.proofs.JoinLaws.{joined-scalars}
use Rattle.block_grids.proofs.grids.push_row.Goals as goal

pub returns-in-Some : goal.returns-in-Some
returns-in-Some c =
    subst (λ row. OnOk c.push_entries.result (c.push_entries.new.entries ≡ c.args.entries.now ++ row))
    (sym (joined-scalars c.args.line.now c.in-Some.row.now c.in-Some.ensures c.args.left.now c.args.k c.requires.row))
    c.push_entries.ensures
