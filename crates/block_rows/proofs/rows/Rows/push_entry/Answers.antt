use Rattle.std.proofs.Common.{◌≡◌, ◌<◌, ℕ, ap, ◌∙◌, sym, subst, cond, eqb, ◌&&◌, Some, length, get_or, set, List}
use Rattle.std.proofs.Common.{Result, Ok, Err, OnErr}
use Rattle.std.proofs.lemmas.List.{set-get_or}
use Rattle.rising_lists.specs.Rising.{ByCell, entry_of, line_of}
use Rattle.rising_lists.proofs.LineLaws.{entry-set, line-found}
use Rattle.dense_blocks.specs.declared.block.Block.{Block}
use Rattle.block_rows.specs.BlockRows.{scalar_block}
use Rattle.block_rows.proofs.rows.Rows.push_entry.Goals as goal

pub push_entry-requires : goal.push_entry-requires
push_entry-requires c =
    let found = rw (c.unwrap-at.ensures, c.deref.ensures.value) at c.place.ensures in
    subst (λ (l : ByCell Block). (i : ℕ) → i < length l.cells → get_or l.cells i 0 < c.args.q)
    (ap (λ v. line_of v c.args.c) (sym c.self.view_is)
    ∙ line-found c.self.inside.cells.items c.self.inside.rows.items c.args.c c.unwrap-at.result
    c.index_mut-row.result.now c.self.invariant found.0 found.1 c.index_mut-row.ensures.value)
    c.requires.behind

pub returns-clause-entries : goal.returns-clause-entries
returns-clause-entries c = λ k p.
    let found = rw (c.unwrap-at.ensures, c.deref.ensures.value) at c.place.ensures in
    entry-set c.self.inside.cells.items c.self.inside.rows.items c.args.c c.unwrap-at.result c.args.q
    c.index_mut-row.result.now c.push_entry.new.self (Some (scalar_block c.args.value)) c.self.invariant found.0
    found.1 c.index_mut-row.ensures.value c.in_ok-push_entry.ensures.entries k p
    ∙ ap (λ w. cond (eqb k c.args.c && eqb p c.args.q) (Some (scalar_block c.args.value)) (entry_of w k p))
    c.self.view_is

on_err : {T E P : Type 0} (r : Result T E) → P → OnErr r P
on_err (Ok x) p = tt
on_err (Err e) p = p

pub returns-in_err-push_entry-clause-err : goal.returns-in_err-push_entry-clause-err
returns-in_err-push_entry-clause-err c =
    let rows = c.self.inside.rows.items in
    let at = c.unwrap-at.result in
    let row = c.index_mut-row.result.now in
    let same : set rows at c.push_entry.new.self ≡ rows =
    ap (set rows at) (c.in_err-push_entry.ensures.err ∙ c.index_mut-row.ensures.value) ∙ set-get_or rows at row in
    on_err c.from_residual.result
    (ap (λ (values : List (ByCell Block)). record { cells = c.self.inside.cells.items; values = values }) same
    ∙ c.self.view_is)
