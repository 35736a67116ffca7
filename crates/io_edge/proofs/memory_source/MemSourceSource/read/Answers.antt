use Rattle.std.proofs.Common.{◌≡◌, ℕ, List, ◌++◌, Some, length, take, drop, sym, ap, ◌∙◌, take-append-drop, arith}
use Rattle.std.proofs.lemmas.Grind.{common_steps}
use Rattle.std.proofs.lemmas.List.{take_at, drop-drop}
use Rattle.io_edge.specs.Memory.{SourceState}
use Rattle.io_edge.proofs.memory_source.MemSourceSource.read.Goals as goal

-- the first n bytes that are left stand at the start of the buffer
gave_start : (left copied rest : List ℕ) (n : ℕ) → copied ≡ take n left → length copied ≡ n → take n (copied ++ rest)
    ++ drop n left ≡ left
gave_start left copied rest n same count = rw (take_at copied rest n count, same) (take-append-drop n left)

pub returns-clause-gave : goal.returns-clause-gave
returns-clause-gave c =
    let bytes = c.self.inside.bytes.items in
    let at = c.self.inside.at in
    let n = c.min-count.result in
    let left : drop at bytes ≡ c.args.self.now.left = ap (λ (source : SourceState). source.left) c.self.view_is in
    let copied : c.copy_from_slice.new.self ≡ take n (drop at bytes) =
    grind (arith, common_steps, c.copy_from_slice.ensures.after, c.deref-2.ensures.value) in
    let count : length c.copy_from_slice.new.self ≡ n = grind (arith, common_steps) in
    ap Some (sym left ∙ sym (rw (← drop-drop)
    (gave_start (drop at bytes) c.copy_from_slice.new.self (drop n c.args.buf.now) n copied count)))
