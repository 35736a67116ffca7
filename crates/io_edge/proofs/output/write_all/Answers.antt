use Rattle.std.proofs.Common.{◌≡◌, ◌-◌, ◌+◌, ℕ, List, length, arith, rules, take, drop, sym, ◌∙◌, take-add}
use Rattle.std.proofs.Common.{take-append-drop}
use Rattle.std.specs.Prelude.{Option}
use Rattle.std.proofs.lemmas.Grind.{common_steps}
use Rattle.io_edge.specs.Bytes.{Took}
use Rattle.io_edge.proofs.Known.{took_then}
use Rattle.io_edge.proofs.output.write_all.Goals as goal

-- the first i bytes were taken, and then n of those that are left
took_more : (old between new : Option (List ℕ)) (bytes : List ℕ) (i n : ℕ) → Took old between (take i bytes)
    → Took between new (take n (take (length bytes - i) (drop i bytes))) → Took old new (take (i + n) bytes)
took_more old between new bytes i n first second =
    let rest : take (length bytes - i) (drop i bytes) ≡ drop i bytes = grind (arith, common_steps) in
    rw (take-add i n bytes) (took_then old between new (take i bytes) (take n (drop i bytes)) first (rw rest at second))

pub loop-done-preserved : goal.loop-done-preserved
loop-done-preserved g c = record {
  within = grind (arith, common_steps);
  took = took_more _ _ _ c.args.bytes.now c.loop-done.done c.in-Ok.count c.loop-done.invariant.took
      c.in-Ok.ensures.took;
  flushed = search rules;
  later = omega arith;
  uncalled = λ none. absurd (omega (arith, c.in-Ok.ensures.bound));
}

pub returns-in-Err-clause-err : goal.returns-in-Err-clause-err
returns-in-Err-clause-err g c =
    let done = c.loop-done.done in
    let bytes = c.args.bytes.now in
    record {
      prefix = take done bytes;
      rest = drop done bytes;
      split = sym (take-append-drop done bytes);
      took =
          c.in-Err.ensures.failed ∙ c.loop-done.invariant.took;
    }
