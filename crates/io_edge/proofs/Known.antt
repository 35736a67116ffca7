-- Bytes that are given and taken in several calls.
use Rattle.std.proofs.Common.{◌≡◌, ℕ, ◌≤◌, List, ◌++◌, length, Option, Some, None, refl, sym}
use Rattle.std.proofs.Common.{ap, ◌∙◌, append_assoc, arith}
use Rattle.std.specs.Prelude.{IfSome}
use Rattle.std.proofs.lemmas.List.{append-nil, length-append}
use Rattle.std.specs.Io.KnownBytes.{prepend_known, append_known, IsAtEnd}
use Rattle.io_edge.specs.Bytes.{Took, TookPrefix}
use Rattle.io_edge.specs.Input.{Gave}

pub append_known-then : (known : Option (List ℕ)) (xs ys : List ℕ) → append_known (append_known known xs) ys
    ≡ append_known known (xs ++ ys)
append_known-then None xs ys = refl
append_known-then (Some known) xs ys = ap Some (append_assoc known xs ys)

pub prepend_known-then : (known : Option (List ℕ)) (xs ys : List ℕ) → prepend_known xs (prepend_known ys known)
    ≡ prepend_known (xs ++ ys) known
prepend_known-then None xs ys = refl
prepend_known-then (Some known) xs ys = ap Some (sym (append_assoc xs ys known))

-- xs were taken, and then ys
pub took_then : (old between new : Option (List ℕ)) (xs ys : List ℕ) → Took old between xs → Took between new ys
    → Took old new (xs ++ ys)
took_then old between new xs ys first second = second ∙ ap (λ (known : Option (List ℕ)). append_known known ys) first
    ∙ append_known-then old xs ys

-- a prefix of xs is one of xs ++ ys
pub took_prefix_longer : (old new : Option (List ℕ)) (xs ys : List ℕ) → TookPrefix old new xs
    → TookPrefix old new (xs ++ ys)
took_prefix_longer old new xs ys first = record {
  prefix = first.prefix;
  rest = first.rest ++ ys;
  split = ap (λ zs. zs ++ ys) first.split ∙ append_assoc first.prefix first.rest ys;
  took = first.took;
}

-- xs were taken, and then a prefix of ys
pub took_prefix_then : (old between new : Option (List ℕ)) (xs ys : List ℕ) → Took old between xs
    → TookPrefix between new ys → TookPrefix old new (xs ++ ys)
took_prefix_then old between new xs ys first second = record {
  prefix = xs ++ second.prefix;
  rest = second.rest;
  split = ap (λ zs. xs ++ zs) second.split ∙ sym (append_assoc xs second.prefix second.rest);
  took = took_then old between new xs second.prefix first second.took;
}

-- for `using` at a function with several writes by `?`: a prefix of what they write is what the sink took
pub ruleset taken_pieces = (took_then, took_prefix_then, took_prefix_longer)

-- xs were given, and then ys
pub gave_then : (old between new : Option (List ℕ)) (xs ys : List ℕ) → Gave old between xs → Gave between new ys
    → Gave old new (xs ++ ys)
gave_then old between new xs ys first second = first ∙ ap (prepend_known xs) second ∙ prepend_known-then new xs ys

-- bytes that were given to the end are all that was left
pub gave_whole : (old new : Option (List ℕ)) (bytes : List ℕ) → Gave old new bytes → IsAtEnd new
    → IfSome old (λ left. left ≡ bytes)
gave_whole None new bytes gave end = tt
gave_whole (Some left) None bytes gave end = absurd cc
gave_whole (Some left) (Some rest) bytes gave end =
    let whole : left ≡ bytes ++ rest = cc in
    whole ∙ ap (λ zs. bytes ++ zs) end ∙ append-nil bytes

-- at least the bytes that were given were left
pub gave_at_least : (old new : Option (List ℕ)) (bytes : List ℕ) → Gave old new bytes
    → IfSome old (λ left. length bytes ≤ length left)
gave_at_least None new bytes gave = tt
gave_at_least (Some left) None bytes gave = absurd cc
gave_at_least (Some left) (Some rest) bytes gave =
    let whole : left ≡ bytes ++ rest = cc in
    omega (arith, ap length whole, length-append bytes rest)
