-- An input has few clients, few commands and few changes.
use Rattle.std.proofs.Common.{◌≡◌, ℕ, suc, ◌+◌, ◌≤◌, ◌<◌, Bool, true, false, nat_eq, List, [], ◌∷◌, ◌++◌, length, map, drop, All}
use Rattle.std.proofs.Common.{Result, Ok, Err, Option, Some, None, refl, sym, ap, subst, ◌∙◌, arith}
use Rattle.std.specs.Prelude.{sum_by, IfOk, ◌==◌, nat_le, if◌then◌else◌}
use Rattle.std.proofs.Math.ListN.{get_or-append}
use Rattle.std.specs.List.{slice_split}
use Rattle.std.specs.Str.Lines.{lines, lines_of_parts}
use Rattle.std.proofs.lemmas.Bool.{leb-false}
use Rattle.std.proofs.lemmas.List.{length-map, length-append}
use Rattle.std.proofs.lemmas.List.Elements.{All-nil, All-cons, All-head, All-tail, All-push, All-weaker}
use Rattle.std.proofs.lemmas.List.Sums.{sum_by-append, sum_by-cons, count_by-le-length}
use Rattle.std.proofs.lemmas.List.Splits.{length-slice_split}
use Rattle.sheaf_words.specs.declared.query.Command.{Command}
use Rattle.sheaf_words.specs.declared.query.Command.TheVariants.{Change, Ask}
use Rattle.sheaf_words.specs.declared.query.Query.{Query}
use Rattle.sheaf_words.specs.declared.query.Query.TheVariants.{Betti, Reduce, Equiv, Basis, Class, Sections, Extend}
use Rattle.sheaf_words.specs.declared.edit.Set.{Set}
use Rattle.sheaf_text.specs.Cut.{words, value_of}
use Rattle.sheaf_text.specs.Lines.{word, value, is_skipped, kind_of}
use Rattle.sheaf_text.specs.Grammar.{InputValue, Known, refusal, kind_refusal, is_ended}
use Rattle.sheaf_text.specs.Readings.{Reading, Good, RefusedLine, input_value, command_with_set, advance}
use Rattle.sheaf_text.specs.Readings.{nothing_known, run}
use Rattle.sheaf_text.specs.Forms.{command_refusal, content_refusal, known_after, set_of, onto_last, into_script}
use Rattle.sheaf_text.specs.Forms.{into_last}
use Rattle.sheaf_text.specs.Forms.{reading_at_end, go_on, contents}
use Rattle.sheaf_text.specs.Answers.{Gives, CanBeServed, IsServable, AreServable}
use Rattle.sheaf_text.specs.declared.fault.LineCause.TheVariants as causes
use Rattle.sheaf_text.specs.declared.fault.Which.TheVariants as limits
use Rattle.sheaf_text.specs.declared.fault.Refusal.{Refusal}
use Rattle.sheaf_text.specs.declared.fault.Refusal.TheVariants.{Bad, Over}
use Rattle.sheaf_text.specs.declared.fault.TextFault.{TextFault}
use Rattle.sheaf_text.specs.declared.input.Input.{Input}
use Rattle.sheaf_text.specs.declared.line.Kind.{Kind}
use Rattle.sheaf_text.specs.declared.line.Kind.TheVariants as kinds
use Rattle.sheaf_text.proofs.Accepted.{passes, right, degree_fits, vertex_fits}
use Rattle.sheaf_text.proofs.Steps.{refusal-content, known_after-skipped}

-- ---- a command more, and a change more

abbrev count : List (List Command) → ℕ
count scripts = sum_by length scripts

length-onto_last : (scripts : List (List Command)) (c : Command) → length (onto_last scripts c) ≡ length scripts
length-onto_last [] c = refl
length-onto_last (s ∷ []) c = refl
length-onto_last (s ∷ t ∷ more) c = ap (λ n. suc n) (length-onto_last (t ∷ more) c)

length-into_last : (scripts : List (List Command)) (change : Set) → length (into_last scripts change) ≡ length scripts
length-into_last [] change = refl
length-into_last (s ∷ []) change = refl
length-into_last (s ∷ t ∷ more) change = ap (λ n. suc n) (length-into_last (t ∷ more) change)

count-onto_last : (scripts : List (List Command)) (c : Command) → count (onto_last scripts c) ≤ count scripts + 1
count-onto_last [] c = omega arith
count-onto_last (s ∷ []) c = omega (
  arith,
  sum_by-cons length (s ++ c ∷ []) [],
  sum_by-cons length s [],
  length-append s (c ∷ []),
)
count-onto_last (s ∷ t ∷ more) c =
    omega (
      arith,
      sum_by-cons length s (onto_last (t ∷ more) c),
      sum_by-cons length s (t ∷ more),
      count-onto_last (t ∷ more) c,
    )

length-into_script : (script : List Command) (change : Set) → length (into_script script change) ≡ length script
length-into_script [] change = refl
length-into_script (c ∷ []) change = refl
length-into_script (c ∷ d ∷ more) change = ap (λ n. suc n) (length-into_script (d ∷ more) change)

count-into_last : (scripts : List (List Command)) (change : Set) → count (into_last scripts change) ≡ count scripts
count-into_last [] change = refl
count-into_last (s ∷ []) change =
    omega (arith, sum_by-cons length (into_script s change) [], sum_by-cons length s [], length-into_script s change)
count-into_last (s ∷ t ∷ more) change =
    omega (
      arith,
      sum_by-cons length s (into_last (t ∷ more) change),
      sum_by-cons length s (t ∷ more),
      count-into_last (t ∷ more) change,
    )

more_changes : (dims : List ℕ) (m n : ℕ) → m ≤ n → (c : Command) → IsServable dims m c → IsServable dims n c
more_changes dims m n le (Change e) h = omega arith
more_changes dims m n le (Ask q) h = h

all_more_changes : (dims : List ℕ) (m n : ℕ) → m ≤ n → (script : List Command) → All (IsServable dims m) script
    → All (IsServable dims n) script
all_more_changes dims m n le = All-weaker (IsServable dims m) (IsServable dims n) (more_changes dims m n le)

with_set-changes : (dims : List ℕ) (n : ℕ) (c : Command) (change : Set) → IsServable dims n c
    → IsServable dims (n + 1) (command_with_set change c)
with_set-changes dims n (Change e) change h = omega (arith, length-append e.sets (change ∷ []))
with_set-changes dims n (Ask q) change h = h

into_script-changes : (dims : List ℕ) (n : ℕ) (script : List Command) (change : Set) → All (IsServable dims n) script
    → All (IsServable dims (n + 1)) (into_script script change)
into_script-changes dims n [] change h = All-nil (IsServable dims (n + 1))
into_script-changes dims n (c ∷ []) change h =
    All-cons (IsServable dims (n + 1)) (command_with_set change c) []
    (with_set-changes dims n c change (All-head (IsServable dims n) c [] h)) (All-nil (IsServable dims (n + 1)))
into_script-changes dims n (c ∷ d ∷ more) change h =
    All-cons (IsServable dims (n + 1)) c (into_script (d ∷ more) change)
    (more_changes dims n (n + 1) (omega arith) c (All-head (IsServable dims n) c (d ∷ more) h))
    (into_script-changes dims n (d ∷ more) change (All-tail (IsServable dims n) c (d ∷ more) h))

into_last-changes : (dims : List ℕ) (n : ℕ) (scripts : List (List Command)) (change : Set)
    → All (All (IsServable dims n)) scripts
    → All (All (IsServable dims (n + 1))) (into_last scripts change)
into_last-changes dims n [] change h = All-nil (All (IsServable dims (n + 1)))
into_last-changes dims n (s ∷ []) change h =
    All-cons (All (IsServable dims (n + 1))) (into_script s change) []
    (into_script-changes dims n s change (All-head (All (IsServable dims n)) s [] h))
    (All-nil (All (IsServable dims (n + 1))))
into_last-changes dims n (s ∷ t ∷ more) change h =
    All-cons (All (IsServable dims (n + 1))) s (into_last (t ∷ more) change)
    (all_more_changes dims n (n + 1) (omega arith) s (All-head (All (IsServable dims n)) s (t ∷ more) h))
    (into_last-changes dims n (t ∷ more) change (All-tail (All (IsServable dims n)) s (t ∷ more) h))

onto_last-changes : (dims : List ℕ) (n : ℕ) (scripts : List (List Command)) (c : Command) → IsServable dims n c
    → All (All (IsServable dims n)) scripts → All (All (IsServable dims n)) (onto_last scripts c)
onto_last-changes dims n [] c new h = All-nil (All (IsServable dims n))
onto_last-changes dims n (s ∷ []) c new h =
    All-cons (All (IsServable dims n)) (s ++ c ∷ []) []
    (All-push (IsServable dims n) s c (All-head (All (IsServable dims n)) s [] h) new)
    (All-nil (All (IsServable dims n)))
onto_last-changes dims n (s ∷ t ∷ more) c new h =
    All-cons (All (IsServable dims n)) s (onto_last (t ∷ more) c) (All-head (All (IsServable dims n)) s (t ∷ more) h)
    (onto_last-changes dims n (t ∷ more) c new (All-tail (All (IsServable dims n)) s (t ∷ more) h))

-- ---- a cell more

more_cells : (dims : List ℕ) (dim : ℕ) (q : Query) → CanBeServed dims q → CanBeServed (dims ++ dim ∷ []) q
more_cells dims dim Betti h = h
more_cells dims dim Reduce h = h
more_cells dims dim Equiv h = h
more_cells dims dim (Basis k) h = h
more_cells dims dim (Class k z) h = h
more_cells dims dim Sections h = h
more_cells dims dim (Extend s v) h = record {
  is_cell = omega (arith, h.is_cell, length-append dims (dim ∷ []));
  dimension = get_or-append dims (dim ∷ []) 0 s h.is_cell ∙ h.dimension;
}

command_of_more_cells : (dims : List ℕ) (dim n : ℕ) (c : Command) → IsServable dims n c
    → IsServable (dims ++ dim ∷ []) n c
command_of_more_cells dims dim n (Change e) h = h
command_of_more_cells dims dim n (Ask q) h = more_cells dims dim q h

-- ---- a line more

-- what the scripts of so many lines have, where so many commands are counted
record AreFewAt (dims : List ℕ) (scripts : List (List Command)) (counted line : ℕ) : Type 0 where
  clients : length scripts ≤ 8
  commands : count scripts ≤ counted
  most : counted ≤ 4096
  changes : All (All (IsServable dims line)) scripts

line_more : (dims : List ℕ) (scripts : List (List Command)) (counted line : ℕ) → AreFewAt dims scripts counted line
    → AreFewAt dims scripts counted (line + 1)
line_more dims scripts counted line few = record {
  clients = few.clients;
  commands = few.commands;
  most = few.most;
  changes = All-weaker (All (IsServable dims line)) (All (IsServable dims (line + 1)))
      (all_more_changes dims line (line + 1) (omega arith)) scripts few.changes;
}

cell_more : (dims : List ℕ) (dim : ℕ) (scripts : List (List Command)) (counted line : ℕ)
    → AreFewAt dims scripts counted line → AreFewAt (dims ++ dim ∷ []) scripts counted line
cell_more dims dim scripts counted line few = record {
  clients = few.clients;
  commands = few.commands;
  most = few.most;
  changes = All-weaker (All (IsServable dims line)) (All (IsServable (dims ++ dim ∷ []) line))
      (All-weaker (IsServable dims line) (IsServable (dims ++ dim ∷ []) line) (command_of_more_cells dims dim line))
      scripts few.changes;
}

client_more : (dims : List ℕ) (scripts : List (List Command)) (counted line : ℕ) → length scripts < 8
    → AreFewAt dims scripts counted line
    → AreFewAt dims (scripts ++ [] ∷ []) counted line
client_more dims scripts counted line room few = record {
  clients = omega (arith, length-append scripts ([] ∷ []));
  commands = omega (
    arith,
    few.commands,
    sum_by-append length scripts ([] ∷ []),
    sum_by-cons {X = List Command} length
        [] [],
  );
  most = few.most;
  changes = All-push (All (IsServable dims line)) scripts [] few.changes (All-nil (IsServable dims line));
}

command_more : (dims : List ℕ) (scripts : List (List Command)) (counted line : ℕ) (c : Command)
    → IsServable dims line c → counted < 4096
    → AreFewAt dims scripts counted line → AreFewAt dims (onto_last scripts c) (counted + 1) line
command_more dims scripts counted line c new room few = record {
  clients = omega (arith, few.clients, length-onto_last scripts c);
  commands = omega (arith, few.commands, count-onto_last scripts c);
  most = omega arith;
  changes = onto_last-changes dims line scripts c new few.changes;
}

change_more : (dims : List ℕ) (scripts : List (List Command)) (counted line : ℕ) (s : Set)
    → AreFewAt dims scripts counted line
    → AreFewAt dims (into_last scripts s) counted (line + 1)
change_more dims scripts counted line s few = record {
  clients = omega (arith, few.clients, length-into_last scripts s);
  commands = omega (arith, few.commands, count-into_last scripts s);
  most = few.most;
  changes = into_last-changes dims line scripts s few.changes;
}

abbrev AreFewKnown : Known → ℕ → Type 0
AreFewKnown k line = AreFewAt k.input.dims k.input.scripts k.commands line

command_keeps : (k : Known) (line : ℕ) (c : Command) → IsServable k.input.dims (line + 1) c
    → command_refusal k ≡ None → AreFewKnown k line
    → AreFewAt k.input.dims (onto_last k.input.scripts c) (k.commands + 1) (line + 1)
command_keeps k line c new e few =
    command_more k.input.dims k.input.scripts k.commands (line + 1) c new
    (leb-false _ _ (passes (nat_le 4096 k.commands) (Over limits.Commands) None e).0)
    (line_more k.input.dims k.input.scripts k.commands line few)

kind_keeps : (k : Known) (line : ℕ) (kind : Kind) (ws : List (List ℕ)) → kind_refusal k kind ws ≡ None
    → AreFewKnown k line → AreFewKnown (advance k (Some kind) ws) (line + 1)
kind_keeps k line kinds.Cell ws e few =
    cell_more k.input.dims (value ws 1) k.input.scripts k.commands (line + 1)
    (line_more k.input.dims k.input.scripts k.commands line few)
kind_keeps k line kinds.Client ws e few =
    client_more k.input.dims k.input.scripts k.commands (line + 1)
    (leb-false _ _ (passes (nat_le 8 (length k.input.scripts)) (Over limits.Clients) None e).0)
    (line_more k.input.dims k.input.scripts k.commands line few)
kind_keeps k line kinds.Betti ws e few = command_keeps k line (Ask Betti) tt e few
kind_keeps k line kinds.Reduce ws e few = command_keeps k line (Ask Reduce) tt e few
kind_keeps k line kinds.Equiv ws e few = command_keeps k line (Ask Equiv) tt e few
kind_keeps k line kinds.Basis ws e few = let fits = degree_fits k ws e in
    command_keeps k line (Ask (Basis (value ws 1))) fits.0 fits.1 few
kind_keeps k line kinds.Class ws e few = let fits = degree_fits k ws e in
    command_keeps k line (Ask (Class (value ws 1) (map value_of (drop 2 ws)))) fits.0 fits.1 few
kind_keeps k line kinds.Sections ws e few = command_keeps k line (Ask Sections) tt e few
kind_keeps k line kinds.Extend ws e few = let fits = vertex_fits k ws e in
    command_keeps k line (Ask (Extend (value ws 1) (map value_of (drop 2 ws)))) fits.0 fits.1 few
kind_keeps k line kinds.Edit ws e few =
    command_keeps k line (Change (record { sets = [] })) (omega arith) e few
kind_keeps k line kinds.Stalk ws e few =
    change_more k.input.dims k.input.scripts k.commands line (set_of kinds.Stalk ws) few
kind_keeps k line kinds.Restrict ws e few = change_more k.input.dims k.input.scripts k.commands line
    (set_of kinds.Restrict ws) few
kind_keeps k line kind ws e few = line_more k.input.dims k.input.scripts k.commands line few

content_keeps : (k : Known) (line : ℕ) (kind : Option Kind) (ws : List (List ℕ)) → content_refusal k kind ws ≡ None
    → AreFewKnown k line → AreFewKnown (advance k kind ws) (line + 1)
content_keeps k line None ws e few = let none =
    (passes (is_ended k.stage) (Bad causes.After) (Some (Bad causes.Word)) e).1 in absurd cc
content_keeps k line (Some kind) ws e few =
    kind_keeps k line kind ws (right k kind ws (passes (is_ended k.stage) (Bad causes.After) _ e).1).fits few

line_keeps : (k : Known) (line : ℕ) (ws : List (List ℕ)) (b : Bool) → is_skipped ws ≡ b → refusal k ws ≡ None
    → AreFewKnown k line → AreFewKnown (known_after k ws) (line + 1)
unfolding known_after
line_keeps k line ws true is e few =
    subst (λ (j : Known). AreFewKnown j (line + 1)) (sym (known_after-skipped k ws is))
    (line_more k.input.dims k.input.scripts k.commands line few)
line_keeps k line ws false is e few =
    content_keeps k line (kind_of (word ws 0)) ws (sym (refusal-content k ws is) ∙ e) few

-- ---- all lines

input-ending : (k : Known) (line : ℕ) (v : InputValue) (b : Bool) → is_ended k.stage ≡ b → reading_at_end k line
    ≡ Good v → v ≡ k.input
input-ending k line v true e is = let same : Good k.input ≡ Good v = sym (rw e refl) ∙ is in let value :
    k.input ≡ v = cc in sym value
input-ending k line v false e is = let same : RefusedLine (line + 1) (Bad causes.End) ≡ Good v = sym (rw e refl)
    ∙ is in absurd cc

not_refused : (r : Option Refusal) (line : ℕ) (later : Reading) (v : InputValue) → go_on r line later ≡ Good v
    → (r ≡ None) × (later ≡ Good v)
not_refused None line later v e = (refl, e)
not_refused (Some refusal) line later v e = absurd cc

few-run : (k : Known) (line : ℕ) (more : List (List (List ℕ))) (v : InputValue) → line + length more ≤ 1000000000
    → AreFewKnown k line → run k line more ≡ Good v → AreServable v.dims v.scripts
unfolding run known_after
few-run k line [] v short few e =
    subst (λ (w : InputValue). AreServable w.dims w.scripts) (sym (input-ending k line v (is_ended k.stage) refl e))
    (record {
      clients = few.clients;
      commands = omega (arith, few.commands, few.most);
      each = All-weaker (All (IsServable k.input.dims line)) (All (IsServable k.input.dims 1000000000))
          (all_more_changes k.input.dims line 1000000000 (omega arith)) k.input.scripts few.changes;
    })
few-run k line (ws ∷ more) v short few e =
    let next = known_after k ws in
    let accepted = not_refused (refusal k ws) (line + 1) (run next (line + 1) more) v e in
    few-run next (line + 1) more v (omega arith)
    (line_keeps k line ws (is_skipped ws) refl accepted.0 few) accepted.1

few_at_start : AreFewKnown nothing_known 0
few_at_start = record {
  clients = omega arith;
  commands = omega arith;
  most = omega arith;
  changes = All-nil (All (IsServable [] 0));
}

one_line : (b : Bool) (x : List ℕ) → length (if b then [] else x ∷ []) ≤ 1
one_line true x = omega arith
one_line false x = omega arith

length-lines_of_parts : (parts : List (List ℕ)) → length (lines_of_parts parts) ≤ length parts
length-lines_of_parts [] = omega arith
length-lines_of_parts (x ∷ []) = one_line (length x == 0) x
length-lines_of_parts (x ∷ y ∷ more) = omega (arith, length-lines_of_parts (y ∷ more))

length-contents : (bytes : List ℕ) → length (contents bytes) ≤ length bytes + 1
length-contents bytes =
    let is_end : ℕ → Bool = λ b. nat_eq b 10 in
    omega (
      arith,
      length-map (lines bytes) words,
      length-lines_of_parts (slice_split is_end bytes),
      length-slice_split is_end bytes,
      count_by-le-length is_end bytes,
    )

-- what is read of so many bytes is few
pub few_given : (bytes : List ℕ) (result : Result Input TextFault) → length bytes ≤ 16777216
    → Gives result (run nothing_known 0 (contents bytes))
    → IfOk result (λ input. AreServable input.draft.complex.dims input.scripts)
few_given bytes (Ok input) short gives = few-run nothing_known 0 (contents bytes) (input_value input)
    (omega (arith, length-contents bytes)) few_at_start gives
few_given bytes (Err fault) short gives = tt
