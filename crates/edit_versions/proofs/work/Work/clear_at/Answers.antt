use Rattle.std.proofs.Common.{subst}
use Rattle.cell_complex.specs.Complexes.{faces_of}
use Rattle.cell_complex.specs.Invariants.{cofaces_of}
use Rattle.edit_versions.specs.Works.{Puts, is_from, is_to, zero_at, is_end}
use Rattle.edit_versions.proofs.Ends.{ends-at}
use Rattle.edit_versions.proofs.Putting.{on_ok, puts-count, puts-puts, puts-same}
use Rattle.edit_versions.proofs.work.Work.clear_at.Goals as goal

pub clear_above-requires-clause-count : goal.clear_above-requires-clause-count
clear_above-requires-clause-count c = puts-count c.args.c.now _ _ c.args.self.now c.clear_below.new.self
    c.requires.count c.in_ok-clear_below.ensures

pub returns : goal.returns
returns c =
    let stalks = c.args.self.now.stalks.items in
    let mid = c.clear_below.new.self in
    let new = c.clear_above.new.self in
    let K = c.args.c.now in
    let s = c.args.s in
    on_ok c.clear_above.result (Puts K (is_to (cofaces_of K s) s) (zero_at mid.stalks.items) mid new)
    (Puts K (is_end s) (zero_at stalks) c.args.self.now new)
    c.clear_above.ensures
    (λ h.
    puts-same K _ (is_end s) (zero_at stalks) c.args.self.now new (ends-at K c.requires.complex s)
    (puts-puts K (is_from (faces_of K s) s) (is_to (cofaces_of K s) s) (zero_at stalks) c.args.self.now mid new
    c.in_ok-clear_below.ensures
    (subst (λ xs. Puts K (is_to (cofaces_of K s) s) (zero_at xs) mid new) c.in_ok-clear_below.ensures.stalks h)))
