use Rattle.std.proofs.Common.{set, ap₂}
use Rattle.sheaf_words.specs.declared.edit.Set.TheVariants.{Stalk}
use Rattle.edit_versions.specs.Works.{Puts, TakesSet, zero_at, is_end}
use Rattle.edit_versions.proofs.Putting.{on_ok}
use Rattle.edit_versions.proofs.work.Work.set_stalk.Goals as goal

pub returns : goal.returns
returns c =
    on_ok c.clear_at.result
    (Puts c.args.c.now (is_end c.args.s) (zero_at (set c.args.self.now.stalks.items c.args.s c.args.n)) _
    c.clear_at.new.self)
    (TakesSet c.args.c.now (Stalk c.args.s c.args.n) c.args.self.now c.clear_at.new.self)
    c.clear_at.ensures
    (λ h. record {
      lists = ap₂ (λ stalks matrices. record { stalks = stalks; matrices = matrices }) h.stalks h.matrices;
      touched = λ start w. h.touched start (record { faces = w.faces; others = w.others });
    })
