use Rattle.std.proofs.Common.{◌+◌, ◌<◌, ◌∷◌, length, drop, sym, ap, ◌∙◌, arith}
use Rattle.std.proofs.lemmas.List.{at_drop_more}
use Rattle.edit_versions.specs.Edits.{sets_made}
use Rattle.edit_versions.specs.Works.{work_lists}
use Rattle.edit_versions.proofs.Fitting.{takes-work, sets_made-next}
use Rattle.edit_versions.proofs.construction.make_sets.Goals as goal

pub loop-i-preserved : goal.loop-i-preserved
loop-i-preserved g c =
    let K = g.F.Scalars.ops c.args.f.now in
    let field = g.met.F.Scalars.is_field c.args.f.now in
    let sets = c.args.sets.now in
    let i = c.loop-i.i in
    let x = c.index-sets-i.result in
    let made = c.in_ok-make_set.ensures in
    let within : i < length sets = omega arith in
    record {
      rest =
          sets_made-next K c.args.c.now (work_lists c.loop-i.work) (work_lists c.make_set.new.work) i x
          (drop (i + 1) sets) made.judged made.made.lists
          ∙ ap (λ y. sets_made K c.args.c.now (work_lists c.loop-i.work) i (y ∷ drop (i + 1) sets)) c.index-sets-i.is
          ∙ sym (at_drop_more (sets_made K c.args.c.now (work_lists c.loop-i.work) i) sets i x within)
          ∙ c.loop-i.invariant.rest;
      work = takes-work K (omega (arith, field.order_low)) c.args.c.now i x c.loop-i.work c.make_set.new.work
          made.judged made.made c.loop-i.invariant.work;
      touched = λ start w. made.made.touched start (c.loop-i.invariant.touched start w);
    }
