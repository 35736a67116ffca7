use Rattle.std.proofs.Common.{◌≡◌, ◌<◌, ◌∙◌, sym, subst, All, Vec, ℕ, Global, length, List}
use Rattle.plain_bases.proofs.VecLaws.{all_sizes, each_scalars}
use Rattle.plain_bases.proofs.complements.consider.Goals as goal

pub solve-requires-clause-sizes : goal.solve-requires-clause-sizes
solve-requires-clause-sizes g c =
    let K = g.F.Scalars.ops c.args.f.now in
    let taken = c.args.taken.now in
    subst (λ (vs : List (Vec ℕ Global)). All (λ v. length v.items ≡ length c.args.candidate.now) vs)
    (sym c.deref.ensures.value)
    (λ k d l. all_sizes K _ taken.size taken.all.items c.requires.taken k d l ∙ sym c.requires.candidate.size)

pub solve-requires-clause-column_scalars : goal.solve-requires-clause-column_scalars
solve-requires-clause-column_scalars g c =
    let K = g.F.Scalars.ops c.args.f.now in
    let taken = c.args.taken.now in
    subst (λ (vs : List (Vec ℕ Global)). All (λ v. All (λ a. a < K.order) v.items) vs) (sym c.deref.ensures.value)
    (each_scalars K _ taken.size taken.all.items c.requires.taken)
