use Rattle.std.proofs.Common.{◌≡◌, ◌≤◌, ◌∙◌, suc, ℕ, List, length, sym, subst, ap, arith, add-one}
use Rattle.std.specs.Prelude.{◌==◌}
use Rattle.dense_blocks.specs.Solutions.{lists}
use Rattle.cochain_vec.specs.Complexes.{coordinates}
use Rattle.plain_bases.specs.View.{plain_complex_of}
use Rattle.plain_bases.specs.Columns.{columns_from, columns_into}
use Rattle.plain_bases.specs.Relations.{SpansRelations}
use Rattle.plain_bases.specs.Complements.{Completes}
use Rattle.plain_bases.proofs.VecLaws.{lists-size}
use Rattle.plain_bases.proofs.BasisLaws.{columns-size, completes_is_basis}
use Rattle.plain_bases.proofs.ComplexLaws.{rows_fit, few_of}
use Rattle.plain_bases.proofs.cohomology.basis.Goals as goal

pub complement-requires-clause-sizes : goal.complement-requires-clause-sizes
complement-requires-clause-sizes g c =
    let K = g.F.Scalars.ops c.args.f.now in
    let F = g.met.F.Scalars.is_field c.args.f.now in
    let complex = c.args.complex.now in
    c.in_ok-incoming.ensures.size
    ∙ sym (columns-size K F (plain_complex_of complex) (rows_fit K F complex c.requires.complex) c.args.degree)
    ∙ sym (ap length c.in_ok-outgoing.ensures.columns) ∙ lists-size c.in_ok-outgoing.outgoing.all.items
    ∙ sym c.in_ok-cocycles.ensures.size

pub returns-clause-basis : goal.returns-clause-basis
returns-clause-basis g c =
    let K = g.F.Scalars.ops c.args.f.now in
    let F = g.met.F.Scalars.is_field c.args.f.now in
    let complex = c.args.complex.now in
    let C = plain_complex_of complex in
    let k = c.args.degree in
    let outgoing = c.in_ok-outgoing.outgoing in
    let incoming = c.in_ok-incoming.incoming in
    let zs = lists c.in_ok-cocycles.cocycles.all.items in
    let chosen = lists c.in_ok-basis.basis.items in
    let spans : SpansRelations K (coordinates C (suc k)) (columns_from K C k) zs =
    subst (λ n. SpansRelations K n (columns_from K C k) zs) (c.in_ok-outgoing.ensures.size
    ∙ ap (coordinates C) (add-one k))
    (subst (λ (vs : List (List ℕ)). SpansRelations K outgoing.size vs zs) c.in_ok-outgoing.ensures.columns
    c.in_ok-cocycles.ensures.spans) in
    let completes : Completes K (coordinates C k) (columns_into K C k) zs (length zs) chosen =
    subst (λ n. Completes K n (columns_into K C k) zs (length zs) chosen) c.in_ok-incoming.ensures.size
    (subst (λ (vs : List (List ℕ)). Completes K incoming.size vs zs (length zs) chosen) c.in_ok-incoming.ensures.columns
    (subst (λ (m : ℕ). Completes K incoming.size (lists incoming.all.items) zs m chosen)
    (sym (lists-size c.in_ok-cocycles.cocycles.all.items)) c.in_ok-basis.ensures.completes)) in
    completes_is_basis K F C (rows_fit K F complex c.requires.complex) k zs chosen spans completes

pub returns-clause-few : goal.returns-clause-few
returns-clause-few g c =
    let K = g.F.Scalars.ops c.args.f.now in
    let F = g.met.F.Scalars.is_field c.args.f.now in
    let complex = c.args.complex.now in
    let size : length c.in_ok-outgoing.outgoing.all.items ≡ coordinates (plain_complex_of complex) c.args.degree =
    sym (lists-size c.in_ok-outgoing.outgoing.all.items) ∙ ap length c.in_ok-outgoing.ensures.columns
    ∙ columns-size K F (plain_complex_of complex) (rows_fit K F complex c.requires.complex) c.args.degree in
    let few : coordinates (plain_complex_of complex) c.args.degree ≤ 4096 = few_of K F complex c.requires.complex
    (λ x. x.degree == c.args.degree) in
    omega (arith, size, few, c.in_ok-basis.ensures.few, c.in_ok-cocycles.ensures.few)
