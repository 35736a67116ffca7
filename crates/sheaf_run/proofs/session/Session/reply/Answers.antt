use Rattle.std.proofs.Common.{◌∙◌, sym, ap, subst, arith}
use Rattle.std.proofs.lemmas.Option.{same_Some}
use Rattle.cell_complex.specs.Invariants.{IsComplex}
use Rattle.field_table.specs.Table.{ops_of}
use Rattle.sheaf_data.specs.Sheaves.{SheafData, IsSheaf}
use Rattle.sheaf_data.specs.Betti.{degree_count}
use Rattle.sheaf_run.specs.Sessions.{Progress}
use Rattle.sheaf_run.proofs.DegreeLaws.{degrees-few}
use Rattle.sheaf_run.proofs.AnswerLaws.{solo-answers, base-closed, live-degrees, asked-answered}
use Rattle.sheaf_run.proofs.session.Session.reply.Goals as goal

pub overflow_cast-degrees : goal.overflow_cast-degrees
overflow_cast-degrees c =
    omega (
      arith,
      c.degree_count-degrees.ensures,
      ap degree_count c.dims.ensures.dims,
      degrees-few _ c.dims.ensures.complex.small.low,
    )

pub reply-requires-clause-degrees : goal.reply-requires-clause-degrees
reply-requires-clause-degrees c =
    let p = c.args.self.now in
    let dims = c.dims.ensures.dims
    ∙ ap (λ (x : SheafData _). x.complex.dims) (c.behind-self.view_is ∙ c.draft.ensures.draft)
    ∙ ap (λ (q : Progress). q.sheaf.complex.dims) c.self.view_is in
    live-degrees p.sheaf c.requires.reduced.slot c.in-Some.answerer c.degree_count-degrees.result
    (same_Some _ _ (sym c.in-Some.is ∙ ap (λ (q : Progress). q.slot) c.self.view_is ∙ c.requires.reduced.there))
    c.requires.reduced.reduction
    (c.degree_count-degrees.ensures ∙ ap degree_count dims)

pub reply-requires-clause-few : goal.reply-requires-clause-few
reply-requires-clause-few c =
    omega (
      arith,
      c.degree_count-degrees.ensures,
      ap degree_count c.dims.ensures.dims,
      degrees-few _ c.dims.ensures.complex.small.low,
    )

pub reply-requires-clause-closed : goal.reply-requires-clause-closed
reply-requires-clause-closed c =
    let p = c.args.self.now in
    let sheaf = c.behind-self.view_is ∙ c.draft.ensures.draft ∙ ap (λ (q : Progress). q.sheaf) c.self.view_is in
    base-closed p.sheaf c.requires.reduced.slot c.in-Some.answerer
    (same_Some _ _ (sym c.in-Some.is ∙ ap (λ (q : Progress). q.slot) c.self.view_is ∙ c.requires.reduced.there))
    c.requires.reduced.reduction c.start_is_cochain_complex.ensures
    (subst (λ (x : SheafData _). IsComplex x.complex) sheaf c.dims.ensures.complex)
    (subst (λ (x : SheafData _). IsSheaf (ops_of x.field) x.complex x.stalks x.blocks)
    (ap (λ (q : Progress). q.sheaf) c.self.view_is) c.draft.ensures.sheaf)

pub returns-clause-right : goal.returns-clause-right
returns-clause-right c =
    let p = c.args.self.now in
    let sheaf = c.behind-self.view_is ∙ c.draft.ensures.draft ∙ ap (λ (q : Progress). q.sheaf) c.self.view_is in
    let dims = c.dims.ensures.dims
    ∙ ap (λ (x : SheafData _). x.complex.dims) (c.behind-self.view_is ∙ c.draft.ensures.draft)
    ∙ ap (λ (q : Progress). q.sheaf.complex.dims) c.self.view_is in
    solo-answers p c.requires.reduced c.in-Some.answerer c.degree_count-degrees.result c.args.query.now c.reply.result
    (sym c.in-Some.is ∙ ap (λ (q : Progress). q.slot) c.self.view_is)
    (c.degree_count-degrees.ensures ∙ ap degree_count dims)
    (subst (λ (x : SheafData _). IsComplex x.complex) sheaf c.dims.ensures.complex)
    (subst (λ (x : SheafData _). IsSheaf (ops_of x.field) x.complex x.stalks x.blocks)
    (ap (λ (q : Progress). q.sheaf) c.self.view_is) c.draft.ensures.sheaf)
    c.reply.ensures.right

pub reply-requires-clause-answered : goal.reply-requires-clause-answered
reply-requires-clause-answered c =
    let p = c.args.self.now in
    asked-answered p.sheaf c.requires.reduced.slot c.in-Some.answerer c.args.query.now
    (same_Some _ _ (sym c.in-Some.is ∙ ap (λ (q : Progress). q.slot) c.self.view_is ∙ c.requires.reduced.there))
    c.requires.reduced.reduction c.requires.query
