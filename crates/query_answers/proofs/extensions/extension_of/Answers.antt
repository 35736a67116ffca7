use Rattle.std.proofs.Common.{◌≡◌, true, List, Vec, Global, Some, sym, ap, subst, subst₂, ◌∙◌}
use Rattle.std.specs.Prelude.{slice_get}
use Rattle.dense_blocks.specs.Vectors.{AllScalars}
use Rattle.rising_lists.specs.Rising.{has}
use Rattle.cochain_vec.specs.declared.cochain.Cochain.{Cochain}
use Rattle.cochain_vec.specs.Cohomology.{IsBasis}
use Rattle.block_complexes.specs.BlockComplexes.{cells, degree_of, size_of, IsBlockComplex}
use Rattle.block_complexes.specs.Cochains.{complex_of}
use Rattle.block_sparse.specs.StoredBlocks.{StoredBlocks, complex_in}
use Rattle.equivalences.specs.CochainLists.{values_of}
use Rattle.sections.specs.Answers.{Extends}
use Rattle.sections.specs.declared.extension.Extension.TheVariants as extensions
use Rattle.sheaf_words.specs.declared.query.Query.TheVariants as queries
use Rattle.sheaf_words.specs.declared.reply.Reply.TheVariants as replies
use Rattle.query_answers.specs.Answers.{IsAnswerIn}
use Rattle.query_answers.proofs.ExtensionLaws.{section-answer, obstruction-answer}
use Rattle.query_answers.proofs.extensions.extension_of.Goals as goal

pub extend-requires : goal.extend-requires
extend-requires g c =
    let ops = g.F.Scalars.ops in
    let s = c.args.s in
    let zs = c.member-sections.result.now in
    let f_is = sym c.field-f.ensures in
    let v_is = sym c.base.ensures in
    let at = subst (λ (bases : List (Vec Cochain Global)). slice_get bases 0 ≡ Some zs) c.deref.ensures.value
    c.member-sections.ensures in
    record {
      base = subst₂ (λ f (v : StoredBlocks). IsBlockComplex (ops f) (complex_in v)) f_is v_is
          c.now-present.ensures.slot.base_is;
      basis = subst
          (λ es. IsBasis (ops c.field-f.result) (complex_of (complex_in c.base.result.now)) 0 (values_of es))
          (sym c.deref-2.ensures.value)
          (subst₂ (λ f (v : StoredBlocks). IsBasis (ops f) (complex_of (complex_in v)) 0 (values_of zs.items)) f_is
          v_is (c.requires.kept.bases 0 zs at));
      vertex = subst (λ (v : StoredBlocks). has s (cells v.live) ≡ true → degree_of v.live s ≡ 0) v_is
          c.requires.vertex;
      size = c.requires.value.size ∙ ap (λ (v : StoredBlocks). size_of v.live s) v_is;
      scalars = subst (λ f. AllScalars (ops f) c.args.v.now) f_is c.requires.value.scalars;
    }

pub returns-in-Section : goal.returns-in-Section
returns-in-Section g c =
    let slot = c.args.slot.now in
    let ops = g.F.Scalars.ops in
    let s = c.args.s in
    let v = c.args.v.now in
    let zs = c.member-sections.result.now in
    let z = c.in-Section.z in
    let at = subst (λ (bases : List (Vec Cochain Global)). slice_get bases 0 ≡ Some zs) c.deref.ensures.value
    c.member-sections.ensures in
    let extends : Extends (ops slot.f) (complex_of (complex_in slot.base)) (values_of zs.items) s v
    (extensions.Section z) =
    subst (λ es. Extends (ops slot.f) (complex_of (complex_in slot.base)) (values_of es) s v (extensions.Section z))
    c.deref-2.ensures.value
    (subst₂ (λ f (w : StoredBlocks). Extends (ops f) (complex_of (complex_in w)) (values_of c.deref-2.result.now) s v
    (extensions.Section z)) c.field-f.ensures c.base.ensures
    (subst (Extends (ops c.field-f.result) (complex_of (complex_in c.base.result.now)) (values_of c.deref-2.result.now)
    s v) c.in-Section.is c.in_ok-z.ensures)) in
    λ degrees.
    subst (λ values. IsAnswerIn (ops slot.f) degrees slot (queries.Extend s v) (replies.Section s values))
    (sym c.of.ensures)
    (section-answer (ops slot.f) slot c.args.cohomology.now c.requires.kept zs at s v c.requires.vertex
    c.requires.value z.values.items extends.1 extends.2 degrees)

pub returns-in-NoSection : goal.returns-in-NoSection
returns-in-NoSection g c =
    let slot = c.args.slot.now in
    let ops = g.F.Scalars.ops in
    let s = c.args.s in
    let v = c.args.v.now in
    let zs = c.member-sections.result.now in
    let p = c.in-NoSection.functional in
    let at = subst (λ (bases : List (Vec Cochain Global)). slice_get bases 0 ≡ Some zs) c.deref.ensures.value
    c.member-sections.ensures in
    let extends : Extends (ops slot.f) (complex_of (complex_in slot.base)) (values_of zs.items) s v
    (extensions.NoSection p) =
    subst (λ es. Extends (ops slot.f) (complex_of (complex_in slot.base)) (values_of es) s v (extensions.NoSection p))
    c.deref-2.ensures.value
    (subst₂ (λ f (w : StoredBlocks). Extends (ops f) (complex_of (complex_in w)) (values_of c.deref-2.result.now) s v
    (extensions.NoSection p)) c.field-f.ensures c.base.ensures
    (subst (Extends (ops c.field-f.result) (complex_of (complex_in c.base.result.now)) (values_of c.deref-2.result.now)
    s v) c.in-NoSection.is c.in_ok-z.ensures)) in
    λ degrees.
    subst (λ values. IsAnswerIn (ops slot.f) degrees slot (queries.Extend s v) (replies.NoSection s values))
    (sym c.of-in-NoSection.ensures)
    (obstruction-answer (ops slot.f) slot c.args.cohomology.now c.requires.kept zs at s v c.requires.vertex
    c.requires.value p.items extends.1 extends.2 degrees)
