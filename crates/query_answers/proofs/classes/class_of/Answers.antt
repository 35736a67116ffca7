use Rattle.std.proofs.Common.{List, Vec, Global, length, ap, sym, subst, subst₂, arith}
use Rattle.cochain_vec.specs.declared.cochain.Cochain.{Cochain}
use Rattle.cochain_vec.specs.Complexes.{CellularComplex, IsCochain}
use Rattle.block_complexes.specs.BlockComplexes.{IsBlockComplex}
use Rattle.block_complexes.specs.Cochains.{complex_of}
use Rattle.block_sparse.specs.StoredBlocks.{StoredBlocks, complex_in}
use Rattle.equivalences.specs.Between.{IsEquivalenceOf}
use Rattle.cocycle_bases.specs.Answers.{Answers, HasClass}
use Rattle.cocycle_bases.specs.Classes.{IsFirstOpen}
use Rattle.sheaf_words.specs.declared.query.Query.TheVariants as queries
use Rattle.sheaf_words.specs.declared.reply.Reply.TheVariants as replies
use Rattle.query_answers.specs.Answers.{IsAnswerIn}
use Rattle.query_answers.specs.Vectors.{AreVectorsAt}
use Rattle.query_answers.proofs.AnswerLaws.{class-answer, open-answer}
use Rattle.query_answers.proofs.classes.class_of.Goals as goal

pub classify-requires : goal.classify-requires
classify-requires g c =
    let slot = c.args.slot.now in
    let ops = g.F.Scalars.ops in
    let e = c.args.cohomology.now.maps in
    let z = c.args.z.now in
    let f_is = sym c.field-f.ensures in
    let v_is = sym c.base.ensures in
    record {
      base = subst₂ (λ f (v : StoredBlocks). IsBlockComplex (ops f) (complex_in v)) f_is v_is
          c.now-present.ensures.slot.base_is;
      equivalence = subst₂
          (λ f (v : StoredBlocks). (D : CellularComplex) × IsEquivalenceOf (ops f) (complex_of (complex_in v)) D e)
          f_is v_is (complex_of c.requires.kept.rest, c.requires.kept.equivalence);
      cochain = subst₂
          (λ f (v : StoredBlocks). IsCochain (ops f) (complex_of (complex_in v)) z.degree z.values.items) f_is v_is
          c.requires.cochain;
      degree = omega (arith, c.requires.degree);
    }

pub vectors-requires : goal.vectors-requires
vectors-requires g c =
    omega (arith, c.requires.degree, ap length c.deref.ensures.value, c.requires.kept.one_each)

pub returns-in-NotCocycle : goal.returns-in-NotCocycle
returns-in-NotCocycle g c =
    let slot = c.args.slot.now in
    let ops = g.F.Scalars.ops in
    let z = c.args.z.now in
    open-answer (ops slot.f) slot z.degree z.values.items c.in-NotCocycle.t c.requires.cochain
    (subst₂ (λ f (v : StoredBlocks). IsFirstOpen (ops f) (complex_of (complex_in v)) z.degree z.values.items
    c.in-NotCocycle.t) c.field-f.ensures c.base.ensures
    (subst (Answers (ops c.field-f.result) (complex_of (complex_in c.base.result.now)) c.args.cohomology.now.maps
    z.degree z.values.items) c.in-NotCocycle.is c.in_ok-t.ensures))

pub returns-in_ok-vectors-in-Class : goal.returns-in_ok-vectors-in-Class
returns-in_ok-vectors-in-Class g c =
    let slot = c.args.slot.now in
    let ops = g.F.Scalars.ops in
    let z = c.args.z.now in
    let e = c.args.cohomology.now.maps in
    let vectors = c.in_ok-vectors-in-Class.vectors in
    let coords = c.in-Class.coords.items in
    let primitive = c.in-Class.primitive.items in
    let has : HasClass (ops slot.f) (complex_of (complex_in slot.base)) e z.degree z.values.items coords primitive =
    subst₂ (λ f (v : StoredBlocks). HasClass (ops f) (complex_of (complex_in v)) e z.degree z.values.items coords
    primitive) c.field-f.ensures c.base.ensures
    (subst (Answers (ops c.field-f.result) (complex_of (complex_in c.base.result.now)) e z.degree z.values.items)
    c.in-Class.is c.in_ok-t.ensures) in
    λ degrees.
    subst₂ (λ cs ps. IsAnswerIn (ops slot.f) degrees slot (queries.Class z.degree z.values.items)
    (replies.Class z.degree cs vectors ps)) (sym c.of.ensures) (sym c.of-in-Class.ensures)
    (class-answer (ops slot.f) slot c.args.cohomology.now c.requires.kept z.degree vectors
    (subst (λ (bases : List (Vec Cochain Global)). AreVectorsAt bases z.degree vectors) c.deref.ensures.value
    c.in_ok-vectors-in-Class.ensures) z.values.items coords primitive has degrees)
