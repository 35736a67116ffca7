-- An answer out of a slot is a right reply, with the choices of a solo order.
use Rattle.std.proofs.Common.{◌≡◌, ◌∙◌, ℕ, true, [], ◌∷◌, Some, Result, Ok, Err, refl, sym, subst, All}
use Rattle.std.specs.Prelude.{IfOk}
use Rattle.std.proofs.lemmas.Option.{same_Some}
use Rattle.dense_blocks.specs.Field.{Ops}
use Rattle.field_table.specs.declared.field.Field.{Field}
use Rattle.field_table.specs.Table.{ops_of}
use Rattle.cell_complex.specs.Invariants.{IsComplex}
use Rattle.cochain_vec.specs.CochainComplexes.{IsCochainComplex}
use Rattle.field_table.specs.TableLaws.{table_is_field}
use Rattle.rising_lists.specs.Rising.{has}
use Rattle.block_complexes.specs.BlockComplexes.{cells, degree_of, HaveSameMatrices}
use Rattle.block_complexes.specs.Cochains.{complex_of}
use Rattle.block_complexes.proofs.SameLaws.{same-refl, same-complex}
use Rattle.block_sparse.specs.StoredBlocks.{complex_in}
use Rattle.reduce_step.specs.Logs.{pairs_of}
use Rattle.pair_commit.specs.Slots.{SlotValue}
use Rattle.sheaf_data.specs.Sheaves.{SheafData, IsSheaf}
use Rattle.sheaf_data.specs.Arrows.{numbered_cells}
use Rattle.sheaf_data.specs.Betti.{degree_count}
use Rattle.sheaf_words.specs.declared.query.Query.{Query}
use Rattle.sheaf_words.specs.declared.query.Query.TheVariants as queries
use Rattle.sheaf_words.specs.declared.reply.Reply.{Reply as Answer}
use Rattle.coboundary.specs.Start.{with_stalks, start_complex}
use Rattle.coboundary.specs.StartCoboundary.{StartIsCochainComplex}
use Rattle.first_reduction.proofs.FirstLaws.{reduction-after}
use Rattle.core_machine.specs.Replies.{Reduction}
use Rattle.core_machine.specs.Rights.{IsRightForStart}
use Rattle.core_machine.specs.Machine.{State, IsReductionOf, free_lane}
use Rattle.core_machine.specs.Solo.{HasSoloChoices}
use Rattle.core_machine.proofs.ReplyLaws.{right-for}
use Rattle.query_answers.specs.Answers.{IsAnswered, IsAnswerIn}
use Rattle.sheaf_text.specs.Answers.{CanBeServed}
use Rattle.sheaf_run.specs.Sessions.{Progress, IsSheafReduction, HasReduction, IsSoloReply, IsSoloAnswer}
use Rattle.sheaf_run.specs.Sessions.{version_reduction}
use Rattle.sheaf_run.proofs.DegreeLaws.{HasDegreeBelow, degrees-below, vertex-live}

-- an answer out of the slot is right for the question on the version
pub answer-right : (sheaf : SheafData Field) (slot here : SlotValue Field) (degrees : ℕ) (query : Query) (reply : Answer)
    → here ≡ slot → IsSheafReduction sheaf slot → degrees ≡ degree_count sheaf.complex.dims → IsComplex sheaf.complex
    → IsSheaf (ops_of sheaf.field) sheaf.complex sheaf.stalks sheaf.blocks
    → IsAnswerIn (ops_of here.f) degrees here query reply → IsSoloReply sheaf slot query reply
answer-right sheaf slot here degrees query reply e is d complex sheaf-is answer = record {
  right = right-for K state 0 r query reply (table_is_field sheaf.field) reduction_of
      (record { complex = complex; sheaf = sheaf-is }) answered.0;
  choices = answered.1;
}
  where
    K : Ops
    K = ops_of sheaf.field

    r : Reduction
    r = version_reduction sheaf slot

    own : IsAnswerIn K degrees slot query reply
    own = subst (λ f. IsAnswerIn (ops_of f) degrees slot query reply) is.field
        (subst (λ s. IsAnswerIn (ops_of s.f) degrees s query reply) e answer)

    answered : IsRightForStart K r query reply × HasSoloChoices K r query reply
    answered = own r (record { degrees_are = sym d; pairs = refl; rest = same-refl (complex_in slot.present) })
        (same-refl (complex_in slot.base))

    -- a machine with this version alone
    state : State Field
    state = record { sheaves = sheaf ∷ []; lanes = λ c. free_lane 0; pairs = λ v. Some (pairs_of slot.log) }

    reduction_of : IsReductionOf K state 0 r
    reduction_of = record {
      sheaf = sheaf;
      version = refl;
      whole = refl;
      degrees = refl;
      start = is.start;
      removed = refl;
      rest = reduction-after K (complex_in slot.base) (complex_in slot.present) (pairs_of slot.log) is.reduction;
    }

-- and so is each that is given
pub solo-answers : {E : Type 0} (p : Progress) (h : HasReduction p) (here : SlotValue Field) (degrees : ℕ) (query : Query)
    (r : Result Answer E) → Some here ≡ p.slot → degrees ≡ degree_count p.sheaf.complex.dims → IsComplex p.sheaf.complex
    → IsSheaf (ops_of p.sheaf.field) p.sheaf.complex p.sheaf.stalks p.sheaf.blocks
    → IfOk r (IsAnswerIn (ops_of here.f) degrees here query) → IfOk r (IsSoloAnswer p query)
solo-answers p h here degrees query (Err e) is d complex sheaf answer = tt
solo-answers p h here degrees query (Ok reply) is d complex sheaf answer = λ slot there field.
    answer-right p.sheaf slot here degrees query reply (same_Some here slot (is ∙ there))
    (subst (IsSheafReduction p.sheaf) (same_Some h.slot slot (sym h.there ∙ there)) h.reduction) d complex sheaf answer

-- the live cells of a start complex have degrees below the number of degrees
pub live-degrees : (sheaf : SheafData Field) (slot here : SlotValue Field) (degrees : ℕ) → here ≡ slot
    → IsSheafReduction sheaf slot → degrees ≡ degree_count sheaf.complex.dims
    → All (HasDegreeBelow degrees) here.base.live
live-degrees sheaf slot here degrees e is d =
    subst (λ s. All (HasDegreeBelow degrees) s.base.live) (sym e)
    (subst (All (HasDegreeBelow degrees)) (sym is.start.live)
    (subst (λ n. All (HasDegreeBelow n) (with_stalks (numbered_cells 0 sheaf.complex.dims sheaf.stalks))) (sym d)
    (degrees-below 0 sheaf.complex.dims sheaf.stalks)))

-- twice the coboundary is zero at the base of a reduction of a sheaf
pub base-closed : (sheaf : SheafData Field) (slot here : SlotValue Field) → here ≡ slot → IsSheafReduction sheaf slot
    → StartIsCochainComplex → IsComplex sheaf.complex
    → IsSheaf (ops_of sheaf.field) sheaf.complex sheaf.stalks sheaf.blocks
    → IsCochainComplex (ops_of here.f) (complex_of (complex_in here.base))
base-closed sheaf slot here e is law complex sheaf-is =
    let K = ops_of sheaf.field in
    let start = start_complex K sheaf.complex sheaf.stalks sheaf.blocks in
    subst (λ s. IsCochainComplex (ops_of s.f) (complex_of (complex_in s.base))) (sym e)
    (subst (λ x. IsCochainComplex (ops_of x) (complex_of (complex_in slot.base))) (sym is.field)
    (subst (IsCochainComplex K) (sym (same-complex start (complex_in slot.base) is.start))
    (law K sheaf.complex sheaf.stalks sheaf.blocks (table_is_field sheaf.field) complex sheaf-is)))

-- a question that can be asked is answered by the reduction
pub asked-answered : (sheaf : SheafData Field) (slot here : SlotValue Field) (query : Query) → here ≡ slot
    → IsSheafReduction sheaf slot → CanBeServed sheaf.complex.dims query → IsAnswered here.base.live query
asked-answered sheaf slot here queries.Betti e is can = tt
asked-answered sheaf slot here queries.Reduce e is can = tt
asked-answered sheaf slot here queries.Equiv e is can = tt
asked-answered sheaf slot here (queries.Basis k) e is can = can
asked-answered sheaf slot here (queries.Class k z) e is can = can
asked-answered sheaf slot here queries.Sections e is can = tt
asked-answered sheaf slot here (queries.Extend s v) e is can =
    subst (λ (x : SlotValue Field). has s (cells x.base.live) ≡ true → degree_of x.base.live s ≡ 0) (sym e)
    (subst (λ live. has s (cells live) ≡ true → degree_of live s ≡ 0) (sym is.start.live)
    (vertex-live sheaf.complex.dims sheaf.stalks s can))
