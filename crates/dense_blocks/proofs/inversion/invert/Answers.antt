use Rattle.std.proofs.Common.{◌≡◌, ℕ, ◌*◌, List, length, sym, ap, ◌∙◌, subst}
use Rattle.dense_blocks.specs.Field.{Ops}
use Rattle.dense_blocks.specs.FieldLaws.{IsField}
use Rattle.dense_blocks.specs.Vectors.{AllScalars}
use Rattle.dense_blocks.specs.Matrices.{cut}
use Rattle.dense_blocks.specs.declared.block.Block.{Block}
use Rattle.dense_blocks.proofs.ClearingLaws.{cleared-scalars}
use Rattle.dense_blocks.proofs.InvertingSteps.{refilled, joined-scalars, block-inverse, block-kernel}
use Rattle.dense_blocks.proofs.inversion.invert.Goals as goal

pub eliminate-requires-clause-scalars : goal.eliminate-requires-clause-scalars
eliminate-requires-clause-scalars g c =
    let K : Ops = g.F.Scalars.ops c.args.f.now in
    let h : IsField K = g.met.F.Scalars.is_field c.args.f.now in
    let same : c.as_mut_slice.result.now ≡ c.in_ok-beside_identity.field-0 = c.as_mut_slice.ensures.value
    ∙ c.into_items-joined.ensures in
    subst (AllScalars K) (sym same)
    (joined-scalars K h c.args.a.now c.requires.square c.requires.scalars c.in_ok-beside_identity.field-0
    c.in_ok-beside_identity.ensures.full c.in_ok-beside_identity.ensures.matrix)

pub returns-in-None : goal.returns-in-None
returns-in-None g c =
    let K : Ops = g.F.Scalars.ops c.args.f.now in
    let h : IsField K = g.met.F.Scalars.is_field c.args.f.now in
    let a : Block = c.args.a.now in
    let start : List ℕ = c.as_mut_slice.result.now in
    let rows : List ℕ = c.eliminate.new.rows in
    let same : start ≡ c.in_ok-beside_identity.field-0 = c.as_mut_slice.ensures.value ∙ c.into_items-joined.ensures in
    block-inverse K h a c.requires.square c.requires.scalars c.in_ok-right_half-in-None.field-0 start rows
    c.as_slice.result.now
    (ap (cut a.rows (2 * a.rows)) same ∙ c.in_ok-beside_identity.ensures.matrix)
    c.in-None.ensures
    (c.as_slice.ensures ∙ refilled c.into_items-joined.result.items rows (c.eliminate.auto.rows
    ∙ ap length c.as_mut_slice.ensures.value))
    c.in_ok-right_half-in-None.ensures

pub kernel_vector-requires-clause-scalars : goal.kernel_vector-requires-clause-scalars
kernel_vector-requires-clause-scalars g c =
    let K : Ops = g.F.Scalars.ops c.args.f.now in
    let a : Block = c.args.a.now in
    let start : List ℕ = c.as_mut_slice.result.now in
    let rows : List ℕ = c.eliminate.new.rows in
    let same : start ≡ c.in_ok-beside_identity.field-0 = c.as_mut_slice.ensures.value ∙ c.into_items-joined.ensures in
    subst (AllScalars K)
    (sym (c.as_slice-in-Some.ensures ∙ refilled c.into_items-joined.result.items rows (c.eliminate.auto.rows
    ∙ ap length c.as_mut_slice.ensures.value)))
    (cleared-scalars K a.rows c.in-Some.column (cut a.rows (2 * a.rows) start) rows
    (c.eliminate.auto.rows ∙ ap length same ∙ c.in_ok-beside_identity.ensures.full) c.in-Some.ensures.so_far)

pub returns : goal.returns
returns g c =
    let K : Ops = g.F.Scalars.ops c.args.f.now in
    let h : IsField K = g.met.F.Scalars.is_field c.args.f.now in
    let a : Block = c.args.a.now in
    let start : List ℕ = c.as_mut_slice.result.now in
    let rows : List ℕ = c.eliminate.new.rows in
    let same : start ≡ c.in_ok-beside_identity.field-0 = c.as_mut_slice.ensures.value ∙ c.into_items-joined.ensures in
    block-kernel K h a c.requires.square c.requires.scalars c.in-Some.column start rows c.as_slice-in-Some.result.now
    c.in_ok-kernel_vector-in-Some.field-0.items
    (ap (cut a.rows (2 * a.rows)) same ∙ c.in_ok-beside_identity.ensures.matrix)
    c.in-Some.ensures
    (c.as_slice-in-Some.ensures ∙ refilled c.into_items-joined.result.items rows (c.eliminate.auto.rows
    ∙ ap length c.as_mut_slice.ensures.value))
    c.in_ok-kernel_vector-in-Some.ensures
