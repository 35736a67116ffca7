use Rattle.std.proofs.Common.{◌≡◌, ℕ, ◌<◌, List, length, get_or, set, refl, sym, ap, ◌∙◌, arith}
use Rattle.std.proofs.lemmas.List.Elements.{All-set}
use Rattle.dense_blocks.specs.Field.{Ops}
use Rattle.dense_blocks.specs.FieldLaws.{IsField}
use Rattle.dense_blocks.specs.Vectors.{plus, multiple}
use Rattle.dense_blocks.proofs.Shapes.{vector_of}
use Rattle.dense_blocks.proofs.RowSteps.{changed-none, plus-multiple-zero, add_scaled-next, add_scaled-all}
use Rattle.dense_blocks.proofs.scalars.Scalars.add_scaled.Goals as goal

pub loop-i-init : goal.loop-i-init
loop-i-init g c =
    let K : Ops = g.Self.Scalars.ops c.args.self.now in
    record {
      now = sym (changed-none (plus K c.args.target.now (multiple K c.args.k c.args.row.now)) c.args.target.now);
      scalars = c.requires.target_scalars;
    }

pub loop-i-preserved : goal.loop-i-preserved
loop-i-preserved g c =
    let K : Ops = g.Self.Scalars.ops c.args.self.now in
    let h : IsField K = g.met.Self.Scalars.is_field c.args.self.now in
    let i : ℕ = c.loop-i.i in
    let target : List ℕ = c.loop-i.target in
    let row : List ℕ = c.args.row.now in
    let value : c.add.result ≡ K.add (get_or target i 0) (K.mul c.args.k (get_or row i 0)) = c.add.ensures
    ∙ ap (K.add (get_or target i 0)) c.mul.ensures in
    record {
      now = ap (set target i) value
          ∙ add_scaled-next K c.args.k i target c.args.target.now row (get_or target i 0) (get_or row i 0)
          c.requires.sizes (omega arith) c.loop-i.invariant.now refl refl;
      scalars = All-set (λ a. a < K.order) target i c.add.result
          (omega (arith, value, h.add_below (get_or target i 0) (K.mul c.args.k (get_or row i 0))))
          c.loop-i.invariant.scalars;
    }

pub returns-clause-sum : goal.returns-clause-sum
returns-clause-sum g c =
    let K : Ops = g.Self.Scalars.ops c.args.self.now in
    add_scaled-all K c.args.k c.loop-i.i c.loop-i.target c.args.target.now c.args.row.now c.requires.sizes (omega arith)
    c.loop-i.invariant.now

pub returns-then-k-eq0-clause-sum : goal.returns-then-k-eq0-clause-sum
returns-then-k-eq0-clause-sum g c =
    let K : Ops = g.Self.Scalars.ops c.args.self.now in
    let h : IsField K = g.met.Self.Scalars.is_field c.args.self.now in
    let u : List ℕ = c.args.target.now in
    let row : List ℕ = c.args.row.now in
    sym (plus-multiple-zero K h (length u) u row (vector_of K (length u) u refl c.requires.target_scalars)
    (vector_of K (length u) row c.requires.sizes c.requires.row_scalars))
    ∙ ap (λ t. plus K u (multiple K t row)) (sym c.if-k-eq0.true)
