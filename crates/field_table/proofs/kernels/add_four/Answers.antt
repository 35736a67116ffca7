use Rattle.std.proofs.Common.{◌≡◌, ℕ, ◌+◌, ◌*◌, ◌%◌, ◌<◌, ◌≤◌, List, length, get_or, set, take, drop, sym, ap, ap₂, ◌∙◌}
use Rattle.std.proofs.Common.{refl, subst, arith}
use Rattle.std.proofs.lemmas.Nat.{mul-le}
use Rattle.std.proofs.lemmas.List.{take_all}
use Rattle.std.proofs.lemmas.List.Elements.{All-take, All-drop}
use Rattle.std.proofs.Math.Nat.{mod-eq_of_lt}
use Rattle.std.specs.Cmp.Lexicographic.{same_text}
use Rattle.dense_blocks.specs.Vectors.{AllScalars, zeros}
use Rattle.dense_blocks.proofs.RowSteps.{changed-none, changed-next, changed-at, changed-all, changed}
use Rattle.field_table.specs.Modular.{modulo}
use Rattle.field_table.specs.ModularFacts.{plus_rows}
use Rattle.field_table.proofs.RowSums.{plus_rows-none, plus_rows-scalars, plus_rows-size, plus_rows-at, whole_at}
use Rattle.field_table.proofs.RowSums.{four_entries}
use Rattle.field_table.proofs.kernels.add_four.Given.{Over}
use Rattle.field_table.proofs.kernels.add_four.Goals.{In-loop-i}
use Rattle.field_table.proofs.kernels.add_four.Goals as goal

pub returns-then-eq-clause-sum : goal.returns-then-eq-clause-sum
returns-then-eq-clause-sum g c =
    let q : ℕ = g.row.Q in
    let n : ℕ = length c.args.target.now in
    let none : c.args.coefficients.now ≡ zeros 4 =
    same_text c.args.coefficients.now c.as_slice.result.now (sym c.if-eq.true ∙ c.eq.ensures) ∙ c.as_slice.ensures in
    sym (ap (λ cs. plus_rows (modulo q) n c.args.target.now cs c.args.rows.now) none
    ∙ plus_rows-none q n 4 c.args.target.now c.args.rows.now c.requires.target_scalars refl c.requires.full)

-- what stands at i: the four rows, one after another, and the bounds of the entry and of the products
record Known (q n i : ℕ) (start target cs rows r0 r1 r2 r3 : List ℕ) : Type 0 where
  pub entry : get_or target i 0 ≡ get_or start i 0
  pub row0 : r0 ≡ take n rows
  pub row1 : r1 ≡ take n (drop n rows)
  pub row2 : r2 ≡ take n (drop n (drop n rows))
  pub row3 : r3 ≡ take n (drop n (drop n (drop n rows)))
  pub below : get_or target i 0 < 128
  pub product0 : get_or cs 0 0 * get_or r0 i 0 ≤ 16129
  pub product1 : get_or cs 1 0 * get_or r1 i 0 ≤ 16129
  pub product2 : get_or cs 2 0 * get_or r2 i 0 ≤ 16129
  pub product3 : get_or cs 3 0 * get_or r3 i 0 ≤ 16129

product-small : (q : ℕ) → q ≤ 128 → (cs row : List ℕ) (j i : ℕ) → AllScalars (modulo q) cs → AllScalars (modulo q) row
    → j < length cs → i < length row → get_or cs j 0 * get_or row i 0 ≤ 16129
product-small q high cs row j i hc hr lc lr =
    let k : get_or cs j 0 < q = hc j 0 lc in
    let a : get_or row i 0 < q = hr i 0 lr in
    mul-le (get_or cs j 0) (get_or row i 0) 127 127 (omega arith) (omega arith)

known : (g : Over) (c : In-loop-i g)
    → Known g.row.Q (length c.args.target.now) c.loop-i.i c.args.target.now c.loop-i.target c.args.coefficients.now
    c.args.rows.now c.split_at.result.0.now c.split_at-2.result.0.now c.split_at-3.result.0.now
    c.split_at-3.result.1.now
known g c =
    let q : ℕ = g.row.Q in
    let n : ℕ = length c.args.target.now in
    let i : ℕ = c.loop-i.i in
    let start : List ℕ = c.args.target.now in
    let cs : List ℕ = c.args.coefficients.now in
    let rows : List ℕ = c.args.rows.now in
    let scalars : AllScalars (modulo q) rows = c.requires.row_scalars in
    let rest1 : c.split_at.result.1.now ≡ drop n rows = c.split_at.ensures.back in
    let rest2 : c.split_at-2.result.1.now ≡ drop n (drop n rows) = c.split_at-2.ensures.back ∙ ap (drop n) rest1 in
    let rest3 : c.split_at-3.result.1.now ≡ drop n (drop n (drop n rows)) = c.split_at-3.ensures.back
    ∙ ap (drop n) rest2 in
    let last : length c.split_at-3.result.1.now ≡ n = omega (
      arith,
      c.split_at.ensures.back_len,
      c.split_at-2.ensures.back_len,
      c.split_at-3.ensures.back_len,
      c.requires.full,
    ) in
    let entry : get_or c.loop-i.target i 0 ≡ get_or start i 0 =
    ap (λ t. get_or t i 0) c.loop-i.invariant ∙ changed-at i (plus_rows (modulo q) n start cs rows) start in
    let row0 : c.split_at.result.0.now ≡ take n rows = c.split_at.ensures.front in
    let row1 : c.split_at-2.result.0.now ≡ take n (drop n rows) = c.split_at-2.ensures.front ∙ ap (take n) rest1 in
    let row2 : c.split_at-3.result.0.now ≡ take n (drop n (drop n rows)) = c.split_at-3.ensures.front
    ∙ ap (take n) rest2 in
    let row3 : c.split_at-3.result.1.now ≡ take n (drop n (drop n (drop n rows))) =
    sym (take_all n c.split_at-3.result.1.now (omega (arith, last))) ∙ ap (take n) rest3 in
    let small : (j : ℕ) (row all : List ℕ) → j < 4 → row ≡ take n all → AllScalars (modulo q) all → length row ≡ n
    → get_or cs j 0 * get_or row i 0 ≤ 16129 =
    λ j row all l is h size.
    product-small q c.requires.high cs row j i c.requires.coefficient_scalars
    (subst (AllScalars (modulo q)) (sym is) (All-take (λ a. a < q) n all h))
    (omega (arith, c.requires.four)) (omega (arith, size, c.loop-i-test.true)) in
    record {
      entry = entry;
      row0 = row0;
      row1 = row1;
      row2 = row2;
      row3 = row3;
      below = omega (arith, entry, c.requires.target_scalars i 0 c.loop-i-test.true, c.requires.high);
      product0 = small 0 c.split_at.result.0.now rows (omega arith) row0 scalars c.split_at.ensures.front_len;
      product1 = small 1 c.split_at-2.result.0.now (drop n rows) (omega arith) row1
          (All-drop (λ a. a < q) n rows scalars) c.split_at-2.ensures.front_len;
      product2 = small 2 c.split_at-3.result.0.now (drop n (drop n rows)) (omega arith) row2
          (All-drop (λ a. a < q) n (drop n rows) (All-drop (λ a. a < q) n rows scalars))
          c.split_at-3.ensures.front_len;
      product3 = small 3 c.split_at-3.result.1.now (drop n (drop n (drop n rows))) (omega arith) row3
          (All-drop (λ a. a < q) n (drop n (drop n rows))
          (All-drop (λ a. a < q) n (drop n rows) (All-drop (λ a. a < q) n rows scalars))) last;
    }

pub loop-i-init : goal.loop-i-init
loop-i-init g c = sym (changed-none (plus_rows (modulo g.row.Q) (length c.args.target.now) c.args.target.now
    c.args.coefficients.now c.args.rows.now) c.args.target.now)

pub overflow_add-sum-in-loop-i : goal.overflow_add-sum-in-loop-i
overflow_add-sum-in-loop-i g c =
    let k = known g (goal.at.overflow_add-sum-in-loop-i g c).In-loop-i in
    omega (
      arith,
      c.from.ensures,
      k.below,
      ap₂ (λ x y. x * y) c.from-k0.ensures c.from-in-loop-i.ensures,
      k.product0,
      ap₂ (λ x y. x * y) c.from-k1.ensures c.from-in-loop-i-2.ensures,
      k.product1,
    )

pub overflow_add-sum-in-loop-i-2 : goal.overflow_add-sum-in-loop-i-2
overflow_add-sum-in-loop-i-2 g c =
    let k = known g (goal.at.overflow_add-sum-in-loop-i-2 g c).In-loop-i in
    omega (
      arith,
      c.from.ensures,
      k.below,
      ap₂ (λ x y. x * y) c.from-k0.ensures c.from-in-loop-i.ensures,
      k.product0,
      ap₂ (λ x y. x * y) c.from-k1.ensures c.from-in-loop-i-2.ensures,
      k.product1,
      ap₂ (λ x y. x * y) c.from-k2.ensures c.from-in-loop-i-3.ensures,
      k.product2,
    )

pub overflow_add-sum-in-loop-i-3 : goal.overflow_add-sum-in-loop-i-3
overflow_add-sum-in-loop-i-3 g c =
    let k = known g (goal.at.overflow_add-sum-in-loop-i-3 g c).In-loop-i in
    omega (
      arith,
      c.from.ensures,
      k.below,
      ap₂ (λ x y. x * y) c.from-k0.ensures c.from-in-loop-i.ensures,
      k.product0,
      ap₂ (λ x y. x * y) c.from-k1.ensures c.from-in-loop-i-2.ensures,
      k.product1,
      ap₂ (λ x y. x * y) c.from-k2.ensures c.from-in-loop-i-3.ensures,
      k.product2,
      ap₂ (λ x y. x * y) c.from-k3.ensures c.from-in-loop-i-4.ensures,
      k.product3,
    )

pub loop-i-preserved : goal.loop-i-preserved
loop-i-preserved g c =
    let q : ℕ = g.row.Q in
    let n : ℕ = length c.args.target.now in
    let i : ℕ = c.loop-i.i in
    let start : List ℕ = c.args.target.now in
    let cs : List ℕ = c.args.coefficients.now in
    let rows : List ℕ = c.args.rows.now in
    let whole : List ℕ = plus_rows (modulo q) n start cs rows in
    let k = known g (goal.at.loop-i-preserved g c).In-loop-i in
    let size : length rows ≡ length cs * n = c.requires.full ∙ ap (λ m. m * n) (sym c.requires.four) in
    let t : ℕ = get_or start i 0 in
    let sum : ℕ = (((c.from.result + c.from-k0.result * c.from-in-loop-i.result)
    + c.from-k1.result * c.from-in-loop-i-2.result)
    + c.from-k2.result * c.from-in-loop-i-3.result)
    + c.from-k3.result * c.from-in-loop-i-4.result in
    let is : sum ≡ whole_at n i t cs rows =
    ap₂ (λ x y. x + y)
    (ap₂ (λ x y. x + y)
    (ap₂ (λ x y. x + y)
    (ap₂ (λ x y. x + y) (c.from.ensures ∙ k.entry)
    (ap₂ (λ x y. x * y) c.from-k0.ensures (c.from-in-loop-i.ensures ∙ ap (λ r. get_or r i 0) k.row0)))
    (ap₂ (λ x y. x * y) c.from-k1.ensures (c.from-in-loop-i-2.ensures ∙ ap (λ r. get_or r i 0) k.row1)))
    (ap₂ (λ x y. x * y) c.from-k2.ensures (c.from-in-loop-i-3.ensures ∙ ap (λ r. get_or r i 0) k.row2)))
    (ap₂ (λ x y. x * y) c.from-k3.ensures (c.from-in-loop-i-4.ensures ∙ ap (λ r. get_or r i 0) k.row3))
    ∙ sym (ap (λ ks. whole_at n i t ks rows) (four_entries cs c.requires.four)) in
    let value : sum % q ≡ get_or whole i 0 =
    ap (λ s. s % q) is
    ∙ sym (plus_rows-at q n i t start cs rows refl size c.loop-i-test.true
    (sym (mod-eq_of_lt (c.requires.target_scalars i 0 c.loop-i-test.true)))) in
    ap (λ xs. set xs i (sum % q)) c.loop-i.invariant
    ∙ changed-next i whole start (sum % q) (plus_rows-size q n start cs rows refl size) c.loop-i-test.true value

pub returns : goal.returns
returns g c =
    let q : ℕ = g.row.Q in
    let n : ℕ = length c.args.target.now in
    let whole : List ℕ = plus_rows (modulo q) n c.args.target.now c.args.coefficients.now c.args.rows.now in
    let size : length c.args.rows.now ≡ length c.args.coefficients.now * n =
    c.requires.full ∙ ap (λ m. m * n) (sym c.requires.four) in
    let sum : c.loop-i.target ≡ whole = c.loop-i.invariant
    ∙ ap (λ i. changed i whole c.args.target.now) (omega arith)
    ∙ changed-all whole c.args.target.now
    (plus_rows-size q n c.args.target.now c.args.coefficients.now c.args.rows.now refl size) in
    record {
      sum = sum;
      scalars = subst (AllScalars (modulo q)) (sym sum)
          (plus_rows-scalars q n (omega arith) c.args.target.now c.args.coefficients.now c.args.rows.now
          c.requires.target_scalars);
    }
