use Rattle.std.proofs.Common.{◌≡◌, ◌∙◌, ◌*◌, ◌+◌, ◌-◌, Some, sym, ap, take, get_or, arith}
use Rattle.std.specs.Str.Parse.{digits_value}
use Rattle.std.proofs.lemmas.Grind.{common_steps}
use Rattle.std.proofs.lemmas.Int.Digits.{digits_more}
use Rattle.sheaf_text.proofs.Numbers.{value_more, value_small, no_number, a_number}
use Rattle.sheaf_text.proofs.words.number.Goals as goal

pub returns-then-not-is_ascii_digit : goal.returns-then-not-is_ascii_digit
returns-then-not-is_ascii_digit c =
    sym (no_number c.args.word.now c.loop-b.b-index c.loop-b-test.true (sym c.if-not-is_ascii_digit.ensures.value))

pub overflow_mul-value : goal.overflow_mul-value
overflow_mul-value c = let i = c.loop-b.invariant in
    omega (arith, i.value, value_small c.args.word.now c.loop-b.b-index c.loop-b-test.true i.short i.digits)

pub overflow_add-value : goal.overflow_add-value
overflow_add-value c = let i = c.loop-b.invariant in omega (
  arith,
  i.value,
  c.type_inv.word c.loop-b.b-index,
  value_small c.args.word.now c.loop-b.b-index c.loop-b-test.true i.short i.digits,
)

pub loop-b-preserved : goal.loop-b-preserved
loop-b-preserved c = let i = c.loop-b.invariant in let e = c.if-not-is_ascii_digit.ensures in record {
  some = i.some;
  short = i.short;
  digits = digits_more 10 c.args.word.now c.loop-b.b-index c.loop-b-test.true i.digits e.bound;
  value = ap (λ n. n * 10 + (get_or c.args.word.now c.loop-b.b-index 0 - 48)) i.value
      ∙ sym (value_more c.args.word.now c.loop-b.b-index c.loop-b-test.true e.cases);
}

pub returns : goal.returns
returns c =
    let i = c.loop-b.invariant in
    let all : take c.loop-b.b-index c.args.word.now ≡ c.args.word.now = grind (arith, common_steps) in
    ap Some (i.value ∙ ap (digits_value 10) all) ∙ sym (a_number c.args.word.now i.some i.short (rw all at i.digits))
