use Rattle.std.proofs.Common.{◌≡◌, ◌+◌, ◌*◌, ◌^◌, ◌<◌, ◌≤◌, ℕ, List, length, get_or, take, sym, ap, ◌∙◌, subst, arith, rules, Ok, Err}
use Rattle.std.specs.Prelude.{Result, MatchOption}
use Rattle.std.specs.Result.{OkIff, result_ok}
use Rattle.std.specs.Fmt.{decimal}
use Rattle.std.specs.Int.{IsInRange}
use Rattle.std.specs.Str.Parse.{AllDigits, digits_value}
use Rattle.std.proofs.lemmas.Bool.Decides.{nat_tests}
use Rattle.std.proofs.lemmas.List.{take_all}
use Rattle.jxl_text.specs.Inner.Words.{WritesNoNumber}
use Rattle.jxl_text.proofs.Decimals.{none_empty, none_long, none_led, none_other, none_large, writes, writes_nought, room, more_digits, more_value}
use Rattle.jxl_text.proofs.words.natural.Goals as goal
use Rattle.jxl_text.proofs.words.natural.Goals.{then-is_empty-via-then-is_empty, then-is_empty-via-else-is_empty+then-word-gt10}

pub returns-then-is_empty : goal.returns-then-is_empty
returns-then-is_empty c =
    elim c.then-is_empty.branch [
      | then-is_empty-via-then-is_empty w ↦ let empty : length c.args.word.now ≡ 0 = grind (arith, nat_tests) in none_empty c.args.word.now empty
      | then-is_empty-via-else-is_empty+then-word-gt10 w ↦ none_long c.args.word.now w.if-word-gt10.true
    ]

pub returns-then-word-eq1 : goal.returns-then-word-eq1
returns-then-word-eq1 c = writes_nought c.args.word.now c.if-word-eq1.true c.if-word-eq48.true

pub returns-else-word-eq1 : goal.returns-else-word-eq1
returns-else-word-eq1 c =
    let some : 0 < length c.args.word.now = grind (arith, nat_tests) in
    none_led c.args.word.now c.if-word-eq48.true (omega (arith, c.if-word-eq1.false))

pub returns-then-not-is_ascii_digit : goal.returns-then-not-is_ascii_digit
returns-then-not-is_ascii_digit c =
    none_other c.args.word.now c.loop-digit.digit-index c.loop-digit-test.true (λ within. grind (arith, within, c.if-not-is_ascii_digit.ensures.cases))

in_range : (c : goal.After-from) → IsInRange 48 57 (get_or c.args.word.now c.loop-digit.digit-index 0)
in_range c = c.if-not-is_ascii_digit.ensures.cases

pub overflow_mul-value : goal.overflow_mul-value
overflow_mul-value c =
    let small = room c.args.word.now c.loop-digit.digit-index c.loop-digit-test.true c.if-word-gt10.false c.loop-digit.invariant.digits in
    omega (arith, c.loop-digit.invariant.value)

pub overflow_add-value : goal.overflow_add-value
overflow_add-value c =
    let small = room c.args.word.now c.loop-digit.digit-index c.loop-digit-test.true c.if-word-gt10.false c.loop-digit.invariant.digits in
    let within = in_range c in
    omega (arith, c.loop-digit.invariant.value, c.from.ensures)

pub loop-digit-preserved : goal.loop-digit-preserved
loop-digit-preserved c = record {
  digits = more_digits c.args.word.now c.loop-digit.digit-index c.loop-digit-test.true c.loop-digit.invariant.digits (in_range c);
  value = omega (arith, c.loop-digit.invariant.value, c.from.ensures, more_value c.args.word.now c.loop-digit.digit-index c.loop-digit-test.true (in_range c));
}

-- the number of the digits, where it fits
gives : {E : Type 0} (word : List ℕ) (value : ℕ) (r : Result ℕ E) → word ≡ decimal value → value ≡ digits_value 10 word → OkIff r (value < 2 ^ 32) value → MatchOption (result_ok r) (WritesNoNumber word) (λ n. word ≡ decimal n)
gives word value (Ok n) is same made = is ∙ ap decimal (sym made.1)
gives word value (Err e) is same made = none_large word (omega (arith, same, made))

pub returns : goal.returns
returns c =
    let word = c.args.word.now in
    let some : 0 < length word = grind (arith, nat_tests) in
    let all : take c.loop-digit.digit-index word ≡ word = take_all c.loop-digit.digit-index word c.loop-digit-test.false in
    let digits : AllDigits 10 word = subst (AllDigits 10) all c.loop-digit.invariant.digits in
    let value : c.loop-digit.value ≡ digits_value 10 word = c.loop-digit.invariant.value ∙ ap (digits_value 10) all in
    rw c.ok.ensures.value (gives word c.loop-digit.value c.try_from.result (writes word digits some c.if-word-gt10.false c.if-word-eq48.false ∙ ap decimal (sym value)) value c.try_from.ensures)
