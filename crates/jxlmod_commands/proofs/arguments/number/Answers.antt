-- `parse` reads the digits as a number of 32 bits; what they are worth by weight is what it reads.
use Rattle.std.proofs.Common.{ℕ, List, length, ◌<◌, ◌^◌, Result, Ok, Err, rules}
use Rattle.std.specs.Int.{IsInRange}
use Rattle.std.specs.Option.{SomeIff}
use Rattle.std.specs.Prelude.{EachIndex, slice_index}
use Rattle.std.specs.Result.{OkIff, result_ok}
use Rattle.std.proofs.lemmas.Str.Parse.{IsNumeralModel, numerals_by_weight, tells_by_index, parse_digits}
use Rattle.jxlmod_commands.specs.Decimals.{IsDecimal, decimal_value}
use Rattle.jxlmod_commands.proofs.arguments.number.Goals as goal

-- each byte is a digit
abbrev IsOfDigits : List ℕ → Type 0
IsOfDigits text = EachIndex text (λ k. IsInRange 48 57 (slice_index text k))

own : IsNumeralModel IsOfDigits decimal_value
own = numerals_by_weight IsOfDigits tells_by_index decimal_value (search rules)

SomeIff-from_digits : {E : Type 0} (text : List ℕ) (r : Result ℕ E) → IsOfDigits text → OkIff r ((0 < length text) × (decimal_value text < 2 ^ 32)) (decimal_value text) → SomeIff (result_ok r) (IsDecimal text × (decimal_value text < 2 ^ 32)) (decimal_value text)
SomeIff-from_digits text (Ok n) digits read = (((read.0.0, digits), read.0.1), read.1)
SomeIff-from_digits text (Err e) digits refused = λ p. refused (p.0.0, p.1)

pub returns : goal.returns
returns c =
    let digits : IsOfDigits c.args.text.now = search rules in
    rw c.ok.ensures.value (SomeIff-from_digits c.args.text.now _ digits (parse_digits own 32 c.args.text.now _ c.parse.ensures.value.0 digits))
