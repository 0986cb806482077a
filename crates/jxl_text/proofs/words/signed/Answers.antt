use Rattle.std.proofs.Common.{◌≡◌, ◌≢◌, ◌<◌, ◌^◌, List, ◌∷◌, length, get_or, take, drop, arith}
use Rattle.std.proofs.lemmas.Bool.Decides.{nat_tests}
use Rattle.jxl_text.proofs.Samples.{after_minus, fitted, minus_fitted, minus_none, minus_nought, plus_none}
use Rattle.jxl_text.proofs.words.signed.Goals as goal
use Rattle.jxl_text.proofs.words.signed.Goals.{then-is_empty-via-then-is_empty, then-is_empty-via-else-is_empty+then-word-ne45}

pub returns-then-is_empty : goal.returns-then-is_empty
returns-then-is_empty c = rw c.ok.ensures.value (fitted c.args.word.now _ c.try_from.result c.in_ok-natural.ensures (omega arith) c.try_from.ensures)

pub returns-in_err-number : goal.returns-in_err-number
returns-in_err-number c =
    let some : 0 < length c.args.word.now = grind (arith, nat_tests) in
    rw c.from_residual-in_err-number.ensures (minus_none c.args.word.now _ (after_minus c.args.word.now some c.if-word-ne45.false) c.in_err-number.ensures)

pub returns-then-number-eq0 : goal.returns-then-number-eq0
returns-then-number-eq0 c =
    let some : 0 < length c.args.word.now = grind (arith, nat_tests) in
    minus_nought c.args.word.now _ (after_minus c.args.word.now some c.if-word-ne45.false) (rw c.if-number-eq0.true at c.in_ok-number.ensures)

pub returns : goal.returns
returns c =
    let some : 0 < length c.args.word.now = grind (arith, nat_tests) in
    rw c.ok-2.ensures.value (minus_fitted c.args.word.now _ c.in_ok-number.number c.from.result c.try_from-2.result (after_minus c.args.word.now some c.if-word-ne45.false) c.in_ok-number.ensures c.if-number-eq0.false (omega arith) c.from.ensures c.try_from-2.ensures)
