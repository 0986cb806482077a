use Rattle.std.proofs.Common.{◌≡◌, None, Some}
use Rattle.jxldec.proofs.Written.{none_if, some_if}
use Rattle.jxldec.proofs.animation.next_shown.Goals as goal

pub returns-in-Ok-Some-clause-ok : goal.returns-in-Ok-Some-clause-ok
returns-in-Ok-Some-clause-ok c = λ limits file shown.
    let is : c.in-Ok-Some.field-0 ≡ Some c.in-Ok-Some.shown = cc in
    some_if _ _ _ _ is (c.in-Ok-Some.ensures.of_file limits file c.args.number shown)

pub returns-in-Ok-None-clause-err : goal.returns-in-Ok-None-clause-err
returns-in-Ok-None-clause-err c = λ limits file shown counted.
    let is : c.in-Ok-None.field-0 ≡ None = cc in
    (none_if _ _ _ is (c.in-Ok-None.ensures.of_file limits file c.args.number shown), counted)

pub returns-in-Err-clause-err : goal.returns-in-Err-clause-err
returns-in-Err-clause-err c = λ limits file shown counted. (c.args.number, c.in-Err.ensures.of_file limits file c.args.number shown)
