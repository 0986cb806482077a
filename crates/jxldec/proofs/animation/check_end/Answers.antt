use Rattle.std.proofs.Common.{◌≡◌, None}
use Rattle.jxldec.proofs.Written.{none_if}
use Rattle.jxldec.proofs.animation.check_end.Goals as goal

pub returns-in-Ok-None-clause-ok : goal.returns-in-Ok-None-clause-ok
returns-in-Ok-None-clause-ok c = λ limits file number shown.
    let is : c.in-Ok-None.field-0 ≡ None = cc in
    none_if _ _ _ is (c.in-Ok-None.ensures.of_file limits file number shown)

pub returns-clause-err : goal.returns-clause-err
returns-clause-err c = λ limits file number shown. (number, c.in-Err.ensures.of_file limits file number shown)
