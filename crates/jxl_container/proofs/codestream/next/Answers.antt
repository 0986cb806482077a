use Rattle.std.proofs.Common.{◌∙◌, sym}
use Rattle.std.proofs.lemmas.Result.{err_from_is_err_and}
use Rattle.jxl_container.proofs.Faults.{fault-is, outside-faults, if-in-file}
use Rattle.jxl_container.proofs.codestream.next.Goals as goal

pub returns-in_err-found-clause-err : goal.returns-in_err-found-clause-err
returns-in_err-found-clause-err c =
    let p = err_from_is_err_and c.from_residual.result c.from_residual.ensures.1 in
    rw (p.1, p.2) (λ boxes seen. outside-faults c.args.file.now boxes _ c.in_err-found.field-0.0 (sym c.in_err-found.ensures.gives))

pub returns-in_err-seen-clause-err : goal.returns-in_err-seen-clause-err
returns-in_err-seen-clause-err c =
    let b = c.in_ok-found.found in
    let bytes = c.args.file.now in
    let p = err_from_is_err_and c.from_residual-in_err-seen.result c.from_residual-in_err-seen.ensures.1 in
    let lies = if-in-file bytes _ b (sym c.in_ok-found.ensures.gives) in
    let within = c.in_ok-found.ensures.whole in
    rw (p.1, p.2) (λ boxes seen. rw lies at (fault-is bytes boxes b within.1 within.2 ∙ rw seen at c.in_err-seen.ensures.gives))

pub returns-clause-fits : goal.returns-clause-fits
returns-clause-fits c = λ boxes seen.
    let within = c.in_ok-found.ensures.whole in
    fault-is c.args.file.now boxes c.in_ok-found.found within.1 within.2 ∙ rw seen at c.in_ok-seen.ensures.gives.0
