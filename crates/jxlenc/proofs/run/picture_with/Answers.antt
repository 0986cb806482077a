use Rattle.std.proofs.Common.{ℕ, List, Bool, Option, ap, subst}
use Rattle.std.specs.Global.{Vec}
use Rattle.jxl_codestream.specs.FrontParts.{bytes_if}
use Rattle.jxlenc.specs.Profiles.{ProfileErrs}
use Rattle.jxlenc.proofs.run.picture_with.Goals as goal

pub returns-in-Err-clause-err : goal.returns-in-Err-clause-err
returns-in-Err-clause-err c =
    let icc = c.in-Some.icc in
    let errs = subst (λ (bytes : List ℕ). ProfileErrs c.is_grey.result bytes c.in-Err.error) c.deref.ensures.value c.in-Err.ensures.err in
    (icc.items, ap (λ (o : Option (Vec ℕ)). bytes_if o) c.in-Some.is, subst (λ (grey : Bool). ProfileErrs grey icc.items c.in-Err.error) c.is_grey.ensures errs)
