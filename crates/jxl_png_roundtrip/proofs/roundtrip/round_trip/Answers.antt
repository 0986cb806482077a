use Rattle.std.proofs.Common.{ℕ, List, inr, subst}
use Rattle.std.proofs.lemmas.Result.{err_from_is_err_and}
use Rattle.jxl_png_read.specs.Files.{IsErrorOf}
use Rattle.jxl_png_roundtrip.proofs.roundtrip.round_trip.Goals as goal

pub returns-in_err-image-clause-err : goal.returns-in_err-image-clause-err
returns-in_err-image-clause-err c =
    let p = err_from_is_err_and c.from_residual-in_err-image.result c.from_residual-in_err-image.ensures.1 in
    let fails = subst (λ (bytes : List ℕ). IsErrorOf c.args.limits.now bytes c.in_err-image.field-0.0) c.deref.ensures.value c.in_err-image.ensures.err in
    rw (p.1, p.2) (inr (c.in_ok-file.file.items, c.in_ok-file.ensures.ok, fails))
