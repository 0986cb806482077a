use Rattle.std.proofs.Common.{ℕ, List, subst}
use Rattle.std.proofs.lemmas.Result.{err_from_is_err_and}
use Rattle.jxl_codestream.specs.Fronts.{FrontFails}
use Rattle.jxl_codestream.proofs.front.Frames.after.Goals as goal

pub returns-in_err-profile-clause-err : goal.returns-in_err-profile-clause-err
returns-in_err-profile-clause-err g c =
    let p = err_from_is_err_and c.from_residual.result c.from_residual.ensures.1 in
    rw (p.1, p.2) (subst (λ (b : List ℕ). FrontFails g.D.Decoder.meaning c.args.limits.now b c.in_err-profile.field-0.0) c.requires.lies c.in_err-profile.ensures.err)
