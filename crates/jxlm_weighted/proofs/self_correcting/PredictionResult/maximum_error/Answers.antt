use Rattle.std.proofs.Common.{FitsSigned, ◌∙◌, rules}
use Rattle.std.specs.Int.{w32}
use Rattle.std.proofs.lemmas.Int.{to_z-of_z}
use Rattle.jxlm_weighted.proofs.MadeBy.{error-some, error-none}
use Rattle.jxlm_weighted.proofs.self_correcting.PredictionResult.maximum_error.Goals as goal

pub returns-in-Some : goal.returns-in-Some
returns-in-Some c = λ weights width samples made.
    let f : FitsSigned w32 c.greatest.result = search rules in
    to_z-of_z w32 c.greatest.result f ∙ c.greatest.ensures ∙ error-some weights c.in-Some.made width samples (rw c.in-Some.is at made)

pub returns-in-None : goal.returns-in-None
returns-in-None c = λ weights width samples made. error-none weights width samples (rw c.in-None.is at made)
