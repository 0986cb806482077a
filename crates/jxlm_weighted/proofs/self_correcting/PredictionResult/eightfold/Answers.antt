use Rattle.std.proofs.Common.{FitsSigned, ◌∙◌, rules}
use Rattle.std.specs.Int.{w64}
use Rattle.std.proofs.lemmas.Int.{to_z-of_z}
use Rattle.jxlm_weighted.proofs.MadeBy.{corrected-some, corrected-none}
use Rattle.jxlm_weighted.proofs.self_correcting.PredictionResult.eightfold.Goals as goal

pub returns-in-Some-clause-value : goal.returns-in-Some-clause-value
returns-in-Some-clause-value c = λ weights width samples made.
    let f : FitsSigned w64 c.in-Some.made.prediction = search rules in
    to_z-of_z w64 c.in-Some.made.prediction f ∙ corrected-some weights c.in-Some.made width samples (rw c.in-Some.is at made)

pub returns-in-None-clause-value : goal.returns-in-None-clause-value
returns-in-None-clause-value c = λ weights width samples made. corrected-none weights width samples (rw c.in-None.is at made)
