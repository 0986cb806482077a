use Rattle.std.proofs.Common.{◌∙◌, map, ℤ, arith, ◌<◌, FitsSigned}
use Rattle.std.specs.Int.{w16}
use Rattle.std.proofs.lemmas.List.{length-map}
use Rattle.std.proofs.lemmas.Int.{ints}
use Rattle.jxlm_lanes.specs.Inner.Lanes.{of_z}
use Rattle.jxlm_lanes.proofs.Each.{Each1-map}
use Rattle.jxlm_lanes.proofs.Digits.{recast_back}
use Rattle.jxlm_lanes.proofs.lanes.unsigned.Goals as goal

pub returns : goal.returns
returns c = recast_back (map (of_z w16) c.args.a) (length-map c.args.a (of_z w16) ∙ c.requires.len) (Each1-map (FitsSigned w16) (λ x. x < 65536) (of_z w16) (λ (z : ℤ) fits. omega (arith, ints)) c.args.a c.requires.fit)
