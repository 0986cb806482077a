use Rattle.std.proofs.Common.{ap, sym, map, subst, w16, to_z, FitsSigned}
use Rattle.std.proofs.lemmas.Simd.{below_from_Fits}
use lib.Lanes.{Each1}
use Rattle.jxlm_lanes.proofs.Each.{Each1-signed}
use Rattle.jxlm_lanes.proofs.Digits.{recast_back}
use Rattle.jxlm_lanes.proofs.lanes.signed.Goals as goal

pub returns-clause-fit : goal.returns-clause-fit
returns-clause-fit c =
    let b = below_from_Fits w16 c.args.a c.fits-a.1 in
    subst (Each1 (FitsSigned w16)) (sym (ap (map (to_z w16)) (recast_back c.args.a c.requires b))) (Each1-signed c.args.a b)

pub returns-clause-value : goal.returns-clause-value
returns-clause-value c = ap (map (to_z w16)) (recast_back c.args.a c.requires (below_from_Fits w16 c.args.a c.fits-a.1))
