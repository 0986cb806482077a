use Rattle.std.proofs.Common.{◌≡◌, ◌<◌, ◌^◌, ℤ, pos, ◌*ℤ◌, unsigned_abs, FitsSigned, ap, ◌∙◌, refl, arith, rules, to_z, negsuc}
use Rattle.std.specs.Prelude.{sum}
use Rattle.std.specs.Int.{w64, int_shr}
use Rattle.std.proofs.lemmas.Int.{to_z-of_z, to_z_pos, fits_signed_from_abs}
use Rattle.jxlm_weighted.specs.Correcting.{counts_of}
use Rattle.jxlm_weighted.specs.SelfCorrecting.{reciprocal}
use Rattle.jxlm_weighted.proofs.Ranges.{product}
use Rattle.jxlm_weighted.proofs.self_correcting.SubPredictions.weighted.Goals as goal

shr_within : (a : ℤ) → unsigned_abs a < 2 ^ 63 → unsigned_abs (int_shr a 24) < 2 ^ 63
shr_within (pos n) h = omega arith
shr_within (negsuc n) h = omega arith

pub overflow_mul-result : goal.overflow_mul-result
overflow_mul-result c =
    let f : FitsSigned w64 c.sum.result = search rules in
    let t = c.total.ensures in
    let l = c.requires.least in
    let u = c.requires.greatest in
    let re : c.reciprocal-reciprocal.result ≡ reciprocal (sum (counts_of c.args.weights.now)) = c.reciprocal-reciprocal.ensures ∙ ap reciprocal c.total.ensures in
    let e0 : to_z w64 c.reciprocal-reciprocal.result ≡ pos c.reciprocal-reciprocal.result = to_z_pos w64 _ (rw re (omega arith)) in
    let p : unsigned_abs (c.sum.result *ℤ pos c.reciprocal-reciprocal.result) < 2 ^ 63 = rw re (product c.sum.result (sum (counts_of c.args.weights.now)) c.sum.ensures.bound l) in
    let g : FitsSigned w64 (c.sum.result *ℤ pos c.reciprocal-reciprocal.result) = fits_signed_from_abs w64 _ p in
    rw (to_z-of_z w64 c.sum.result f, e0) g

pub returns-clause-value : goal.returns-clause-value
returns-clause-value c =
    let f : FitsSigned w64 c.sum.result = search rules in
    let t = c.total.ensures in
    let l = c.requires.least in
    let u = c.requires.greatest in
    let re : c.reciprocal-reciprocal.result ≡ reciprocal (sum (counts_of c.args.weights.now)) = c.reciprocal-reciprocal.ensures ∙ ap reciprocal c.total.ensures in
    let e0 : to_z w64 c.reciprocal-reciprocal.result ≡ pos c.reciprocal-reciprocal.result = to_z_pos w64 _ (rw re (omega arith)) in
    let p : unsigned_abs (c.sum.result *ℤ pos c.reciprocal-reciprocal.result) < 2 ^ 63 = rw re (product c.sum.result (sum (counts_of c.args.weights.now)) c.sum.ensures.bound l) in
    let g : FitsSigned w64 (c.sum.result *ℤ pos c.reciprocal-reciprocal.result) = fits_signed_from_abs w64 _ p in
    let h : FitsSigned w64 (int_shr (c.sum.result *ℤ pos c.reciprocal-reciprocal.result) 24) = fits_signed_from_abs w64 _ (shr_within (c.sum.result *ℤ pos c.reciprocal-reciprocal.result) p) in
    simp (to_z-of_z, e0) (rw (re, c.sum.ensures.value) refl)
