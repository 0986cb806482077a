use Rattle.std.proofs.Common.{◌≡◌, ℕ, List, length, refl, ap, ◌∙◌, arith}
use Rattle.jxl_lossless.specs.Files.{profile_of}
use Rattle.jxl_c.specs.Headers.{profile_bytes}
use Rattle.jxl_c.proofs.Decodings.{other_profile, profile_by}
use Rattle.jxl_c.proofs.profile.jxl_lossless_profile.Goals as goal

pub returns-then-profile-icc-clause-count : goal.returns-then-profile-icc-clause-count
returns-then-profile-icc-clause-count c = λ _.
    let long : length c.icc_of-icc.result.now ≡ length (profile_bytes (profile_of c.in-Ok.read)) = ap (λ (bs : List ℕ). length bs) c.icc_of-icc.ensures in
    other_profile c.args.limits.now c.args.file.now c.in-Ok.read c.in-Ok.ensures.ok (profile_of c.in-Ok.read) (length c.args.profile.now) refl (λ e. omega (arith, e, c.if-profile-icc.true, long))

pub returns-clause-done : goal.returns-clause-done
returns-clause-done c = λ _.
    profile_by c.args.limits.now c.args.file.now c.in-Ok.read c.in-Ok.ensures.ok (profile_of c.in-Ok.read) c.copy_from_slice.new.self refl (c.copy_from_slice.ensures.after ∙ c.icc_of-icc.ensures)
