use Rattle.std.proofs.Common.{ℕ, ◌≤◌, ◌<◌, ◌^◌, List, length, Option, Some, None, arith, ap, subst}
use Rattle.std.specs.Prelude.{IfSome}
use Rattle.jxl_codestream.specs.FrontParts.{bytes_if}
use Rattle.jxl_encode.specs.Codable.{IsCodableProfile}
use Rattle.jxl_picture.specs.declared.limits.Limits.{Limits}
use Rattle.jxl_png_read.specs.Files.{IsErrorOf}
use Rattle.jxlenc.proofs.source.source_of_input.Goals as goal

codable_profile : (icc : Option (List ℕ)) → IfSome icc (λ bytes. 0 < length bytes) → IfSome icc (λ bytes. length bytes ≤ 2 ^ 24) → IfSome icc IsCodableProfile
codable_profile None some within = tt
codable_profile (Some bytes) some within = (some, omega (arith, within))

pub returns-in-Ok-clause-codable : goal.returns-in-Ok-clause-codable
returns-in-Ok-clause-codable c =
    let e = c.in-Ok.ensures in
    record {
      writable = e.writable;
      supported = e.supported;
      wide = e.wide;
      high = e.high;
      want_icc = e.want_icc;
      profile = codable_profile (bytes_if c.in-Ok.image.picture.profile) e.some
          (subst (λ (n : ℕ). IfSome (bytes_if c.in-Ok.image.picture.profile) (λ bytes. length bytes ≤ n)) (ap (λ (l : Limits). l.profile) c.usual.ensures) e.within);
    }

pub unless_png-requires : goal.unless_png-requires
unless_png-requires c = subst (λ (l : Limits). IsErrorOf l c.args.input.now c.in-Err.error) c.usual.ensures c.in-Err.ensures.err
