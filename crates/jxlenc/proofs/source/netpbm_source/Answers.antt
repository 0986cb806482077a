use Rattle.std.proofs.Common.{ℕ, Option, ap, sym, subst, ◌∙◌, inr, refl}
use Rattle.std.specs.Prelude.{IfSome, is_some}
use Rattle.std.specs.Global.{Vec}
use Rattle.jxl_codestream.specs.FrontParts.{bytes_if}
use Rattle.jxl_encode.specs.Codable.{IsCodableProfile}
use Rattle.jxlenc.proofs.source.netpbm_source.Goals as goal

pub returns-in-Ok-clause-codable : goal.returns-in-Ok-clause-codable
returns-in-Ok-clause-codable c =
    let e = c.in-Ok.ensures in
    record {
      writable = e.writable;
      supported = e.supported;
      wide = e.wide;
      high = e.high;
      want_icc = e.plain ∙ sym (ap (λ (o : Option (Vec ℕ)). is_some (bytes_if o)) e.profile);
      profile = subst (λ (o : Option (Vec ℕ)). IfSome (bytes_if o) IsCodableProfile) (sym e.profile) tt;
    }

pub returns-in-Ok-clause-source : goal.returns-in-Ok-clause-source
returns-in-Ok-clause-source c =
    let e = c.in-Ok.ensures in
    inr (e.picture, ap (λ (o : Option (Vec ℕ)). bytes_if o) e.profile, refl, refl)
