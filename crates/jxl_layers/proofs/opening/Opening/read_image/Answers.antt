use Rattle.std.proofs.Common.{◌≡◌, ◌∙◌, ℕ, None, sym, subst, true, false, rules}
use Rattle.jxlm_bits.specs.Bits.{bytes_of, position_of}
use Rattle.jxlm_bits.specs.ErrorKind.{kind_of}
use Rattle.jxl_image_header.specs.Images.{Image, image_header, image_of}
use Rattle.jxl_image_header.specs.declared.image.ImageHeader.{ImageHeader}
use Rattle.jxl_picture.specs.Limits.{Allow}
use Rattle.jxl_codestream.specs.Fronts.{StandsAt}
use Rattle.jxl_codestream.proofs.Fronts.{fails_at}
use Rattle.jxl_layers.specs.Openings.{ImageGoesOn}
use Rattle.jxl_layers.specs.Refusals.{animation_refusal}
use Rattle.jxl_layers.proofs.opening.Opening.read_image.Goals as goal

pub returns-in-Err-clause-err : goal.returns-in-Err-clause-err
returns-in-Err-clause-err c =
    fails_at image_header (bytes_of c.args.bits.now) (position_of c.args.bits.now) 0 (position_of c.parse.new.bits) (kind_of c.in-Err.error) c.requires.begin c.in-Err.ensures.gives

pub returns-in-Some-clause-err : goal.returns-in-Some-clause-err
returns-in-Some-clause-err c = (
  image_of c.in-Ok.image,
  position_of c.parse.new.bits,
  subst (λ (p : ℕ). StandsAt image_header (bytes_of c.args.bits.now) p (image_of c.in-Ok.image) (position_of c.parse.new.bits)) c.requires.begin c.in-Ok.ensures.gives,
  sym c.animation_refusal.ensures.is ∙ c.in-Some.is,
)

pub returns-then-not-allow-clause-err : goal.returns-then-not-allow-clause-err
returns-then-not-allow-clause-err c =
    let same : c.animation_refusal.new.image ≡ c.in-Ok.image = c.animation_refusal.ensures.same in
    let none : animation_refusal (image_of c.in-Ok.image) ≡ None = search rules in
    let isnt : c.allow.result ≡ false = search rules in
    let beyond : ¬ (Allow c.args.limits.now (image_of c.animation_refusal.new.image)) = λ a. let is : c.allow.result ≡ true = c.allow.ensures.1 a in cc in (
      image_of c.in-Ok.image,
      position_of c.parse.new.bits,
      subst (λ (p : ℕ). StandsAt image_header (bytes_of c.args.bits.now) p (image_of c.in-Ok.image) (position_of c.parse.new.bits)) c.requires.begin c.in-Ok.ensures.gives,
      none,
      subst (λ (i : ImageHeader). ¬ (Allow c.args.limits.now (image_of i))) same beyond,
    )

pub returns-clause-ok : goal.returns-clause-ok
returns-clause-ok c =
    let same : c.animation_refusal.new.image ≡ c.in-Ok.image = c.animation_refusal.ensures.same in
    let none : animation_refusal (image_of c.in-Ok.image) ≡ None = search rules in
    let is : c.allow.result ≡ true = search rules in
    subst (λ (i : ImageHeader). ImageGoesOn c.args.limits.now (bytes_of c.args.bits.now) (image_of i) (position_of c.parse.new.bits)) (sym same) (record {
      header = subst (λ (p : ℕ). StandsAt image_header (bytes_of c.args.bits.now) p (image_of c.in-Ok.image) (position_of c.parse.new.bits)) c.requires.begin c.in-Ok.ensures.gives;
      supported = none;
      allowed = subst (λ (i : ImageHeader). Allow c.args.limits.now (image_of i)) same (c.allow.ensures.0 is);
    })
