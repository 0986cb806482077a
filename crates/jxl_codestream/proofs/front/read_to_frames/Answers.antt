use Rattle.std.proofs.Common.{◌≡◌, ◌∙◌, sym, refl, true, false, None, rules}
use Rattle.jxlm_bits.specs.Bits.{bytes_of, position_of}
use Rattle.jxl_image_header.specs.Images.{image_of, image_refusal}
use Rattle.jxl_picture.specs.Limits.{Allow}
use Rattle.jxl_codestream.specs.FrontParts.{bytes_if}
use Rattle.jxl_codestream.proofs.Fronts.{begins, has_profile, image_refused, image_stands, profile_fails, too_large}
use Rattle.jxl_codestream.proofs.front.read_to_frames.Goals as goal

pub returns-in-Some-clause-err : goal.returns-in-Some-clause-err
returns-in-Some-clause-err g c =
    image_refused g.D.Decoder.meaning c.args.limits.now (bytes_of c.args.bits.now) 0 (position_of c.args.bits.now) (image_of c.args.image.now) c.in-Some.refusal refl c.requires.header
    (sym c.refused.ensures ∙ c.in-Some.is)

pub returns-then-not-allow-clause-err : goal.returns-then-not-allow-clause-err
returns-then-not-allow-clause-err g c =
    let none : image_refusal (image_of c.args.image.now) ≡ None = search rules in
    let isnt : c.allow.result ≡ false = search rules in
    let beyond : ¬ (Allow c.args.limits.now (image_of c.args.image.now)) = λ a. let is : c.allow.result ≡ true = c.allow.ensures.1 a in cc in
    too_large g.D.Decoder.meaning c.args.limits.now (bytes_of c.args.bits.now) 0 (position_of c.args.bits.now) (image_of c.args.image.now) refl c.requires.header none beyond

pub returns-in-Ok-clause-ok : goal.returns-in-Ok-clause-ok
returns-in-Ok-clause-ok g c =
    let d = g.D.Decoder.meaning in
    let image = image_of c.args.image.now in
    let bytes = bytes_of c.args.bits.now in
    let p = position_of c.args.bits.now in
    let none : image_refusal image ≡ None = search rules in
    let is : c.allow.result ≡ true = search rules in
    begins d c.args.limits.now bytes image p (position_of c.read_between.new.bits) (bytes_if c.in-Ok.profile) (image_stands d c.args.limits.now bytes 0 p image refl c.requires.header none (c.allow.ensures.0 is)) c.in-Ok.ensures.gives

pub returns-in-Ok-clause-profile : goal.returns-in-Ok-clause-profile
returns-in-Ok-clause-profile g c =
    let d = g.D.Decoder.meaning in
    let image = image_of c.args.image.now in
    let bytes = bytes_of c.args.bits.now in
    let p = position_of c.args.bits.now in
    let none : image_refusal image ≡ None = search rules in
    let is : c.allow.result ≡ true = search rules in
    has_profile d c.args.limits.now bytes image p (position_of c.read_between.new.bits) (bytes_if c.in-Ok.profile) (image_stands d c.args.limits.now bytes 0 p image refl c.requires.header none (c.allow.ensures.0 is)) c.in-Ok.ensures.gives

pub returns-in-Err-clause-err : goal.returns-in-Err-clause-err
returns-in-Err-clause-err g c =
    let d = g.D.Decoder.meaning in
    let image = image_of c.args.image.now in
    let bytes = bytes_of c.args.bits.now in
    let p = position_of c.args.bits.now in
    let none : image_refusal image ≡ None = search rules in
    let is : c.allow.result ≡ true = search rules in
    profile_fails d c.args.limits.now bytes image p (position_of c.read_between.new.bits) c.in-Err.error (image_stands d c.args.limits.now bytes 0 p image refl c.requires.header none (c.allow.ensures.0 is)) c.in-Err.ensures.gives
