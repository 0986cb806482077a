use Rattle.std.proofs.Common.{ℕ, List, refl, sym, subst}
use Rattle.jxlm_bits.specs.Bits.{bytes_of, position_of}
use Rattle.jxl_image_header.specs.Images.{image_header, image_of}
use Rattle.jxl_codestream.specs.Fronts.{FrontFails, StandsAt}
use Rattle.jxl_codestream.specs.declared.error.FrontError.TheVariants as errors
use Rattle.jxl_codestream.proofs.Fronts.{image_fails}
use Rattle.jxl_codestream.proofs.front.Front.read.Goals as goal

pub after-requires-clause-header : goal.after-requires-clause-header
after-requires-clause-header g c =
    let image = image_of c.in-Ok.image in
    let end = position_of c.parse.new.bits in
    subst (λ (p : ℕ). StandsAt image_header (bytes_of c.parse.new.bits) p image end) c.new-bits.ensures.position
    (subst (λ (b : List ℕ). StandsAt image_header b (position_of c.new-bits.result) image end) (sym c.in-Ok.ensures.bytes) c.in-Ok.ensures.gives)

pub returns-in-Ok-after-clause-ok : goal.returns-in-Ok-after-clause-ok
returns-in-Ok-after-clause-ok g c =
    let d = g.D.Decoder.meaning in
    let bytes = c.args.bytes.now in
    let image = image_of c.in-Ok.image in
    let end = position_of c.parse.new.bits in
    record {
      end = end;
      header = subst (λ (p : ℕ). StandsAt image_header bytes p image end) c.new-bits.ensures.position
          (subst (λ (b : List ℕ). StandsAt image_header b (position_of c.new-bits.result) image end) c.new-bits.ensures.bytes c.in-Ok.ensures.gives);
      profile = c.in-Ok-after.ensures.profile;
      frames = c.in-Ok-after.ensures.ok;
    }

pub returns-in-Err-after-clause-ok : goal.returns-in-Err-after-clause-ok
returns-in-Err-after-clause-ok g c =
    let d = g.D.Decoder.meaning in
    let bytes = c.args.bytes.now in
    let image = image_of c.in-Ok.image in
    let end = position_of c.parse.new.bits in
    record {
      end = end;
      header = subst (λ (p : ℕ). StandsAt image_header bytes p image end) c.new-bits.ensures.position
          (subst (λ (b : List ℕ). StandsAt image_header b (position_of c.new-bits.result) image end) c.new-bits.ensures.bytes c.in-Ok.ensures.gives);
      profile = refl;
      frames = c.in-Err-after.ensures.err;
    }

pub returns-in-Err-clause-err : goal.returns-in-Err-clause-err
returns-in-Err-clause-err g c =
    let d = g.D.Decoder.meaning in
    subst (λ (b : List ℕ). FrontFails d c.args.limits.now b (errors.ImageHeader c.in-Err.error)) c.new-bits.ensures.bytes
    (image_fails d c.args.limits.now (bytes_of c.new-bits.result) (position_of c.new-bits.result) (position_of c.parse.new.bits) c.in-Err.error c.new-bits.ensures.position c.in-Err.ensures.gives)
