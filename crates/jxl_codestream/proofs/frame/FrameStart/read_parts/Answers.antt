use Rattle.std.proofs.Common.{◌≡◌, ℕ, ◌-◌, List, length, length-drop, drop, arith, subst, true, false, rules}
use Rattle.jxlm_bits.specs.Bits.{position_of}
use Rattle.jxl_image_header.specs.Images.{image_of}
use Rattle.jxl_image_header.specs.declared.size.Size.{Size}
use Rattle.jxl_frame_header.specs.Frames.{frame_of, frame_size}
use Rattle.jxl_picture.specs.Limits.{AllowFrame}
use Rattle.jxl_codestream.specs.Tocs.{IsFirstTruncated}
use Rattle.jxl_codestream.proofs.Fronts.{too_many, truncated}
use Rattle.jxl_codestream.proofs.frame.FrameStart.read_parts.Goals as goal

pub returns-then-not-allows-clause-err : goal.returns-then-not-allows-clause-err
returns-then-not-allows-clause-err g c =
    let isnt : c.allows.result ≡ false = search rules in
    let beyond : ¬ (AllowFrame c.args.self.limits.now (image_of c.args.self.image.now) c.args.self.used c.size-size.result) = λ a. let is : c.allows.result ≡ true = c.allows.ensures.1 a in cc in
    subst (λ (s : Size). ¬ (AllowFrame c.args.self.limits.now (image_of c.args.self.image.now) c.args.self.used s)) c.size-size.ensures beyond

pub returns-in_default-clause-err : goal.returns-in_default-clause-err
returns-in_default-clause-err g c =
    let is : c.allows.result ≡ true = search rules in
    let allowed : AllowFrame c.args.self.limits.now (image_of c.args.self.image.now) c.args.self.used (frame_size c.args.self.image.now.size (frame_of c.args.header)) =
    subst (λ (s : Size). AllowFrame c.args.self.limits.now (image_of c.args.self.image.now) c.args.self.used s) c.size-size.ensures (c.allows.ensures.0 is) in
    too_many g.D.Decoder.meaning c.args.self.limits.now (drop c.args.self.start c.args.self.bytes.now) (image_of c.args.self.image.now) c.args.self.used (frame_of c.args.header) (position_of c.args.bits) c.size-size.result allowed c.size-size.ensures
    c.in_default.ensures

pub returns-in-Some-truncated-clause-err : goal.returns-in-Some-truncated-clause-err
returns-in-Some-truncated-clause-err g c =
    let bytes = c.args.self.bytes.now in
    let start = c.args.self.start in
    let entries = c.in_ok-toc.toc.entries.items in
    let number = c.in-Some-truncated.number in
    let is : c.allows.result ≡ true = search rules in
    let allowed : AllowFrame c.args.self.limits.now (image_of c.args.self.image.now) c.args.self.used (frame_size c.args.self.image.now.size (frame_of c.args.header)) =
    subst (λ (s : Size). AllowFrame c.args.self.limits.now (image_of c.args.self.image.now) c.args.self.used s) c.size-size.ensures (c.allows.ensures.0 is) in
    let same : length bytes - start ≡ length (drop start bytes) = omega (arith, length-drop start bytes) in
    let first : IsFirstTruncated (length (drop start bytes)) entries number = subst (λ (n : ℕ). IsFirstTruncated n entries number) same c.in-Some-truncated.ensures.some in
    truncated g.D.Decoder.meaning c.args.self.limits.now (drop start bytes) (image_of c.args.self.image.now) c.args.self.used (frame_of c.args.header) (position_of c.args.bits) entries number allowed c.in_ok-toc.ensures.ok first
