use Rattle.std.proofs.Common.{◌≡◌, Option, None, Some, ap, refl, string_bytes, subst, sym}
use Rattle.jxl_animation.proofs.Decoders.{none_shown}
use Rattle.jxl_container.specs.Files.{HasLaterError}
use Rattle.jxl_container.specs.declared.error.FileError.{FileError as BoxError}
use Rattle.jxl_image_header.specs.Images.{image_of}
use Rattle.jxl_image_header.specs.declared.image.ImageHeader.{ImageHeader}
use Rattle.jxl_lossless.specs.Files.{header_of, reason_of, upright}
use Rattle.jxldec_lines.specs.Formats.{chosen}
use Rattle.jxldec_lines.specs.Losses.{loss_in}
use Rattle.jxldec_lines.specs.Warnings.{kinds_left_out}
use Rattle.jxldec.proofs.FileReading.{frames_no_format}
use Rattle.jxldec.proofs.Sources.{same_header, written_in}
use Rattle.jxldec.proofs.frames.open_frames.Goals as goal

pub returns-in_default-clause-err : goal.returns-in_default-clause-err
returns-in_default-clause-err c = λ number.
    let none : chosen c.args.asked (image_of (header_of c.in_ok-read.read)) ≡ None = cc in
    frames_no_format c.args.limits.now c.args.file.now c.in_ok-read.read c.in_ok-read.ensures.ok c.args.asked (reason_of c.in_ok-read.read) refl c.in_ok-support_frames.ensures.ok none

pub returns-in-Ok-new-clause-ok : goal.returns-in-Ok-new-clause-ok
returns-in-Ok-new-clause-ok c =
    let some : chosen c.args.asked (image_of (header_of c.in_ok-read.read)) ≡ Some c.in-Some.format = cc in
    let beside = c.of-beside.ensures c.args.limits.now c.args.file.now c.in_ok-read.ensures.ok in
    let without : string_bytes c.in-Ok.left_out.channels ≡ kinds_left_out c.in-Some.format (image_of (header_of c.in_ok-read.read)).ec_info =
    subst (λ (h : ImageHeader). string_bytes c.in-Ok.left_out.channels ≡ kinds_left_out c.in-Some.format (image_of h).ec_info) c.header-2.ensures c.in-Ok.ensures.channels in
    let meant : c.in-Ok.left_out.loss ≡ loss_in c.in-Some.format (image_of (header_of c.in_ok-read.read)) =
    subst (λ (h : ImageHeader). c.in-Ok.left_out.loss ≡ loss_in c.in-Some.format (image_of h)) c.header-2.ensures c.in-Ok.ensures.loss in
    record {
      shown = none_shown c.args.limits.now c.args.file.now c.in-Ok-new.decoder c.in-Ok-new.ensures.ok;
      ready = c.in-Ok-new.ensures.ready;
      beside = beside;
      image = upright (image_of (header_of c.in_ok-read.read));
      same = same_header c.args.limits.now c.args.file.now c.in_ok-read.read c.in_ok-read.ensures.ok;
      moving = ap (λ (h : ImageHeader). h.animation) c.header-3.ensures;
      written = written_in c.args.asked c.in-Some.format (string_bytes c.in-Ok.left_out.channels) c.in-Ok.left_out.loss (image_of (header_of c.in_ok-read.read)) some without meant;
      frames = c.in-Ok.ensures.frames;
      later = subst (λ (e : Option BoxError). HasLaterError c.args.file.now e) (sym c.in-Ok.ensures.later) beside.later;
    }
