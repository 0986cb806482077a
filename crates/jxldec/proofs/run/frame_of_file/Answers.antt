use Rattle.std.proofs.Common.{◌≡◌, None, Some, refl}
use Rattle.jxl_image_header.specs.Images.{image_of}
use Rattle.jxl_lossless.specs.Files.{header_of, reason_of}
use Rattle.jxldec_lines.specs.Formats.{chosen}
use Rattle.jxldec_lines.proofs.Chosen.{chosen_suits}
use Rattle.jxldec.proofs.FileReading.{choice_of_frame, frame_if, frames_no_format, text_of_frame}
use Rattle.jxldec.proofs.run.frame_of_file.Goals as goal

pub returns-in_default-clause-err : goal.returns-in_default-clause-err
returns-in_default-clause-err c =
    let none : chosen c.args.asked (image_of (header_of c.in_ok-read.read)) ≡ None = cc in
    frames_no_format c.args.limits.now c.args.file.now c.in_ok-read.read c.in_ok-read.ensures.ok c.args.asked (reason_of c.in_ok-read.read) refl c.in_ok-support_frames.ensures.ok none

pub of-requires-clause-suits : goal.of-requires-clause-suits
of-requires-clause-suits c =
    let some : chosen c.args.asked (image_of (header_of c.in_ok-read.read)) ≡ Some c.in-Some.format = cc in
    let frame = frame_if c.args.limits.now c.args.file.now c.args.number c.in-Ok.decoded c.in-Some-decoded.picture c.in-Some-decoded.is c.in-Ok.ensures.ok in
    chosen_suits c.args.asked (image_of c.in-Some-decoded.picture.header) c.in-Some.format
    (choice_of_frame c.args.limits.now c.args.file.now c.in_ok-read.read c.in_ok-read.ensures.ok c.args.number c.in-Some-decoded.picture frame c.args.asked c.in-Some.format some)

pub returns-clause-text : goal.returns-clause-text
returns-clause-text c =
    let some : chosen c.args.asked (image_of (header_of c.in_ok-read.read)) ≡ Some c.in-Some.format = cc in
    let frame = frame_if c.args.limits.now c.args.file.now c.args.number c.in-Ok.decoded c.in-Some-decoded.picture c.in-Some-decoded.is c.in-Ok.ensures.ok in
    text_of_frame c.args.limits.now c.args.file.now c.args.number c.args.asked c.in-Some-decoded.picture frame c.of.result
    (c.of.ensures.text c.args.file.now c.args.asked (c.of-beside.ensures c.args.limits.now c.args.file.now c.in_ok-read.ensures.ok)
    (choice_of_frame c.args.limits.now c.args.file.now c.in_ok-read.read c.in_ok-read.ensures.ok c.args.number c.in-Some-decoded.picture frame c.args.asked c.in-Some.format some))
