use Rattle.std.proofs.Common.{◌≡◌, None}
use Rattle.jxl_image_header.specs.Images.{image_of}
use Rattle.jxl_lossless.specs.Files.{header_of, reason_of}
use Rattle.jxldec_lines.specs.Formats.{chosen}
use Rattle.jxldec.proofs.FileReading.{no_format}
use Rattle.jxldec.proofs.run.format_of_file.Goals as goal

pub returns-in-None-format_for-clause-err : goal.returns-in-None-format_for-clause-err
returns-in-None-format_for-clause-err c = λ file is.
    let unrefused : reason_of c.args.read.now ≡ None = cc in
    let none : chosen c.args.asked (image_of (header_of c.args.read.now)) ≡ None = cc in
    no_format c.args.limits.now file c.args.read.now is c.args.asked unrefused none
