use Rattle.std.proofs.Common.{◌≡◌, ℕ, Some, subst}
use Rattle.jxl_lossless.specs.Pictures.{IsPictureOfFile}
use Rattle.jxl_image_header.specs.Images.{image_of}
use Rattle.jxl_lossless.specs.Files.{header_of}
use Rattle.jxldec_lines.specs.Formats.{chosen}
use Rattle.jxldec_lines.proofs.Chosen.{chosen_suits}
use Rattle.jxldec.proofs.FileReading.{choice_kept, text_of_file}
use Rattle.jxldec.proofs.run.picture_of_file.Goals as goal

pub of-requires-clause-suits : goal.of-requires-clause-suits
of-requires-clause-suits g c =
    let suited : chosen c.args.asked (image_of c.in-Ok.picture.header) ≡ Some c.in_ok-format.format =
    choice_kept c.args.asked (image_of (header_of c.in_ok-read.read)) (image_of c.in-Ok.picture.header) c.in_ok-format.format c.in_ok-format.ensures.ok c.in-Ok.ensures.header in
    chosen_suits c.args.asked (image_of c.in-Ok.picture.header) c.in_ok-format.format suited

pub returns-in-Ok-clause-text : goal.returns-in-Ok-clause-text
returns-in-Ok-clause-text g c =
    let suited : chosen c.args.asked (image_of c.in-Ok.picture.header) ≡ Some c.in_ok-format.format =
    choice_kept c.args.asked (image_of (header_of c.in_ok-read.read)) (image_of c.in-Ok.picture.header) c.in_ok-format.format c.in_ok-format.ensures.ok c.in-Ok.ensures.header in
    text_of_file c.args.limits.now c.args.file.now c.args.asked c.in-Ok.picture c.decode.new.steps
    (subst (λ (n : ℕ). IsPictureOfFile c.args.limits.now c.args.file.now c.in-Ok.picture n c.decode.new.steps) c.new-steps.ensures
    (c.in-Ok.ensures.picture c.args.limits.now c.args.file.now c.in_ok-read.ensures.ok))
    c.of.result (c.of.ensures.text c.args.file.now c.args.asked (c.of-beside.ensures c.args.limits.now c.args.file.now c.in_ok-read.ensures.ok) suited)
