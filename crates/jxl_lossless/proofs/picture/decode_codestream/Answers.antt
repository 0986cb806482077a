use Rattle.jxl_image_header.specs.Images.{image_of}
use Rattle.std.proofs.Common.{◌≡◌, Err, rules}
use Rattle.jxl_lossless.proofs.Channels.{whole_upright}
use Rattle.jxl_lossless.specs.declared.error.FileError.TheVariants as errors
use Rattle.jxl_lossless.proofs.picture.decode_codestream.Goals as goal

pub returns-clause-ok : goal.returns-clause-ok
returns-clause-ok g c = record {
  coded = c.in_ok-channels.channels.items;
  decoded = c.in_ok-channels.ensures.ok;
  upright = c.in_ok-shown.ensures.shown;
}

pub returns-clause-whole : goal.returns-clause-whole
returns-clause-whole g c =
    whole_upright (image_of c.args.image) c.in_ok-channels.channels.items (image_of c.in_ok-shown.shown.header) c.in_ok-shown.shown.channels.items c.in_ok-channels.ensures.whole c.in_ok-shown.ensures.shown

pub returns-in_err-shown-clause-err : goal.returns-in_err-shown-clause-err
returns-in_err-shown-clause-err g c =
    let is : c.from_residual-in_err-shown.result ≡ Err errors.OutOfMemory = search rules in
    rw is tt
