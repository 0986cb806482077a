use Rattle.std.proofs.Common.{arith}
use Rattle.jxl_image_header.specs.Images.{image_of}
use Rattle.jxl_codestream_write.proofs.Signatures.{bare_front}
use Rattle.jxl_codestream_write.proofs.front.begins_bare.Goals as goal

pub returns : goal.returns
returns c rest = bare_front c.args.bytes.now rest (image_of c.args.image.now) c.requires.0 c.requires.1 (λ i. let f = c.type_inv.bytes i in omega (arith, f))
