use Rattle.jxl_lossless.proofs.FilePictures.{failure_read, picture_read}
use Rattle.jxl_lossless.proofs.file.JxlFile.decode.Goals as goal

pub returns-clause-picture : goal.returns-clause-picture
returns-clause-picture g c = λ limits file is.
    picture_read limits file c.args.self is c.in-Ok.frames c.in-Ok.is c.bytes.result.now c.bytes.ensures c.args.steps.now c.decode_codestream.new.steps c.decode_codestream.result c.decode_codestream.ensures.ok c.decode_codestream.ensures.profile

pub returns-clause-err : goal.returns-clause-err
returns-clause-err g c = λ limits file is.
    failure_read limits file c.args.self is c.in-Ok.frames c.in-Ok.is c.bytes.result.now c.bytes.ensures c.decode_codestream.result c.decode_codestream.ensures.err
