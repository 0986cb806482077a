use Rattle.jxl_lossless.proofs.file.JxlFile.read.Goals as goal

pub returns-in-Ok-clause-err : goal.returns-in-Ok-clause-err
returns-in-Ok-clause-err c = (c.bytes.result.now, rw c.bytes.ensures c.in-Ok.ensures.ok, c.in-Err-read.ensures.err)
