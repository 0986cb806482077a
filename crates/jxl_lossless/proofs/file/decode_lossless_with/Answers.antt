use Rattle.jxl_lossless.proofs.file.decode_lossless_with.Goals as goal

pub returns-clause-picture : goal.returns-clause-picture
returns-clause-picture g c = c.decode.ensures.picture c.args.limits.now c.args.file.now c.in_ok-read.ensures.ok

pub returns-clause-err : goal.returns-clause-err
returns-clause-err g c = c.decode.ensures.err c.args.limits.now c.args.file.now c.in_ok-read.ensures.ok
