use Rattle.jxldec.proofs.FileReading.{before_frames}
use Rattle.jxldec.proofs.run.read_file.Goals as goal

pub returns-in-Err-clause-err : goal.returns-in-Err-clause-err
returns-in-Err-clause-err c = (c.in-Err.ensures.err, before_frames c.in-Err.error c.in-Err.ensures.first)

pub returns-in-Err-clause-of_frame : goal.returns-in-Err-clause-of_frame
returns-in-Err-clause-of_frame c = λ number asked. (c.in-Err.ensures.err, before_frames c.in-Err.error c.in-Err.ensures.first)
