use Rattle.jxldec.proofs.Saving.{more_read}
use Rattle.jxldec.proofs.run.read_input.Goals as goal

pub returns-in-Err-read_on-clause-err : goal.returns-in-Err-read_on-clause-err
returns-in-Err-read_on-clause-err g c = (
  more_read (g.R.Read.remaining c.args.input.now) (g.R.Read.remaining c.read_start.new.self) (g.R.Read.remaining c.read_on.new.self) c.in-Ok.start.items c.in-Ok.ensures.read c.in-Err-read_on.ensures.part,
  c.in-Err-read_on.ensures.err,
)
