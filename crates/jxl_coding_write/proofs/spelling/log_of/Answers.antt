use Rattle.std.proofs.Common.{refl}
use Rattle.std.specs.Int.{w32, leading_zeros}
use Rattle.jxl_coding_write.proofs.Spellings.{log_is}
use Rattle.jxl_coding_write.proofs.spelling.log_of.Goals as goal

pub returns-clause-least : goal.returns-clause-least
returns-clause-least c = (log_is c.args.value (leading_zeros w32 c.args.value) c.requires c.ranges.value.fits refl).0

pub returns-clause-most : goal.returns-clause-most
returns-clause-most c = (log_is c.args.value (leading_zeros w32 c.args.value) c.requires c.ranges.value.fits refl).1
