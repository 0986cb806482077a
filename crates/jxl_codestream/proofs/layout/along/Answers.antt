use Rattle.std.proofs.Common.{◌≡◌, rules}
use Rattle.jxl_codestream.proofs.Groups.{along_most}
use Rattle.jxl_codestream.proofs.layout.along.Goals as goal

pub returns-clause-most : goal.returns-clause-most
returns-clause-most c = let same : c.from.result ≡ c.args.side = search rules in rw same (along_most c.args.side c.args.dim c.requires.some)
