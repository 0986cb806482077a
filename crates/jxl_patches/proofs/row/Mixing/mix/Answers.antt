use Rattle.std.proofs.Common.{length}
use Rattle.jxl_patches.proofs.MixedRows.{kept_row}
use Rattle.jxl_patches.proofs.row.Mixing.mix.Goals as goal

pub returns-in-Keep : goal.returns-in-Keep
returns-in-Keep c = rw c.in-Keep.is (kept_row c.args.start (length c.args.from.now) c.args.row.now)
