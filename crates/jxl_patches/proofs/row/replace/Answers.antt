use Rattle.std.proofs.Common.{◌+◌, length, refl}
use Rattle.jxl_patches.proofs.MixedRows.{replaced_row}
use Rattle.jxl_patches.proofs.row.replace.Goals as goal

pub returns : goal.returns
returns c =
    replaced_row c.args.row.now c.args.from.now c.write_between.new.row c.args.start (c.args.start + length c.args.from.now) refl c.requires c.write_between.ensures
