use Rattle.std.proofs.Common.{sym}
use Rattle.std.proofs.lemmas.List.{append-nil}
use Rattle.jxl_modular.proofs.image.fresh.with_tables.Goals as goal

pub loop-table-init : goal.loop-table-init
loop-table-init g c = sym (append-nil _)
