use Rattle.std.proofs.Common.{sym}
use Rattle.std.proofs.Math.Seq.{take-append_seam}
use Rattle.std.proofs.lemmas.List.{append-nil}
use Rattle.jxlm_nested.proofs.nested.add_tables.Goals as goal

pub loop-table-init : goal.loop-table-init
loop-table-init g c = sym (append-nil _)

pub returns-in_err-grid-clause-cut : goal.returns-in_err-grid-clause-cut
returns-in_err-grid-clause-cut g c = rw c.loop-table.invariant (take-append_seam _ _)
