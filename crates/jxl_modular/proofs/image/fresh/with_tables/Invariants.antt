use Rattle.std.proofs.Common.{◌≡◌, ◌++◌, take, pos}
use Rattle.jxlm_chain.specs.Placed.{sides_in}
use Rattle.jxlm_nested.specs.Zeros.{zeros}
use Rattle.jxl_modular.proofs.image.fresh.with_tables.Given as goal

abbrev pub invariant-loop-table : goal.invariant-loop-table
invariant-loop-table g l = l.grids.items ≡ l.fn.grids.items ++ zeros (g.S.Sealed.from_int (pos 0)) (sides_in (take l.table-index l.tables))
