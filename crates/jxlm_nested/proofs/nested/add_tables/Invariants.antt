use Rattle.std.proofs.Common.{◌≡◌, ◌++◌, take, pos}
use Rattle.jxlm_chain.specs.Placed.{sides_in}
use Rattle.jxlm_nested.specs.Zeros.{zeros}
use Rattle.jxlm_nested.proofs.nested.add_tables.Given as goal

abbrev pub invariant-loop-table : goal.invariant-loop-table
invariant-loop-table g l = l.store.items ≡ l.fn.store.items ++ zeros (g.S.Sealed.from_int (pos 0)) (sides_in (take l.table-index l.tables))
