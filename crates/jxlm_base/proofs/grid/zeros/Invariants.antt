use Rattle.std.proofs.Common.{◌≡◌, ◌*◌, pos, replicate}
use Rattle.jxlm_base.proofs.grid.zeros.Given as goal

abbrev pub invariant-loop : goal.invariant-loop
invariant-loop g l = l.cells.items ≡ replicate (l.counter * 256) (g.S.Sealed.from_int (pos 0))
