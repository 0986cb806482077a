use Rattle.std.proofs.Common.{◌≡◌, map, take}
use Rattle.jxlm_chain.specs.Grids.{leader_of}
use Rattle.jxlm_chain.proofs.grid.write_leaders.Given as goal

abbrev pub invariant-loop-i : goal.invariant-loop-i
invariant-loop-i l = take l.i l.regions ≡ map leader_of (take l.i l.grids)
