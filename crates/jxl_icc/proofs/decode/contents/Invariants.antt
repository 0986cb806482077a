use Rattle.std.proofs.Common.{◌-◌}
use Rattle.jxl_icc.specs.Inner.States.{Continues, so_far}
use Rattle.jxl_icc.proofs.decode.contents.Given as goal

abbrev pub invariant-loop-done : goal.invariant-loop-done
invariant-loop-done l = Continues l.bytes l.end l.size (l.end - l.fn.first.place) (so_far l.fn.first l.initial.out.items) l.done l.walk l.out.items
