use Rattle.std.proofs.Common.{◌-◌}
use Rattle.jxl_icc.specs.Inner.States.{Lists, listed}
use Rattle.jxl_icc.proofs.tags.several.Given as goal

abbrev pub invariant-loop-done : goal.invariant-loop-done
invariant-loop-done l = Lists l.bytes l.end l.size (l.end - l.fn.first.place) (listed l.fn.first l.initial.out.items) l.done l.before l.out.items
