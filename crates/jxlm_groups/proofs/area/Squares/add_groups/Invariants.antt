use Rattle.std.proofs.Common.{◌≡◌, ◌++◌}
use Rattle.jxlm_groups.specs.Inner.Squares.{first_groups}
use Rattle.jxlm_groups.proofs.area.Squares.add_groups.Given as goal

abbrev pub invariant-loop-k : goal.invariant-loop-k
invariant-loop-k l = l.list.items ≡ l.initial.list.items ++ first_groups l.self.width l.self.height l.self.group_dim l.kind l.k
