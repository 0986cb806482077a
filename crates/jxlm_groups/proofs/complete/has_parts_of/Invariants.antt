use Rattle.jxlm_groups.proofs.EachPart.{HoldsFirst}
use Rattle.jxlm_groups.proofs.complete.has_parts_of.Given as goal

abbrev pub invariant-loop-k : goal.invariant-loop-k
invariant-loop-k l = HoldsFirst l.group_dim l.n l.channel l.kind l.parts l.k
