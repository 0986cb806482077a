use Rattle.std.proofs.Common.{◌≡◌, map, take}
use Rattle.jxl_encode_tree.proofs.nodes.tokens_in.Given as goal

abbrev pub invariant-loop-i : goal.invariant-loop-i
invariant-loop-i l = record {
  values : map (λ t. t.value) l.tokens.items ≡ take l.i l.values;
  clusters : map (λ t. t.cluster) l.tokens.items ≡ take l.i l.clusters;
}
