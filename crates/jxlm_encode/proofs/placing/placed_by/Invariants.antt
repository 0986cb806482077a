use Rattle.std.proofs.Common.{map, take}
use Rattle.jxlm_encode_write.specs.Headers.{transform_of}
use Rattle.jxlm_encode.specs.Inner.Placing.{HaveCome}
use Rattle.jxlm_encode.proofs.placing.placed_by.Given as goal

abbrev pub invariant-loop-k : goal.invariant-loop-k
invariant-loop-k l = HaveCome (map transform_of (take l.k l.transforms)) l.infos l.placed
