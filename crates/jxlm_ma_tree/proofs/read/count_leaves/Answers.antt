use Rattle.std.proofs.Common.{arith, map}
use Rattle.std.proofs.lemmas.List.{length-map}
use Rattle.jxlm_ma_tree.specs.Inner.DraftReading.{node_of}
use Rattle.jxlm_ma_tree.proofs.Reading.{leaves_and_decisions}
use Rattle.jxlm_ma_tree.proofs.read.count_leaves.Goals as goal

pub returns : goal.returns
returns c = omega (arith, leaves_and_decisions (map node_of c.args.nodes.now) 1 c.requires.listing, length-map c.args.nodes.now node_of)
