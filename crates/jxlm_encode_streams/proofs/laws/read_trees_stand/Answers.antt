use Rattle.jxlm_encode_streams.proofs.ReadTrees.{read_tree_stands}
use Rattle.jxlm_encode_streams.proofs.laws.read_trees_stand.Goals as goal

pub returns : goal.returns
returns g c = read_tree_stands g.D.Decoder.meaning g.met.D.Decoder.lawful
