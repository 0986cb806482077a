use Rattle.jxlm_ma_tree.proofs.TreeStanding.{one_tree_stands, read_exactly}
use Rattle.jxlm_ma_tree.proofs.read.each_tree_is_read_exactly.Goals as goal

pub returns-clause-exactly : goal.returns-clause-exactly
returns-clause-exactly g c = read_exactly g.D.Decoder.meaning g.met.D.Decoder.lawful

pub returns-clause-one : goal.returns-clause-one
returns-clause-one g c = one_tree_stands g.D.Decoder.meaning g.met.D.Decoder.lawful
