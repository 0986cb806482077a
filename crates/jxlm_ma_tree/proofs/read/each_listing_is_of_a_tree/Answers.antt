use Rattle.jxlm_ma_tree.proofs.Reading.{listing_of_tree}
use Rattle.jxlm_ma_tree.proofs.read.each_listing_is_of_a_tree.Goals as goal

pub returns : goal.returns
returns c s = λ bytes node_limit p x h. listing_of_tree _ bytes node_limit p x h
