use Rattle.jxlm_ma_tree.proofs.Listing.{levels-injective}
use Rattle.jxlm_ma_tree.proofs.read.no_two_trees_share_a_listing.Goals as goal

pub returns : goal.returns
returns c = levels-injective
