use Rattle.jxlm_chain.proofs.OneImage.{no_two_images}
use Rattle.jxlm_chain.proofs.laws.no_two_images.Goals as goal

pub returns : goal.returns
returns c = no_two_images
