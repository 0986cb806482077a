use Rattle.jxlm_transform.proofs.ValidParams.{one_size_is_valid, one_size_of_image_is_valid, powers_are_group_dims}
use Rattle.jxlm_transform.proofs.param.channels_of_one_size_are_valid.Goals as goal

pub returns-clause-channels : goal.returns-clause-channels
returns-clause-channels g c = one_size_is_valid

pub returns-clause-params : goal.returns-clause-params
returns-clause-params g c = one_size_of_image_is_valid _

pub returns-clause-group_dim : goal.returns-clause-group_dim
returns-clause-group_dim g c = powers_are_group_dims
