use Rattle.std.proofs.Common.{List, sym, subst}
use Rattle.std.specs.List.{All}
use Rattle.jxlm_transform.specs.Transforms.{HasChannels, Transform}
use Rattle.jxl_encode_image.proofs.Steps.{listed_channels}
use Rattle.jxl_encode_image.proofs.image.placed_after.Goals as goal

pub apply-requires-clause-some_channels : goal.apply-requires-clause-some_channels
apply-requires-clause-some_channels c = subst (λ (ts : List Transform). All HasChannels ts) (sym c.in_ok-transforms.ensures) (listed_channels c.args.transform c.requires.spelled)
