use Rattle.std.proofs.Common.{◌≡◌, take}
use Rattle.std.specs.List.{All}
use Rattle.jxlm_transform.specs.Channels.{infos, regions}
use Rattle.jxlm_transform.specs.Ends.{HasEnds}
use Rattle.jxlm_transform.specs.Layout.{whole_regions}
use Rattle.jxlm_transform.proofs.channels.ModularChannels.new.Given as goal

abbrev pub invariant-loop-info : goal.invariant-loop-info
invariant-loop-info l = record {
  list : infos l.placed.items ≡ take l.info-index l.given;
  made : regions l.placed.items ≡ whole_regions 0 (take l.info-index l.given);
  ends : All HasEnds (regions l.placed.items);
}
