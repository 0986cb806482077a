use Rattle.std.proofs.Common.{List, subst, sym}
use Rattle.std.specs.List.{All}
use Rattle.jxlm_transform.specs.Channels.{Channel, IsNarrow}
use Rattle.jxlm_transform.proofs.SideBounds.{narrow_image}
use Rattle.jxlm_tree_depth.proofs.channels.GivenChannels.new.Goals as goal

pub returns-in-Ok-clause-given : goal.returns-in-Ok-clause-given
returns-in-Ok-clause-given c = record {
  narrow = subst (λ (cs : List Channel). All IsNarrow cs) (sym c.in-Ok.ensures.ok) (narrow_image c.args.params.now c.requires.valid);
  groups = c.requires.groups;
}
