use Rattle.std.proofs.Common.{List, subst, sym}
use Rattle.std.specs.List.{All}
use Rattle.jxlm_base.specs.declared.subgrid.Region.{Region}
use Rattle.jxlm_groups.proofs.PartChannels.{narrow_channels}
use Rattle.jxlm_transform.specs.Channels.{Channel, IsNarrow, regions}
use Rattle.jxlm_transform.specs.Ends.{HasEnds}
use Rattle.jxlm_transform.specs.Lists.{list_of}
use Rattle.jxlm_transform.specs.declared.channels.ModularChannels.{ModularChannels}
use Rattle.jxlm_tree_depth.proofs.Pieces.{piece_ends}
use Rattle.jxlm_tree_depth.proofs.channels.CodedChannels.part.Goals as goal

pub invariant_of-channels : goal.invariant_of-channels
invariant_of-channels c =
    let coded = c.args.self.now in
    let are = c.in_ok-pieces.ensures in
    record {
      ends = subst (λ (rs : List Region). All HasEnds rs) (sym are.regions)
          (piece_ends coded.group_dim c.deref.result.now (list_of coded.channels) (regions coded.channels.placed.items) c.args.part c.requires.sides coded.channels.ends);
    }

pub returns-clause-narrow : goal.returns-clause-narrow
returns-clause-narrow c =
    let coded = c.args.self.now in
    let are = c.in_ok-pieces.ensures in
    subst (λ (m : ModularChannels). All IsNarrow (list_of m).channels) (sym c.new.ensures.list)
    (subst (λ (cs : List Channel). All IsNarrow cs) (sym are.channels) (narrow_channels coded.group_dim c.deref.result.now (list_of coded.channels) c.args.part c.requires.narrow))
