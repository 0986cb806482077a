use Rattle.std.proofs.Common.{◌≡◌, ◌++◌, get_or, map}
use Rattle.jxlm_transform.specs.ChannelSteps.{table_channel}
use Rattle.jxlm_groups.specs.Cutting.{global_count}
use Rattle.jxlm_groups.specs.Pieces.{channel_in, in_store, part_channels, pieces}
use Rattle.jxlm_groups.specs.Inner.Fitting.{pieces_from}
use Rattle.jxlm_transform.specs.Channels.{infos, regions}
use Rattle.jxlm_transform.specs.Lists.{list_of}
use Rattle.jxlm_groups.proofs.pieces.pieces.Given as goal

abbrev pub invariant-loop-n : goal.invariant-loop-n
invariant-loop-n l =
    (l.count ≡ global_count l.group_dim (list_of l.channels)) ×
    (infos l.pieces.items ++ map (λ r. channel_in l.part (get_or (list_of l.channels).channels r.buffer (table_channel 0 0)) r) (pieces_from l.group_dim l.passes l.count l.part l.n (list_of l.channels).channels)
    ≡ part_channels l.group_dim l.passes (list_of l.channels) l.part) ×
    (regions l.pieces.items ++ in_store (regions l.channels.placed.items) (pieces_from l.group_dim l.passes l.count l.part l.n (list_of l.channels).channels) ≡ in_store (regions l.channels.placed.items) (pieces l.group_dim l.passes (list_of l.channels) l.part))
