use Rattle.std.proofs.Common.{◌≡◌, ◌↔◌}
use Rattle.jxlm_groups.specs.Cutting.{global_count}
use Rattle.jxlm_groups.specs.Parts.{HasSome}
use Rattle.jxlm_groups.specs.Pieces.{pieces}
use Rattle.jxlm_groups.specs.Inner.Fitting.{pieces_from}
use Rattle.jxlm_transform.specs.Lists.{list_of}
use Rattle.jxlm_groups.proofs.pieces.has_pieces.Given as goal

abbrev pub invariant-loop-n : goal.invariant-loop-n
invariant-loop-n l =
    (l.count ≡ global_count l.group_dim (list_of l.channels)) ×
    (HasSome (pieces l.group_dim l.passes (list_of l.channels) l.part) ↔ HasSome (pieces_from l.group_dim l.passes l.count l.part l.n (list_of l.channels).channels))
