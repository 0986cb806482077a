use Rattle.std.proofs.Common.{◌≤◌, refl, subst}
use Rattle.jxlm_groups.proofs.EachPart.{holds_each_of}
use Rattle.jxlm_groups.proofs.complete.has_parts_of.Goals as goal

pub returns : goal.returns
returns c =
    let le = subst (λ m. m ≤ c.loop-k.k) c.part_count-k-end.ensures c.loop-k-test.false in
    (λ e. holds_each_of c.args.group_dim c.args.n c.args.channel.now c.args.kind c.args.parts.now c.loop-k.k le c.loop-k.invariant, λ h. refl)
