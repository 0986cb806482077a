use Rattle.std.proofs.Common.{◌≡◌, [], ◌∷◌, ◌++◌, rules}
use Rattle.jxlm_groups.proofs.AreaLemmas.{area_is, at_area, with_group}
use Rattle.jxlm_groups.specs.Parts.{part_in}
use Rattle.jxlm_groups.proofs.area.Squares.add_groups.Goals as goal

pub loop-k-preserved : goal.loop-k-preserved
loop-k-preserved c =
    let s = c.args.self in
    let added = at_area s.width s.height s.group_dim c.part_in-part.result c.area-area.result in
    let pushed : c.push.new.self.items ≡ c.loop-k.list.items ++ added ∷ [] = search rules in
    with_group s.width s.height s.group_dim c.args.kind c.loop-k.k c.args.list.now.items c.loop-k.list.items c.push.new.self.items added c.loop-k.invariant
    (area_is s.width s.height s.group_dim c.part_in-part.result (part_in c.args.kind c.loop-k.k) c.area-area.result c.part_in-part.ensures c.area-area.ensures) pushed
