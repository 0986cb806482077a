use Rattle.std.proofs.Common.{◌≡◌, ◌∙◌, ◌<◌, ◌++◌, [], map, ap, length, subst, sym}
use Rattle.std.specs.Prelude.{get_or}
use Rattle.std.specs.List.{cons_option}
use Rattle.jxlm_base.specs.declared.subgrid.Region.{Region}
use Rattle.jxlm_transform.specs.Channels.{Channel, infos, regions}
use Rattle.jxlm_transform.specs.Ends.{HasEnds}
use Rattle.jxlm_groups.specs.Cutting.{kind_of}
use Rattle.jxlm_groups.specs.Pieces.{channel_in, piece_in, within}
use Rattle.jxlm_groups.proofs.AtChannel.{at_place, in_infos, info_is, region_is}
use Rattle.jxlm_groups.proofs.Fitting.{channels_turn, regions_turn, same_sides_at}
use Rattle.jxlm_groups.proofs.pieces.pieces.Goals as goal

pub add-requires-clause-sides : goal.add-requires-clause-sides
add-requires-clause-sides c =
    let xs = c.args.channels.now.placed.items in
    let n = c.loop-n.n in
    let p = c.index-channel.result.now in
    let lt : n < length (infos xs) = subst (λ m. n < m) c.count_of-n-end.ensures c.loop-n-test.true in
    let there = at_place xs n lt in
    let s = same_sides_at (infos xs) (regions xs) n p.info p.region c.requires.sides lt in
    let info = info_is xs n p there c.index-channel.ensures in
    let place = region_is xs n p there c.index-channel.ensures in
    (sym (ap (λ (r : Region). r.width) place) ∙ s.0 ∙ ap (λ (x : Channel). x.width) info, sym (ap (λ (r : Region). r.height) place) ∙ s.1 ∙ ap (λ (x : Channel). x.height) info)

pub add-requires-clause-room : goal.add-requires-clause-room
add-requires-clause-room c =
    let xs = c.args.channels.now.placed.items in
    let n = c.loop-n.n in
    let p = c.index-channel.result.now in
    let there = at_place xs n (subst (λ m. n < m) c.count_of-n-end.ensures c.loop-n-test.true) in
    subst HasEnds (region_is xs n p there c.index-channel.ensures) (c.args.channels.now.ends n p.region (in_infos (λ q. q.region) xs n there))

pub loop-n-preserved : goal.loop-n-preserved
loop-n-preserved c =
    let a = c.args in
    let xs = a.channels.now.placed.items in
    let n = c.loop-n.n in
    let p = c.index-channel.result.now in
    let k = c.kind_of-kind.result in
    let lt : n < length (infos xs) = subst (λ m. n < m) c.count_of-n-end.ensures c.loop-n-test.true in
    let there = at_place xs n lt in
    let info = sym (info_is xs n p there c.index-channel.ensures) in
    let place = sym (region_is xs n p there c.index-channel.ensures) in
    let kind = c.kind_of-kind.ensures ∙ ap (kind_of a.passes.now c.global_count-count.result n) info in
    let channels = subst (λ (x : Channel). infos c.add.new.pieces.items ≡ infos c.loop-n.pieces.items ++ map (channel_in a.part x) (cons_option (piece_in a.group_dim k a.part n x) [])) info c.in_ok-add.ensures.channels in
    let own = subst (λ (x : Channel). regions c.add.new.pieces.items ≡ regions c.loop-n.pieces.items ++ map (within p.region) (cons_option (piece_in a.group_dim k a.part n x) [])) info c.in_ok-add.ensures.regions in
    let lie = own ∙ ap (λ (r : Region). regions c.loop-n.pieces.items ++ map (within r) (cons_option (piece_in a.group_dim k a.part n (get_or (infos xs) n p.info)) [])) place in
    let inv = c.loop-n.invariant in (
      inv.0,
      channels_turn a.group_dim a.passes.now c.global_count-count.result a.part (infos xs) n p.info k lt kind _ _ _ channels inv.1,
      regions_turn a.group_dim a.passes.now c.global_count-count.result a.part (infos xs) n p.info k lt kind (regions xs) p.region (in_infos (λ q. q.region) xs n there) _ _ _ lie inv.2,
    )
