use Rattle.std.proofs.Common.{rules, ◌≡◌, length}
use Rattle.jxlm_base.specs.Regions.{region}
use Rattle.jxlm_inverse.proofs.ColourRegions.{are_three_of, keeps_of, undoes_of}
use Rattle.jxlm_inverse.proofs.rct.inverse_rct_within.Goals as goal

pub finish_regions-requires-clause-three : goal.finish_regions-requires-clause-three
finish_regions-requires-clause-three g c = λ κs h.
    let long : length c.args.regions ≡ 3 = search rules in
    are_three_of c.args.regions (region 0 0 0 0 0) c.args.store.now long c.requires.lie c.requires.apart c.requires.sizes

pub returns-clause-colour : goal.returns-clause-colour
returns-clause-colour g c =
    let long : length c.args.regions ≡ 3 = search rules in
    undoes_of c.args.regions (region 0 0 0 0 0) c.args.store.now long g.S.Sealed.to_int g.S.Sealed.width c.args.ty c.args.permutation c.finish_regions.new.store c.finish_regions.ensures
    c.requires.lie c.requires.apart c.requires.sizes c.requires.kind

pub returns-clause-keeps : goal.returns-clause-keeps
returns-clause-keeps g c =
    let long : length c.args.regions ≡ 3 = search rules in
    keeps_of c.args.regions (region 0 0 0 0 0) c.args.store.now long g.S.Sealed.to_int g.S.Sealed.width c.args.ty c.args.permutation c.finish_regions.new.store c.finish_regions.ensures
