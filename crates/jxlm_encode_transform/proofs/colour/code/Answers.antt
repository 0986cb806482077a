use Rattle.jxlm_transform.specs.Layout.{no_region}
use Rattle.jxlm_encode_transform.proofs.Coded.{are_three_of, keeps_of, undoes_of}
use Rattle.jxlm_encode_transform.proofs.Squeezed.{keeps_back}
use Rattle.jxlm_encode_transform.proofs.colour.code.Goals as goal

pub code_regions-requires-clause-three : goal.code_regions-requires-clause-three
code_regions-requires-clause-three g c = λ κs h.
    let can = c.requires.can in
    are_three_of c.args.regions no_region c.args.store.now can.0 can.1 can.2 can.3

pub returns-clause-undone : goal.returns-clause-undone
returns-clause-undone g c = λ depth.
    let can = c.requires.can in (
      undoes_of c.args.regions no_region g.S.Sealed.to_int g.S.Sealed.width c.args.kind c.args.store.now c.code_regions.new.store can.0 c.code_regions.ensures can.1 can.2 can.3,
      keeps_back c.args.regions c.args.store.now c.code_regions.new.store c.requires.full
          (keeps_of c.args.regions no_region g.S.Sealed.to_int g.S.Sealed.width c.args.kind c.args.store.now c.code_regions.new.store can.0 c.code_regions.ensures),
    )

pub returns-clause-keeps : goal.returns-clause-keeps
returns-clause-keeps g c =
    keeps_of c.args.regions no_region g.S.Sealed.to_int g.S.Sealed.width c.args.kind c.args.store.now c.code_regions.new.store c.requires.can.0 c.code_regions.ensures
