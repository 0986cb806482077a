use Rattle.jxlm_base.specs.Regions.{store_meanings}
use Rattle.jxlm_transform.specs.Channels.{image_list}
use Rattle.jxl_encode_image.proofs.image.code_image.Goals as goal

pub returns-in_default : goal.returns-in_default
returns-in_default g c = c.in_ok-indexed.ensures.goes (image_list c.args.given.now) (store_meanings g.S.Sealed.to_int c.args.grids.items) c.in_ok-first.ensures.coded

pub returns : goal.returns
returns g c =
    let image = store_meanings g.S.Sealed.to_int c.args.grids.items in
    c.in_ok-image.ensures (image_list c.args.given.now) image (c.in_ok-indexed.ensures.goes (image_list c.args.given.now) image c.in_ok-first.ensures.coded)
