use Rattle.std.proofs.Common.{◌≡◌, List, [], ◌∙◌, ap, rules, sym, subst}
use Rattle.jxlm_base.specs.Regions.{store_meanings}
use Rattle.jxlm_transform.specs.Channels.{Channel, image_list}
use Rattle.jxlm_transform.specs.Layout.{first_layout}
use Rattle.jxlm_transform.specs.Lists.{layout_of, list_of}
use Rattle.jxl_encode_image.specs.Images.{IsCodedImage}
use Rattle.jxl_encode_image.specs.Preparations.{image_transforms}
use Rattle.jxl_encode_image.specs.declared.transform.ImageTransform.{ImageTransform}
use Rattle.jxl_encode_image.proofs.First.{first_coded, lie_alone}
use Rattle.jxl_encode_image.proofs.image.untransformed.Goals as goal

pub returns : goal.returns
returns g c =
    let same = c.deref.ensures.value ∙ c.in-Ok.ensures.ok in
    let list_is : list_of c.in_ok-channels.channels ≡ image_list c.args.given.now = c.in_ok-channels.ensures.list ∙ ap (λ (cs : List Channel). record { channels = cs; nb_meta = 0 }) same in
    let layout_is : layout_of c.in_ok-channels.channels ≡ first_layout (image_list c.args.given.now).channels = c.in_ok-channels.ensures.layout ∙ ap first_layout same in
    let none : c.new-2.result.items ≡ [] = search rules in
    record {
      lie = lie_alone c.args.given.now c.requires.valid c.requires.few c.args.grids.items c.requires.sides c.in_ok-channels.channels list_is layout_is;
      coded = subst (λ (ts : List ImageTransform). IsCodedImage g.S.Sealed.to_int g.S.Sealed.width (image_transforms ts) (image_list c.args.given.now) (store_meanings g.S.Sealed.to_int c.args.grids.items) c.in_ok-channels.channels c.args.grids.items) (sym none)
          (first_coded c.args.given.now c.requires.valid c.requires.few c.args.grids.items c.requires.sides c.in_ok-channels.channels list_is layout_is g.S.Sealed.to_int g.S.Sealed.width);
    }
