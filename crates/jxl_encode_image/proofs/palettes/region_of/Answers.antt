use Rattle.std.proofs.Common.{◌∙◌, sym, ap}
use Rattle.std.proofs.lemmas.List.{get_or-map}
use Rattle.jxlm_transform.specs.Layout.{no_region}
use Rattle.jxlm_transform.specs.declared.channels.PlacedChannel.{PlacedChannel}
use Rattle.jxl_encode_image.proofs.palettes.region_of.Goals as goal

pub returns : goal.returns
returns c =
    ap (λ (p : PlacedChannel). p.region) c.index.ensures
    ∙ sym (get_or-map (λ (p : PlacedChannel). p.region) c.args.channels.now.placed.items c.args.number c.index.result.now no_region c.requires)
