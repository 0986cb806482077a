use Rattle.std.proofs.Common.{◌≡◌, true, rules}
use Rattle.std.specs.Option.{option_copied}
use Rattle.jxlm_transform.specs.Lists.{list_of}
use Rattle.jxlm_tree_depth.specs.Openings.{list_of_part}
use Rattle.jxl_lossless.proofs.Depths.{section_says}
use Rattle.jxl_lossless.proofs.still.depths.is_deep.Goals as goal

pub returns : goal.returns
returns g c =
    let nested : c.args.section.now.nested ≡ true = search rules in
    let coded = c.args.coded.now in
    section_says g.D.Decoder.meaning (option_copied c.args.global) (list_of_part coded.group_dim coded.passes.items (list_of coded.channels)) c.args.deepest c.args.section.now c.has_deep_tree.result nested c.has_deep_tree.ensures
