use Rattle.std.proofs.Common.{◌≡◌, false, refl, true, rules}
use Rattle.jxlm_transform.specs.Lists.{list_of}
use Rattle.jxlm_tree_depth.specs.Openings.{list_of_part}
use Rattle.jxl_lossless.proofs.Codewords.{section_has, section_without}
use Rattle.jxl_lossless.proofs.still.codewords.section_codewords.Goals as goal

pub returns-then-not-section : goal.returns-then-not-section
returns-then-not-section c =
    let coded = c.args.coded.now in
    let other : c.args.section.now.nested ≡ false = search rules in
    section_without (list_of_part coded.group_dim coded.passes.items (list_of coded.channels)) c.args.section.now 0 refl other

pub returns : goal.returns
returns c =
    let coded = c.args.coded.now in
    let nested : c.args.section.now.nested ≡ true = search rules in
    section_has (list_of_part coded.group_dim coded.passes.items (list_of coded.channels)) c.args.section.now c.in_ok-tree.tree c.own_codewords.result nested c.in_ok-tree.ensures c.own_codewords.ensures
