use Rattle.std.proofs.Common.{◌≡◌, true, take}
use Rattle.std.specs.List.{All}
use Rattle.std.specs.Option.{option_copied}
use Rattle.jxlm_transform.specs.Lists.{list_of}
use Rattle.jxlm_tree_depth.specs.Openings.{list_of_part}
use Rattle.jxl_lossless.specs.Inner.Depths.{IsShallow}
use Rattle.jxl_lossless.proofs.still.depths.some_section_deep.Given as goal

abbrev pub invariant-loop-section : goal.invariant-loop-section
invariant-loop-section g l =
    All (λ s. s.nested ≡ true → IsShallow g.D.Decoder.meaning (option_copied l.global) (list_of_part l.coded.group_dim l.coded.passes.items (list_of l.coded.channels)) l.deepest s) (take l.section-index l.sections)
