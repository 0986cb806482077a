use Rattle.std.proofs.Common.{◌≡◌, ℕ, ◌+◌, List, take}
use Rattle.std.specs.Prelude.{sum}
use Rattle.std.specs.List.{AllZip}
use Rattle.jxlm_transform.specs.Lists.{list_of}
use Rattle.jxlm_tree_depth.specs.Openings.{list_of_part}
use Rattle.jxl_lossless.specs.Inner.Codewords.{SectionHas}
use Rattle.jxl_lossless.proofs.still.codewords.sections_exceed.Given as goal

abbrev pub invariant-loop-section : goal.invariant-loop-section
invariant-loop-section l =
    (ns : List ℕ) × AllZip (SectionHas (list_of_part l.coded.group_dim l.coded.passes.items (list_of l.coded.channels))) (take l.section-index l.sections) ns
    × (l.left + (l.own + sum ns) ≡ l.most)
