use Rattle.jxl_modular.specs.GroupParts.{image_of, passes_in}
use Rattle.jxlm_section_split.specs.CutPicture.{lf_groups}
use Rattle.jxl_lossless.specs.Parts.{with_samples}
use Rattle.jxl_lossless.specs.Inner.Listing.{AreAdded}
use Rattle.jxl_lossless.proofs.still.places.Places.add_all_low.Given as goal

abbrev pub invariant-loop-group : goal.invariant-loop-group
invariant-loop-group g l = AreAdded l.self (with_samples (image_of l.groups) (passes_in l.groups) (lf_groups l.group)) l.initial.list.items l.list.items
