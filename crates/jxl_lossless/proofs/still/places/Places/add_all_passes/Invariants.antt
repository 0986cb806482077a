use Rattle.jxl_modular.specs.GroupParts.{image_of, passes_in}
use Rattle.jxl_lossless.specs.Parts.{parts_of_passes}
use Rattle.jxl_lossless.specs.Inner.Listing.{AreAdded}
use Rattle.jxl_lossless.proofs.still.places.Places.add_all_passes.Given as goal

abbrev pub invariant-loop-pass : goal.invariant-loop-pass
invariant-loop-pass g l = AreAdded l.self (parts_of_passes (image_of l.groups) (passes_in l.groups) l.pass) l.initial.list.items l.list.items
