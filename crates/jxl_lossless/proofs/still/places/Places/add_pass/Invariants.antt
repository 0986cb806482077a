use Rattle.jxl_modular.specs.GroupParts.{image_of, passes_in}
use Rattle.jxl_lossless.specs.Parts.{first_of_pass}
use Rattle.jxl_lossless.specs.Inner.Listing.{AreAdded}
use Rattle.jxl_lossless.proofs.still.places.Places.add_pass.Given as goal

abbrev pub invariant-loop-group : goal.invariant-loop-group
invariant-loop-group g l = AreAdded l.self (first_of_pass (image_of l.groups) (passes_in l.groups) l.pass l.group) l.initial.list.items l.list.items
