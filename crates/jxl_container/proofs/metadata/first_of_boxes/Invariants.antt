use Rattle.std.proofs.Common.{◌-◌, length}
use Rattle.jxl_container.specs.Inner.Searches.{IsSearched}
use Rattle.jxl_container.proofs.metadata.first_of_boxes.Given as goal

abbrev pub invariant-loop-place : goal.invariant-loop-place
invariant-loop-place l = IsSearched l.file l.sought l.place l.seen l.first

abbrev pub decreases-loop-place : goal.decreases-loop-place
decreases-loop-place l = length l.file - l.place
