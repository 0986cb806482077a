use Rattle.std.proofs.Common.{◌-◌, length}
use Rattle.jxl_container.specs.Inner.Walks.{IsAt}
use Rattle.jxl_container.proofs.codestream.boxed.Given as goal

abbrev pub invariant-loop-place : goal.invariant-loop-place
invariant-loop-place l = IsAt l.file l.place l.seen l.joined.items

abbrev pub decreases-loop-place : goal.decreases-loop-place
decreases-loop-place l = length l.file - l.place
