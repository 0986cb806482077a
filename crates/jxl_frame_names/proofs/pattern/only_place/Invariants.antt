use Rattle.jxl_frame_names.proofs.Places.{AreBefore}
use Rattle.jxl_frame_names.proofs.pattern.only_place.Given as goal

-- what was found so far
abbrev pub invariant-loop-start : goal.invariant-loop-start
invariant-loop-start l = AreBefore l.name l.start l.found
