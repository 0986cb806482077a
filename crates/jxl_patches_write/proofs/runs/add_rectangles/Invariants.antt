use Rattle.std.proofs.Common.{◌≤◌, length, take}
use Rattle.jxl_patches_write.specs.Inner.Given.{AddsTokens, GiveRectangles}
use Rattle.jxl_patches_write.proofs.runs.add_rectangles.Given as goal

abbrev pub invariant-loop : goal.invariant-loop
invariant-loop l = record {
  inside : l.start ≤ length l.places;
  passed : l.counter ≤ l.start;
  few : l.count ≤ l.start;
  read_as : AddsTokens l.fn.tokens.items l.tokens.items (GiveRectangles l.kinds l.count (take l.start l.places) l.places);
}
