use Rattle.std.proofs.Common.{◌≡◌, ◌≤◌, drop}
use Rattle.std.specs.Prelude.{max}
use Rattle.jxl_codestream.specs.Fronts.{end_of}
use Rattle.jxl_codestream.proofs.frame.end_of.Given as goal

abbrev pub invariant-loop-entry : goal.invariant-loop-entry
invariant-loop-entry l = record {
  same : max l.end (end_of (drop l.entry-index l.entries)) ≡ end_of l.entries;
  most : l.end ≤ l.most;
}
