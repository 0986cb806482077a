use Rattle.std.proofs.Common.{◌≡◌, length, take}
use Rattle.std.specs.Prelude.{replicate}
use Rattle.jxlm_samples.proofs.rows.fill.Given as goal

abbrev pub invariant-loop-x : goal.invariant-loop-x
invariant-loop-x g l = record {
  len : length l.row ≡ length l.fn.row;
  filled : take l.x l.row ≡ replicate l.x l.value;
}
