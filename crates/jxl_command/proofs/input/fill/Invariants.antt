use Rattle.std.proofs.Common.{◌≡◌, ◌≤◌, length, take}
use Rattle.std.specs.Io.KnownBytes.{Consumes}
use Rattle.jxl_command.proofs.input.fill.Given as goal

abbrev pub invariant-loop : goal.invariant-loop
invariant-loop g l = record {
  same : length l.buf ≡ length l.initial.buf;
  within : l.at ≤ length l.buf;
  read : Consumes (g.R.Read.remaining l.initial.input) (g.R.Read.remaining l.input) (take l.at l.buf);
}
