use Rattle.std.specs.Io.KnownBytes.{Keeps}
use Rattle.jxl_netpbm.proofs.output.AnyOutput.write_part.Given as goal

abbrev pub invariant-loop : goal.invariant-loop
invariant-loop g l = Keeps (g.W.Write.contents l.initial.self) (g.W.Write.contents l.self)
