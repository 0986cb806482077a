use Rattle.std.proofs.Common.{◌≡◌, drop}
use Rattle.std.specs.Prelude.{max}
use Rattle.jxl_modular.specs.GroupParts.{pass_count}
use Rattle.jxl_modular.proofs.groups.PartStates.num_passes.Given as goal

abbrev pub invariant-loop-pass : goal.invariant-loop-pass
invariant-loop-pass l = max l.count (pass_count (drop l.pass-index l.self.passes.items)) ≡ pass_count l.self.passes.items
