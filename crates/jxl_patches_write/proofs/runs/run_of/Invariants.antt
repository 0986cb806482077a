use Rattle.std.proofs.Common.{◌≡◌, ℕ, ◌<◌, get_or}
use Rattle.jxl_patches.specs.Patches.{nowhere}
use Rattle.jxl_patches_write.proofs.runs.run_of.Given as goal

abbrev pub invariant-loop-n : goal.invariant-loop-n
invariant-loop-n l = (k : ℕ) → k < l.n → (get_or l.places k nowhere).source ≡ (get_or l.places 0 nowhere).source
