use Rattle.std.proofs.Common.{◌≡◌, drop}
use Rattle.jxl_patches.specs.SavedParts.{slots_of}
use Rattle.jxl_layers.specs.Refusals.{slots_refusal}
use Rattle.jxl_layers.proofs.refusal.slots_refusal.Given as goal

abbrev pub invariant-loop-info : goal.invariant-loop-info
invariant-loop-info l = slots_refusal l.size (slots_of l.slots) (drop l.info-index l.infos) ≡ slots_refusal l.size (slots_of l.slots) l.infos
