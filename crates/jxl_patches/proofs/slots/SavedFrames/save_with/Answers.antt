use Rattle.std.proofs.Common.{Some}
use Rattle.std.proofs.lemmas.List.{map-set}
use Rattle.std.specs.Option.{option_map}
use Rattle.jxl_patches.specs.SavedParts.{saved_of}
use Rattle.jxl_patches.specs.declared.slots.SavedFrame.{SavedFrame}
use Rattle.jxl_patches.proofs.slots.SavedFrames.save_with.Goals as goal

pub returns : goal.returns
returns c =
    let frame : SavedFrame = record { size = c.args.size; channels = c.args.channels; singles = c.args.singles } in
    rw c.keep.ensures (map-set (option_map saved_of) c.args.self.now.slots c.args.slot (Some frame))
