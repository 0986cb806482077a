use Rattle.jxl_image_header.specs.Images.{image_of}
use Rattle.jxl_patches.specs.Dictionaries.{patches_of}
use Rattle.jxl_patches.specs.Patched.{patching}
use Rattle.jxl_patches.specs.SavedParts.{frames_in}
use Rattle.jxl_patches.proofs.Channels.{ArePlacesPut}
use Rattle.jxl_patches.proofs.dictionary.Dictionary.apply.Given as goal

abbrev pub invariant-loop-n : goal.invariant-loop-n
invariant-loop-n l = ArePlacesPut (patching (image_of l.image) (frames_in l.slots) l.colours (patches_of l.self) l.fn.channels) l.n l.fn.channels l.channels
