use Rattle.jxl_patches.specs.Dictionaries.{patches_of}
use Rattle.jxl_patches.specs.SavedParts.{slots_of}
use Rattle.jxl_patches.proofs.Holding.{fits}
use Rattle.jxl_patches.proofs.patches.put_patches.Goals as goal

pub apply-requires : goal.apply-requires
apply-requires c =
    fits c.args.colours c.args.extra c.args.size (slots_of c.args.slots.now) (patches_of c.in-Some.dictionary) c.args.channels.now (rw c.in-Some.is at c.requires.fits) c.requires.held c.requires.sides
