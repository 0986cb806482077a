use Rattle.std.proofs.Common.{map, take}
use Rattle.jxl_image_header.specs.Images.{image_of}
use Rattle.jxl_codestream.specs.FrontParts.{frame_at}
use Rattle.jxl_patches.specs.Slots.{no_slots}
use Rattle.jxl_lossless.specs.Saved.{AreSaved, HoldChannels}
use Rattle.jxl_patches.specs.SavedParts.{slots_of}
use Rattle.jxl_lossless.proofs.codestream.CodestreamInput.decode_saved.Given as goal

abbrev pub invariant-loop-frame : goal.invariant-loop-frame
invariant-loop-frame g l = record {
  saved : AreSaved g.D.Decoder.meaning l.self.bytes.now (image_of l.self.image.now) (map frame_at (take l.frame-index l.self.frames.now.saved.items)) no_slots (slots_of l.slots) l.fn.steps l.steps;
  held : HoldChannels (image_of l.self.image.now) (slots_of l.slots);
}
