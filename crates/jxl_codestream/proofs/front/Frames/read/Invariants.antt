use Rattle.std.proofs.Common.{◌≤◌, length, map}
use Rattle.std.specs.Prelude.{All}
use Rattle.jxl_image_header.specs.Images.{image_of}
use Rattle.jxl_codestream.specs.Fronts.{AreBefore}
use Rattle.jxl_codestream.specs.FrontParts.{IsReadyFrame, frame_at}
use Rattle.jxl_codestream.proofs.front.Frames.read.Given as goal

abbrev pub invariant-loop : goal.invariant-loop
invariant-loop g l = record {
  before : AreBefore g.D.Decoder.meaning l.limits l.bytes (image_of l.image) (map frame_at l.saved.items) l.start l.used;
  inside : l.start ≤ length l.bytes;
  ready : All (IsReadyFrame l.bytes (image_of l.image)) l.saved.items;
}
