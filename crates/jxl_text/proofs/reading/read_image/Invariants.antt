use Rattle.std.proofs.Common.{length, map}
use Rattle.jxlm_base.specs.Grid.{meanings}
use Rattle.jxl_text.proofs.ReadRows.{ImageBegun}
use Rattle.jxl_text.proofs.reading.read_image.Given as goal

abbrev pub invariant-loop-lines : goal.invariant-loop-lines
invariant-loop-lines g l = ImageBegun g.S.Sealed.width l.text l.lines.rest.now (map (meanings g.S.Sealed.to_int) l.channels.items) l.lines.taken

abbrev pub decreases-loop-lines : goal.decreases-loop-lines
decreases-loop-lines g l = length l.lines.rest.now
