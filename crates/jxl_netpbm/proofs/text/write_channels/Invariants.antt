use Rattle.std.proofs.Common.{take}
use Rattle.std.specs.Io.KnownBytes.{Appends}
use Rattle.jxl_text.specs.Printing.{image_text}
use Rattle.jxl_netpbm.proofs.text.write_channels.Given as goal

abbrev pub invariant-loop-number : goal.invariant-loop-number
invariant-loop-number g l =
    Appends (g.W.Write.contents l.initial.output) (g.W.Write.contents l.output) (image_text (take l.number l.channels))
