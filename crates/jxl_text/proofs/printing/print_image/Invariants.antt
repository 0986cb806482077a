use Rattle.std.proofs.Common.{◌≡◌, take, map, string_bytes}
use Rattle.jxlm_base.specs.Grid.{meanings}
use Rattle.jxl_text.specs.Printing.{image_text}
use Rattle.jxl_text.proofs.printing.print_image.Given as goal

abbrev pub invariant-loop-number : goal.invariant-loop-number
invariant-loop-number g l = string_bytes l.text ≡ image_text (map (meanings g.S.Sealed.to_int) (take l.number l.channels))
