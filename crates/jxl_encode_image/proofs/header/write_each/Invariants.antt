use Rattle.std.proofs.Common.{take}
use Rattle.jxlm_bits.specs.Grammar.{repeated}
use Rattle.jxlm_bit_writer.specs.Writes.{Spells}
use Rattle.jxl_encode_image.specs.Inner.Lists.{file_transform}
use Rattle.jxl_encode_image.specs.Preparations.{image_transforms}
use Rattle.jxl_encode_image.proofs.header.write_each.Given as goal

abbrev pub invariant-loop-transform : goal.invariant-loop-transform
invariant-loop-transform l = Spells l.fn.bits l.bits (repeated l.transform-index file_transform) (take l.transform-index (image_transforms l.transforms))
