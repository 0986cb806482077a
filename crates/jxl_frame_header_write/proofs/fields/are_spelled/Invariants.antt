use Rattle.std.proofs.Common.{◌≡◌, take, true}
use Rattle.std.specs.List.{list_all}
use Rattle.jxlm_bit_writer.specs.Fields.{is_spelled}
use Rattle.jxl_frame_header_write.proofs.fields.are_spelled.Given as goal

abbrev pub invariant-loop-value : goal.invariant-loop-value
invariant-loop-value l = list_all (is_spelled l.d0 l.d1 l.d2 l.d3) (take l.value-index l.values) ≡ true
