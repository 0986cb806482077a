use Rattle.std.proofs.Common.{ap, ◌∙◌}
use Rattle.jxl_frame_header.specs.Codings.{flags_of}
use Rattle.jxl_frame_header_write.proofs.CodingSpellings.{coding_parts, coding_spelled, flags_are}
use Rattle.jxl_frame_header_write.proofs.coding.write_coding.Goals as goal

pub write_number-requires-clause-fits : goal.write_number-requires-clause-fits
write_number-requires-clause-fits c = c.type_number-kind.ensures.small

pub write_factor_if-requires-clause-spelled : goal.write_factor_if-requires-clause-spelled
write_factor_if-requires-clause-spelled c = (coding_parts c.args.coding c.requires).factor

pub write_factor_if-requires-clause-usual : goal.write_factor_if-requires-clause-usual
write_factor_if-requires-clause-usual c = (coding_parts c.args.coding c.requires).whole

pub returns : goal.returns
returns c =
    coding_spelled c.args.xyb c.args.coding c.type_number-kind.result c.flags_number-flags.result c.args.bits.now c.write_number.new.bits c.write_flag.new.bits c.write_long.new.bits c.write_flag_if.new.bits
    c.write_factor_if.new.bits (coding_parts c.args.coding c.requires) c.type_number-kind.ensures (ap flags_of c.flags_number-flags.ensures.is ∙ flags_are c.args.coding.flags) c.in_ok-write_number.ensures
    c.in_ok-write_flag.ensures c.in_ok-write_long.ensures c.in_ok-write_flag_if.ensures c.in_ok-write_factor_if.ensures
