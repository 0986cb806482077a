use Rattle.std.proofs.Common.{[]}
use Rattle.jxlm_bits.specs.Grammar.{repeated}
use Rattle.jxlm_bit_writer.proofs.WriteLaws.{absent}
use Rattle.jxl_frame_header.specs.Codings.{factor}
use Rattle.jxl_frame_header_write.proofs.CodingSpellings.{factors_spelled, none_in, all_factors, no_factors}
use Rattle.jxl_frame_header_write.proofs.coding.write_factors_if.Goals as goal

pub returns-then-not-present : goal.returns-then-not-present
returns-then-not-present c =
    absent c.args.present (repeated c.args.extra factor) [] c.args.factors.now c.args.bits.now c.if-not-present.true
    (none_in c.args.factors.now (no_factors c.args.present c.args.extra c.args.factors.now c.if-not-present.true c.requires))

pub write_fields-requires-clause-spelled : goal.write_fields-requires-clause-spelled
write_fields-requires-clause-spelled c = all_factors c.args.present c.args.extra c.args.factors.now c.if-not-present.false c.requires

pub returns : goal.returns
returns c =
    factors_spelled c.args.present c.args.extra c.args.factors.now c.args.bits.now c.write_fields.new.bits c.if-not-present.false c.requires c.in_ok-write_fields.ensures
