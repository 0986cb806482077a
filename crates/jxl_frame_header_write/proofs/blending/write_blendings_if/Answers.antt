use Rattle.std.proofs.Common.{[], true}
use Rattle.jxlm_bits.specs.Grammar.{repeated}
use Rattle.jxlm_bit_writer.proofs.WriteLaws.{absent}
use Rattle.jxl_frame_header.specs.Blendings.{blending_info}
use Rattle.jxl_frame_header_write.proofs.CodingSpellings.{none_in}
use Rattle.jxl_frame_header_write.proofs.BlendingSpellings.{blendings_spelled, all_blend, no_blendings}
use Rattle.jxl_frame_header_write.proofs.blending.write_blendings_if.Goals as goal

pub returns-then-not-present : goal.returns-then-not-present
returns-then-not-present c =
    absent c.args.present (repeated c.args.extra (blending_info true c.args.extra c.args.partial)) [] c.args.infos.now c.args.bits.now c.if-not-present.true
    (none_in c.args.infos.now (no_blendings c.args.present c.args.extra c.args.partial c.args.infos.now c.if-not-present.true c.requires))

pub write_blendings-requires : goal.write_blendings-requires
write_blendings-requires c = all_blend c.args.present c.args.extra c.args.partial c.args.infos.now c.if-not-present.false c.requires

pub returns : goal.returns
returns c =
    blendings_spelled c.args.present c.args.extra c.args.partial c.args.infos.now c.args.bits.now c.write_blendings.new.bits c.if-not-present.false c.requires c.in_ok-write_blendings.ensures
