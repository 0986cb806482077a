use Rattle.std.proofs.Common.{◌≡◌, length, ◌∙◌, arith}
use Rattle.jxl_frame_header.specs.Passes.{passes_of}
use Rattle.jxl_frame_header_write.proofs.CodingSpellings.{passes_parts, few_resolutions, passes_spelled}
use Rattle.jxl_frame_header_write.proofs.passes.write_passes_if.Goals as goal

pub overflow_cast-resolutions : goal.overflow_cast-resolutions
overflow_cast-resolutions c =
    let few = few_resolutions c.args.present (passes_of c.args.passes.now) (passes_parts c.args.present (passes_of c.args.passes.now) c.requires) in
    let same : c.len-resolutions.result ≡ length c.args.passes.now.downsample.items = c.len-resolutions.ensures ∙ c.args.passes.now.downsample.ok.0 in
    search (arith, few, same)

pub write_field_if-requires-2-clause-spelled : goal.write_field_if-requires-2-clause-spelled
write_field_if-requires-2-clause-spelled c = λ e.
    rw (c.len-resolutions.ensures ∙ c.args.passes.now.downsample.ok.0) ((passes_parts c.args.present (passes_of c.args.passes.now) c.requires).few e).0

pub write_field_if-requires-2-clause-usual : goal.write_field_if-requires-2-clause-usual
write_field_if-requires-2-clause-usual c = λ e.
    rw (c.len-resolutions.ensures ∙ c.args.passes.now.downsample.ok.0) ((passes_parts c.args.present (passes_of c.args.passes.now) c.requires).none e)

pub write_fields-requires-clause-spelled : goal.write_fields-requires-clause-spelled
write_fields-requires-clause-spelled c = rw c.deref.ensures.value (passes_parts c.args.present (passes_of c.args.passes.now) c.requires).small

pub write_fields-requires-2-clause-spelled : goal.write_fields-requires-2-clause-spelled
write_fields-requires-2-clause-spelled c = rw c.deref-2.ensures.value (passes_parts c.args.present (passes_of c.args.passes.now) c.requires).factors

pub write_fields-requires-3-clause-spelled : goal.write_fields-requires-3-clause-spelled
write_fields-requires-3-clause-spelled c = rw c.deref-3.ensures.value (passes_parts c.args.present (passes_of c.args.passes.now) c.requires).lasts

pub returns : goal.returns
returns c =
    passes_spelled c.args.present (passes_of c.args.passes.now) c.args.bits.now c.write_field_if.new.bits c.write_field_if-2.new.bits c.write_fields.new.bits c.write_fields-2.new.bits c.write_fields-3.new.bits
    (passes_parts c.args.present (passes_of c.args.passes.now) c.requires) c.in_ok-write_field_if.ensures
    (rw (c.len-resolutions.ensures ∙ c.args.passes.now.downsample.ok.0) at c.in_ok-write_field_if-2.ensures) (rw c.deref.ensures.value at c.in_ok-write_fields.ensures)
    (rw c.deref-2.ensures.value at c.in_ok-write_fields-2.ensures) (rw c.deref-3.ensures.value at c.in_ok-write_fields-3.ensures)
