use Rattle.std.proofs.Common.{length, ap, ◌∙◌, arith}
use Rattle.jxl_image_header.specs.Images.{image_of}
use Rattle.jxl_image_header.specs.declared.image.ImageHeader.{ImageHeader}
use Rattle.jxl_lossless.specs.Files.{upright}
use Rattle.jxl_c_picture.specs.Channels.{sample_count}
use Rattle.jxl_c.specs.Kinds.{limits_of}
use Rattle.jxl_c.proofs.Decodings.{never_other, other_samples, samples_by, samples_fit}
use Rattle.jxl_c.proofs.decode.jxl_lossless_decode.Goals as goal

pub returns-then-samples-sample_count-clause-count : goal.returns-then-samples-sample_count-clause-count
returns-then-samples-sample_count-clause-count c = λ _.
    other_samples c.args.limits.now c.args.file.now c.in-Ok.read c.in-Ok.ensures.ok c.header.result.now (length c.args.samples.now) c.header.ensures
    (λ e. omega (arith, e, c.if-samples-sample_count.true, c.sample_count.ensures))

pub returns-then-samples-sample_count-clause-enough : goal.returns-then-samples-sample_count-clause-enough
returns-then-samples-sample_count-clause-enough c = λ info of same seven.
    let e = never_other c.args.limits.now c.args.file.now c.in-Ok.read c.in-Ok.ensures.ok c.header.result.now info (length c.args.samples.now) c.header.ensures of same in
    omega (arith, e, c.if-samples-sample_count.true, c.sample_count.ensures)

pub move_cells-requires : goal.move_cells-requires
move_cells-requires c =
    samples_fit c.args.limits.now c.args.file.now c.in-Ok.read c.in-Ok.ensures.ok c.in-Ok-decode.picture (length c.args.samples.now) c.in-Ok-decode.ensures.header
    (c.if-samples-sample_count.false ∙ c.sample_count.ensures ∙ ap (λ (h : ImageHeader). sample_count (upright (image_of h))) c.header.ensures) c.in-Ok-decode.ensures.whole c.deref.result.now c.deref.ensures.value
    c.all_are_full.ensures

pub returns-in-Ok-decode-clause-done : goal.returns-in-Ok-decode-clause-done
returns-in-Ok-decode-clause-done c = λ _.
    samples_by c.args.limits.now c.args.file.now c.in-Ok.read c.in-Ok.ensures.ok c.in-Ok-decode.picture c.new-steps.result c.decode.new.steps c.new-steps.ensures
    (c.in-Ok-decode.ensures.picture (limits_of c.args.limits.now) c.args.file.now c.in-Ok.ensures.ok.is) c.in-Ok-decode.ensures.whole c.deref.result.now c.deref.ensures.value c.all_are_full.ensures
    c.move_cells.new.samples c.move_cells.ensures
