use Rattle.jxlm_bit_writer.proofs.WriteLaws.{none_repeated}
use Rattle.jxl_encode_image.specs.Inner.Lists.{file_transform}
use Rattle.jxl_encode_image.specs.declared.transform.ImageTransform.{ImageTransform}
use Rattle.jxl_encode_image.specs.declared.transform.ImageTransform.TheVariants as images
use Rattle.jxl_encode_image.proofs.HeaderSpellings.{listed_spelled, next_listed, whole_list}
use Rattle.jxl_encode_image.proofs.header.write_each.Goals as goal

abbrev none : ImageTransform
none = images.Colour (record { begin_c = 0; rct_type = 0 })

pub loop-transform-init : goal.loop-transform-init
loop-transform-init c = none_repeated file_transform c.args.bits.now

pub write_transform-requires : goal.write_transform-requires
write_transform-requires c = listed_spelled c.args.transforms.now c.loop-transform.transform-index none c.requires c.loop-transform-test.true

pub loop-transform-preserved : goal.loop-transform-preserved
loop-transform-preserved c =
    next_listed c.args.transforms.now c.loop-transform.transform-index none c.args.bits.now c.loop-transform.bits c.write_transform.new.bits c.loop-transform-test.true c.loop-transform.invariant
    c.in_ok-write_transform.ensures

pub returns : goal.returns
returns c =
    whole_list c.args.transforms.now c.loop-transform.transform-index c.args.bits.now c.loop-transform.bits c.loop-transform-test.false c.loop-transform.auto.transform-index-end c.loop-transform.invariant
