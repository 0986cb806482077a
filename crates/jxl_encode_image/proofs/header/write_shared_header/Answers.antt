use Rattle.jxl_encode_image.specs.Preparations.{image_transforms}
use Rattle.jxl_encode_image.proofs.HeaderSpellings.{header_spelled}
use Rattle.jxl_encode_image.proofs.header.write_shared_header.Goals as goal

pub returns : goal.returns
returns c =
    header_spelled (image_transforms c.args.transforms.now) c.args.bits.now c.write_flag.new.bits c.write_flag-2.new.bits c.write_transforms.new.bits c.in_ok-write_flag.ensures c.in_ok-write_flag-2.ensures
    c.in_ok-write_transforms.ensures
