use Rattle.jxl_encode_image.specs.Preparations.{image_transforms}
use Rattle.jxl_encode_image.proofs.HeaderSpellings.{all_listed}
use Rattle.jxl_encode_image.proofs.header.write_transforms.Goals as goal

pub returns : goal.returns
returns c = all_listed _ (image_transforms c.args.transforms.now) c.args.bits.now c.write_count.new.bits c.write_each.new.bits c.in_ok-write_count.ensures c.in_ok-write_each.ensures
