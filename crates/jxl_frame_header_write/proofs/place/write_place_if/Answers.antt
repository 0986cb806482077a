use Rattle.jxl_frame_header.specs.Places.{crop}
use Rattle.jxl_image_header_write.proofs.Spellings.{option_told, option_untold}
use Rattle.jxl_frame_header_write.proofs.PlaceSpellings.{place_none, place_some}
use Rattle.jxl_frame_header_write.proofs.place.write_place_if.Goals as goal

pub write_crop-requires : goal.write_crop-requires
write_crop-requires c = place_some c.args.present c.args.size c.args.shown c.args.crop c.in-Some.crop c.requires c.in-Some.is

pub returns-in_ok-write_crop-in-Some : goal.returns-in_ok-write_crop-in-Some
returns-in_ok-write_crop-in-Some c =
    option_told c.args.present (crop c.args.size c.args.shown) c.args.crop c.in-Some.crop c.is_some.result c.args.bits.now c.write_flag_if.new.bits c.write_crop.new.bits c.in-Some.is c.is_some.ensures
    (place_none c.args.present c.args.size c.args.shown c.args.crop c.requires) c.in_ok-write_flag_if.ensures c.in_ok-write_crop-in-Some.ensures

pub returns-in-None : goal.returns-in-None
returns-in-None c =
    option_untold c.args.present (crop c.args.size c.args.shown) c.args.crop c.is_some.result c.args.bits.now c.write_flag_if.new.bits c.in-None.is c.is_some.ensures c.in_ok-write_flag_if.ensures
