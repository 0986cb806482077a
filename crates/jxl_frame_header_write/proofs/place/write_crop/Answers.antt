use Rattle.jxl_frame_header_write.proofs.PlaceSpellings.{crop_parts, crop_spelled}
use Rattle.jxl_frame_header_write.proofs.place.write_crop.Goals as goal

pub write_extent_if-requires-clause-spelled : goal.write_extent_if-requires-clause-spelled
write_extent_if-requires-clause-spelled c = rw c.corner_numbers-x.ensures.x (crop_parts c.args.size c.args.shown c.args.crop c.requires).x

pub write_extent_if-requires-clause-usual : goal.write_extent_if-requires-clause-usual
write_extent_if-requires-clause-usual c = rw c.corner_numbers-x.ensures.x (crop_parts c.args.size c.args.shown c.args.crop c.requires).no_x

pub write_extent_if-requires-2-clause-spelled : goal.write_extent_if-requires-2-clause-spelled
write_extent_if-requires-2-clause-spelled c = rw c.corner_numbers-x.ensures.y (crop_parts c.args.size c.args.shown c.args.crop c.requires).y

pub write_extent_if-requires-2-clause-usual : goal.write_extent_if-requires-2-clause-usual
write_extent_if-requires-2-clause-usual c = rw c.corner_numbers-x.ensures.y (crop_parts c.args.size c.args.shown c.args.crop c.requires).no_y

pub write_extent_if-requires-3-clause-spelled : goal.write_extent_if-requires-3-clause-spelled
write_extent_if-requires-3-clause-spelled c = λ e. (crop_parts c.args.size c.args.shown c.args.crop c.requires).width

pub write_extent_if-requires-4-clause-spelled : goal.write_extent_if-requires-4-clause-spelled
write_extent_if-requires-4-clause-spelled c = λ e. (crop_parts c.args.size c.args.shown c.args.crop c.requires).height

pub returns : goal.returns
returns c =
    crop_spelled c.args.size c.args.shown c.args.crop c.args.bits.now c.write_extent_if.new.bits c.write_extent_if-2.new.bits c.write_extent_if-3.new.bits c.write_extent_if-4.new.bits
    (crop_parts c.args.size c.args.shown c.args.crop c.requires) (rw c.corner_numbers-x.ensures.x at c.in_ok-write_extent_if.ensures) (rw c.corner_numbers-x.ensures.y at c.in_ok-write_extent_if-2.ensures)
    c.in_ok-write_extent_if-3.ensures c.in_ok-write_extent_if-4.ensures
