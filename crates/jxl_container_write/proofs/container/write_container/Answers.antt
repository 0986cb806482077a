use Rattle.std.proofs.Common.{rules, ◌≡◌}
use Rattle.std.specs.Option.{option_map}
use Rattle.jxl_container_write.specs.Containers.{boxes_of}
use Rattle.jxl_container_write.specs.Inner.Spelled.{signature}
use Rattle.jxl_container_write.proofs.Follows.{Written}
use Rattle.jxl_container_write.proofs.Files.{container_written}
use Rattle.jxl_container_write.proofs.container.write_container.Goals as goal

written : (c : goal.In_ok-add_box-2) → Written c.add_box-2.new.file.items (boxes_of c.args.codestream.now c.args.level (option_map (λ s. s.now) c.args.exif) (option_map (λ s. s.now) c.args.xmp)) c.args.codestream.now
written c = container_written c.args.codestream.now c.args.level (option_map (λ s. s.now) c.args.exif) (option_map (λ s. s.now) c.args.xmp)
    c.extend_from_slice.new.self.items c.add_box.new.file.items c.add_level.new.file.items c.add_box_if.new.file.items c.add_box_if-2.new.file.items c.add_box-2.new.file.items
    c.add_box-2.ensures.short c.add_box_if.ensures.short c.add_box_if-2.ensures.short
    signature_first c.in_ok-add_box.ensures.added c.in_ok-add_level.ensures c.in_ok-add_box_if.ensures.added c.in_ok-add_box_if-2.ensures.added c.in_ok-add_box-2.ensures.added where
      signature_first : c.extend_from_slice.new.self.items ≡ signature
      signature_first = search rules

pub returns-clause-boxes : goal.returns-clause-boxes
returns-clause-boxes c = (written c).boxes_are

pub returns-clause-codestream : goal.returns-clause-codestream
returns-clause-codestream c = (written c).has

pub returns-clause-sound : goal.returns-clause-sound
returns-clause-sound c = (written c).sound
