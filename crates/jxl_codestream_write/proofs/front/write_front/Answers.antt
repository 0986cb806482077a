use Rattle.std.proofs.Common.{rules, ◌≡◌, ◌++◌}
use Rattle.jxl_image_header.specs.Images.{image_of}
use Rattle.jxl_codestream_write.proofs.Fronts.{no_animation, still_front}
use Rattle.jxl_codestream_write.proofs.front.write_front.Goals as goal

pub write_frame-requires-clause-still : goal.write_frame-requires-clause-still
write_frame-requires-clause-still g c = no_animation (image_of c.args.image.now) c.requires.supported

pub returns : goal.returns
returns g c =
    still_front g.D.Decoder.meaning (image_of c.args.image.now) c.args.shift c.args.sizes.now c.in_ok-front.front.items c.in_ok-frame.frame.items c.in_ok-front.ensures.front c.in_ok-front.ensures.bare
    c.in_ok-frame.ensures c.requires.supported c.requires.plain c.requires.count c.requires.few c.extend_from_slice.new.self.items joined where
      joined : c.extend_from_slice.new.self.items ≡ c.in_ok-front.front.items ++ c.in_ok-frame.frame.items
      joined = search rules
