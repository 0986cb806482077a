use Rattle.std.proofs.Common.{rules, ◌≡◌, ◌++◌}
use Rattle.std.specs.Option.{option_map}
use Rattle.jxl_coding.specs.Parse.{decoder_at}
use Rattle.jxl_coding.specs.Tokens.{entropy}
use Rattle.jxl_image_header.specs.Images.{image_of}
use Rattle.jxl_codestream_write.proofs.Fronts.{no_animation, profiled_front}
use Rattle.jxl_codestream_write.proofs.front.write_front_with_profile.Goals as goal

pub write_frame-requires-clause-still : goal.write_frame-requires-clause-still
write_frame-requires-clause-still c = no_animation (image_of c.args.image.now) c.requires.supported

pub returns : goal.returns
returns c =
    profiled_front (entropy decoder_at) (image_of c.args.image.now) (option_map (λ s. s.now) c.args.profile) c.args.shift c.args.sizes.now c.in_ok-front.front.items c.in_ok-frame.frame.items
    c.in_ok-front.ensures.front c.in_ok-front.ensures.bare c.in_ok-frame.ensures c.requires.supported c.requires.count c.requires.few c.extend_from_slice.new.self.items joined where
      joined : c.extend_from_slice.new.self.items ≡ c.in_ok-front.front.items ++ c.in_ok-frame.frame.items
      joined = search rules
