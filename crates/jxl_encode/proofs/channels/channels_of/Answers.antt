use Rattle.std.proofs.Common.{◌≡◌, ◌∙◌, List, ap, take, arith}
use Rattle.std.proofs.lemmas.List.{take_all}
use Rattle.jxl_image_header.specs.Images.{image_of}
use Rattle.jxl_image_header.specs.declared.channel.ExtraChannel.{ExtraChannel}
use Rattle.jxl_picture.specs.Pictures.{colour_count}
use Rattle.jxl_encode.proofs.Given.{given_of, listed}
use Rattle.jxl_encode.proofs.channels.channels_of.Goals as goal

pub returns : goal.returns
returns c =
    let header = c.args.header.now in
    let all : take c.loop-channel.channel-index c.deref-channel-items.result.now ≡ header.ec_info.items =
    take_all c.loop-channel.channel-index c.deref-channel-items.result.now (omega arith) ∙ c.deref-channel-items.ensures.value in
    given_of (image_of header) c.loop-channel.list.items c.requires.supported c.requires.wide c.requires.high c.requires.few
    (c.loop-channel.invariant ∙ ap (λ (cs : List ExtraChannel). listed (colour_count (image_of header)) cs header.size) all)
