use Rattle.std.proofs.Common.{ap, ◌∙◌, length, arith}
use Rattle.jxl_image_header.specs.Images.{image_of}
use Rattle.jxl_image_header.specs.declared.size.Size.{Size}
use Rattle.jxl_c_picture.specs.Channels.{channels_of, shown_as}
use Rattle.jxl_c.proofs.Decodings.{channels_by, other_channels}
use Rattle.jxl_c.proofs.channels.jxl_lossless_channels.Goals as goal

pub returns-then-channels-channel_count-clause-count : goal.returns-then-channels-channel_count-clause-count
returns-then-channels-channel_count-clause-count c = λ _.
    other_channels c.args.limits.now c.args.file.now c.in-Ok.read c.in-Ok.ensures.ok c.header-header.result.now (length c.args.channels.now) c.header-header.ensures
    (λ e. omega (arith, e, c.if-channels-channel_count.true, c.channel_count.ensures))

pub returns-clause-done : goal.returns-clause-done
returns-clause-done c = λ _.
    channels_by c.args.limits.now c.args.file.now c.in-Ok.read c.in-Ok.ensures.ok c.header-header.result.now c.put_channels.new.channels c.header-header.ensures
    (c.put_channels.ensures ∙ ap (λ (s : Size). channels_of (shown_as s (image_of c.header-header.result.now))) c.shown_size.ensures)
