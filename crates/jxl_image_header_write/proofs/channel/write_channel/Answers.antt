use Rattle.std.proofs.Common.{sym, ◌∙◌}
use Rattle.jxl_image_header_write.proofs.ChannelSpellings.{usual_channel}
use Rattle.jxl_image_header_write.proofs.channel.write_channel.Goals as goal

pub returns-then-is_usual_channel : goal.returns-then-is_usual_channel
returns-then-is_usual_channel c = usual_channel c.args.channel c.args.bits.now c.write_flag.new.bits (sym c.is_usual_channel.ensures ∙ c.if-is_usual_channel.true) c.in_ok-write_flag.ensures
