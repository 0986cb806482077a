use Rattle.std.proofs.Common.{rules, length}
use Rattle.jxl_icc_write.specs.Inner.Streams.{number_bytes}
use Rattle.jxl_icc_write.proofs.Literals.{parts_joined}
use Rattle.jxl_icc_write.proofs.stream.joined.Goals as goal

pub returns : goal.returns
returns c =
    parts_joined (number_bytes 4 c.args.size) (number_bytes 4 (length c.args.commands.now)) c.args.commands.now c.args.header.now c.args.others.now c.new-encoded.result.items
    c.push_number.new.out.items c.push_number-2.new.out.items c.extend_from_slice.new.self.items c.extend_from_slice-2.new.self.items c.extend_from_slice-3.new.self.items
    (search rules) (search rules) (search rules) (search rules) (search rules) (search rules)
