use Rattle.std.proofs.Common.{None}
use Rattle.jxl_coding_stream_write.proofs.HeadReads.{own_written}
use Rattle.jxl_coding_stream_write.proofs.head.write_own_codes.Goals as goal

pub returns : goal.returns
returns c = own_written c.args.writer.now c.requires c.args.bits.now c.write_codes.new.bits (c.in_ok-write_codes.ensures c.args.writer.now.clusters.items None)
