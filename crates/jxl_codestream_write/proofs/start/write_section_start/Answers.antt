use Rattle.jxl_codestream_write.proofs.Starts.{start_written}
use Rattle.jxl_codestream_write.proofs.start.write_section_start.Goals as goal

pub returns : goal.returns
returns c = start_written c.args.tree_follows c.args.bits.now c.write_bundle_if.new.bits c.write_flag.new.bits c.in_ok-write_bundle_if.ensures c.in_ok-write_flag.ensures
