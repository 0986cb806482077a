use Rattle.jxlm_bits.specs.Bits.{bytes_of, position_of}
use Rattle.jxlm_tree_depth.proofs.Depths.{flag_missing, flag_read}
use Rattle.jxlm_tree_depth.proofs.depth.uses_global.Goals as goal

pub returns-in-Ok : goal.returns-in-Ok
returns-in-Ok c = flag_read (bytes_of c.args.bits) (position_of c.args.bits) c.in-Ok.uses (position_of c.read_bool.new.self) c.in-Ok.ensures.gives

pub returns-in-Err : goal.returns-in-Err
returns-in-Err c = flag_missing (bytes_of c.args.bits) (position_of c.args.bits) _ c.in-Err.ensures.gives
