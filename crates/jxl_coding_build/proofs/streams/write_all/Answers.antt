use Rattle.jxl_coding_build.proofs.streams.write_all.Goals as goal

pub returns : goal.returns
returns c = let s = c.in_ok-write_tokens.ensures in (c.write_any_head.new.bits, s.0, c.in_ok-write_any_head.ensures, s.1, s.2)
