use Rattle.std.proofs.Common.{string_bytes}
use Rattle.jxldec.proofs.Written.{StandsAt}
use Rattle.jxldec.proofs.frames.write_frames.Given as goal

-- the pictures before this number are written
abbrev pub invariant-loop-number : goal.invariant-loop-number
invariant-loop-number g l =
    StandsAt l.limits l.file l.fn.asked l.pattern (string_bytes l.left_out.channels) l.left_out.loss (g.S.Outputs.pages l.fn.outputs) (g.S.Outputs.pages l.outputs) l.number l.steps l.decoder
