use Rattle.std.proofs.Common.{min}
use Rattle.jxldec.proofs.Animated.{StandsFrom}
use Rattle.jxldec.proofs.animation.apng_of.Given as goal

-- the pictures before this number are written
abbrev pub invariant-loop-number : goal.invariant-loop-number
invariant-loop-number l =
    let a = l.fn.animation in
    StandsFrom l.limits l.file a l.fn.source.beside (min a.num_loops 0x7FFFFFFF) l.number-end l.first l.number l.steps l.decoder l.writer
