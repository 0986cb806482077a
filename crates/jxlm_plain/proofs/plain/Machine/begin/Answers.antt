use Rattle.jxlm_bits.specs.Bits.{bytes_of, position_of}
use Rattle.jxlm_plain.proofs.PlainGives.{begin_given, begin_kept}
use Rattle.jxlm_plain.proofs.plain.Machine.begin.Goals as goal

pub returns-clause-gives : goal.returns-clause-gives
returns-clause-gives c =
    rw (← c.self.view_is)
    (begin_given c.self.inside.mode _ c.self.inside.codes.items c.self.inside.clusters.items c.begin_of.result (bytes_of c.args.bits.now) (position_of c.args.bits.now) _ c.begin_of.ensures.gives)

pub returns-clause-keeps : goal.returns-clause-keeps
returns-clause-keeps c =
    rw (← c.self.view_is)
    (begin_kept c.self.inside.mode _ c.self.inside.codes.items c.self.inside.clusters.items c.begin_of.result (bytes_of c.args.bits.now) (position_of c.args.bits.now) _
    c.begin_of.ensures.gives c.begin_of.ensures.err)
