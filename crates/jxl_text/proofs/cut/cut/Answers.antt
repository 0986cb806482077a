use Rattle.std.proofs.Common.{take, subst, arith}
use Rattle.std.proofs.lemmas.List.{take_all}
use Rattle.jxl_text.specs.Inner.Cuts.{Lacks}
use Rattle.jxl_text.proofs.Cuts.{Lacks-more, cut_at}
use Rattle.jxl_text.proofs.cut.cut.Goals as goal

pub returns-then-x-byte : goal.returns-then-x-byte
returns-then-x-byte c = cut_at c.args.byte c.args.text.now c.loop-i.i c.loop-i-test.true c.if-x-byte.true c.loop-i.invariant

pub loop-i-preserved : goal.loop-i-preserved
loop-i-preserved c = Lacks-more c.args.byte c.args.text.now c.loop-i.i c.loop-i-test.true c.loop-i.invariant c.if-x-byte.false

pub returns : goal.returns
returns c = subst (Lacks c.args.byte) (take_all c.loop-i.i c.args.text.now (omega arith)) c.loop-i.invariant
