use Rattle.std.proofs.Common.{arith}
use Rattle.jxl_text.proofs.RowWords.{go_on, ended, uncut, no_word, no_last}
use Rattle.jxl_text.proofs.rows.read_row.Goals as goal

pub returns-in_default : goal.returns-in_default
returns-in_default g c =
    uncut g.S.Sealed.to_int g.S.Sealed.width g.met.S.Sealed.fits_i32 c.args.line.now c.loop-x.left.now c.args.cells.now.items c.loop-x.cells.items c.args.width c.loop-x._x c.loop-x.invariant
    c.loop-x-test.true c.in_default.ensures

pub returns-in_default-sample : goal.returns-in_default-sample
returns-in_default-sample g c =
    no_word g.S.Sealed.to_int g.S.Sealed.width g.met.S.Sealed.fits_i32 c.args.line.now c.loop-x.left.now c.args.cells.now.items c.loop-x.cells.items c.args.width c.loop-x._x c.loop-x.invariant
    c.in-Some.word.now c.in-Some.after.now c.loop-x-test.true c.in-Some.ensures c.in_default-sample.ensures

pub loop-x-preserved : goal.loop-x-preserved
loop-x-preserved g c =
    go_on g.S.Sealed.to_int g.S.Sealed.width c.args.line.now c.loop-x.left.now c.in-Some.word.now c.in-Some.after.now c.args.cells.now.items c.loop-x.cells.items c.push.new.self.items c.loop-x._x
    c.in-Some-sample.sample c.loop-x.invariant c.in-Some.ensures c.in-Some-sample.ensures c.in_ok-push.ensures.items

pub returns-in_default-sample-2 : goal.returns-in_default-sample-2
returns-in_default-sample-2 g c =
    no_last g.S.Sealed.to_int g.S.Sealed.width g.met.S.Sealed.fits_i32 c.args.line.now c.loop-x.left.now c.args.cells.now.items c.loop-x.cells.items c.args.width c.loop-x._x c.loop-x.invariant
    (omega (arith, c.if-width-eq0.false)) c.in_default-sample-2.ensures

pub returns : goal.returns
returns g c =
    ended g.S.Sealed.to_int g.S.Sealed.width c.args.line.now c.loop-x.left.now c.args.cells.now.items c.loop-x.cells.items c.push-2.new.self.items c.args.width c.loop-x._x c.in-Some-sample-2.last
    c.loop-x.invariant (omega (arith, c.if-width-eq0.false)) c.in-Some-sample-2.ensures c.in_ok-push-2.ensures.items
