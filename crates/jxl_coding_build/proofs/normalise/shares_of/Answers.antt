use Rattle.jxl_coding_build.proofs.Quotients.{shares_more}
use Rattle.jxl_coding_build.proofs.normalise.shares_of.Goals as goal

pub loop-count-preserved : goal.loop-count-preserved
loop-count-preserved c =
    let m = shares_more c.args.counts.now c.loop-count.shares.items c.push.new.self.items c.args.room c.args.total c.loop-count.count-index c.share.result c.loop-count-test.true
    (record { many = c.loop-count.invariant.many; none = c.loop-count.invariant.none; occurs = c.loop-count.invariant.occurs; most = c.loop-count.invariant.most })
    c.in_ok-push.ensures.items c.share.ensures.none c.share.ensures.occurs c.share.ensures.most in
    record { many = m.many; none = m.none; occurs = m.occurs; most = m.most }
