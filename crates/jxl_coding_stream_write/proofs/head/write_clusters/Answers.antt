use Rattle.std.proofs.Common.{arith}
use Rattle.jxl_coding_stream_write.proofs.HeadReads.{one_cluster, many_clusters}
use Rattle.jxl_coding_stream_write.proofs.head.write_clusters.Goals as goal

pub returns-then-clusters-le1 : goal.returns-then-clusters-le1
returns-then-clusters-le1 c = one_cluster c.args.clusters.now c.args.bits.now c.if-clusters-le1.true (c.requires.one c.if-clusters-le1.true)

pub returns : goal.returns
returns c =
    many_clusters c.width_of-width.result c.args.clusters.now c.args.bits.now c.put.new.self c.put-2.new.self c.write_numbers.new.bits (let m = c.width_of-width.ensures.most in omega (arith, m)) c.if-clusters-le1.false c.in_ok-put.ensures c.in_ok-put-2.ensures c.in_ok-write_numbers.ensures
