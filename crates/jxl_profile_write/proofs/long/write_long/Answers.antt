use Rattle.std.proofs.Common.{arith}
use Rattle.jxl_profile_write.proofs.Longs.{long_large, long_middle, long_small, long_zero}
use Rattle.jxl_profile_write.proofs.long.write_long.Goals as goal

pub returns-then-value-eq0 : goal.returns-then-value-eq0
returns-then-value-eq0 c = long_zero c.args.value c.args.bits.now c.write_number.new.bits c.if-value-eq0.true c.in_ok-write_number.ensures

pub returns-then-value-le16 : goal.returns-then-value-le16
returns-then-value-le16 c =
    long_small c.args.value c.args.bits.now c.write_number-then-value-le16.new.bits c.write_number-then-value-le16-2.new.bits (omega arith) c.in_ok-write_number-2.ensures c.in_ok-write_number-3.ensures

pub returns-then-value-le272 : goal.returns-then-value-le272
returns-then-value-le272 c =
    long_middle c.args.value c.args.bits.now c.write_number-then-value-le272.new.bits c.write_number-then-value-le272-2.new.bits (omega arith) c.in_ok-write_number-4.ensures c.in_ok-write_number-5.ensures

pub returns : goal.returns
returns c =
    long_large c.args.value c.args.bits.now c.write_number-2.new.bits c.write_number-3.new.bits c.write_groups.new.bits c.in_ok-write_number-6.ensures c.in_ok-write_number-7.ensures c.in_ok-write_groups.ensures
