use Rattle.std.proofs.Common.{arith}
use Rattle.jxl_profile_write.proofs.Longs.{groups_last, groups_more, groups_none, rest_below}
use Rattle.jxl_profile_write.proofs.long.+write_groups.Goals as goal

pub returns-then-value-eq0 : goal.returns-then-value-eq0
returns-then-value-eq0 t c = groups_none c.args.n c.args.value c.args.bits.now c.write_flag.new.bits c.if-value-eq0.true c.in_ok-write_flag.ensures

pub returns-then-n-eq0 : goal.returns-then-n-eq0
returns-then-n-eq0 t c = groups_last c.args.n c.args.value c.args.bits.now c.write_flag-2.new.bits c.write_number.new.bits c.if-n-eq0.true c.in_ok-write_flag-2.ensures c.in_ok-write_number.ensures

pub write_groups-requires : goal.write_groups-requires
write_groups-requires t c = (omega (arith, c.decreases), (omega arith, rest_below c.args.value c.args.n (omega arith) c.requires.fits))

pub returns : goal.returns
returns t c =
    groups_more c.args.n c.args.value c.args.bits.now c.write_flag-2.new.bits c.write_number-2.new.bits c.write_groups.new.bits (omega arith) c.in_ok-write_flag-2.ensures c.in_ok-write_number-2.ensures
    c.in_ok-write_groups.ensures
