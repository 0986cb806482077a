use Rattle.jxlm_bits.specs.Bits.{bytes_of, position_of}
use Rattle.jxl_coding_codes.proofs.DistributionSums.{each_count}
use Rattle.jxl_coding_codes.proofs.distribution.distribution.Goals as goal

pub returns-clause-counts : goal.returns-clause-counts
returns-clause-counts c =
    each_count (λ v. v.items) c.counts.result (position_of c.counts.new.bits) (bytes_of c.args.bits.now) (position_of c.args.bits.now) c.counts.ensures.gives
