use Rattle.std.proofs.Common.{arith, ℕ, subst}
use Rattle.jxl_coding_codes.specs.Distributions.{signalled_at}
use Rattle.jxlm_bit_writer.specs.Writes.{Writes}
use Rattle.jxl_coding_fields_write.proofs.CountReads.{widths_start, widths_next, widths_all}
use Rattle.jxl_coding_fields_write.proofs.counts.write_widths.Goals as goal

pub loop-count-init : goal.loop-count-init
loop-count-init c = widths_start c.args.counts.now c.args.bits.now

pub loop-count-preserved : goal.loop-count-preserved
loop-count-preserved c =
    widths_next c.args.counts.now c.loop-count.count-index c.args.bits.now c.loop-count.bits c.write_width.new.bits c.loop-count-test.true (c.requires c.loop-count.count-index 0 c.loop-count-test.true) c.loop-count.invariant
    (subst (λ (w : ℕ). Writes c.loop-count.bits c.write_width.new.bits signalled_at w) c.width_of.ensures.width c.in_ok-write_width.ensures)

pub returns : goal.returns
returns c =
    widths_all c.args.counts.now c.loop-count.count-index c.args.bits.now c.loop-count.bits
    (let e = c.loop-count-test.false in let n = c.loop-count.auto.count-index-end in omega (arith, e, n)) c.loop-count.invariant
