use Rattle.std.proofs.Common.{◌≡◌, ◌*◌, ◌∙◌, ap, arith}
use Rattle.jxlm_bit_writer.proofs.Blocks.{product_fits}
use Rattle.jxlm_bit_writer.proofs.writer.put_after.Goals as goal

pub overflow_mul-all : goal.overflow_mul-all
overflow_mul-all c =
    let e : c.from-2.result * c.from-3.result ≡ c.args.word * c.args.scale = ap (λ x. x * c.from-3.result) c.from-2.ensures ∙ ap (λ x. c.args.word * x) c.from-3.ensures in
    let m = product_fits c.args.held c.args.word c.args.scale c.ranges.held.fits c.ranges.word.fits c.ranges.scale.fits in
    omega (arith, e, m)
