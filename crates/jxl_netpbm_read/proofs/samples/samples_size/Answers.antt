use Rattle.std.proofs.Common.{arith}
use Rattle.jxl_netpbm_read.proofs.Places.{samples_fit}
use Rattle.jxl_netpbm_read.specs.Samples.{sample_size}
use Rattle.std.proofs.Common.{refl}
use Rattle.jxl_netpbm_read.proofs.samples.samples_size.Goals as goal

pub overflow_mul-result : goal.overflow_mul-result
overflow_mul-result c =
    let h = c.args.header.now in
    let fits = samples_fit h c.channel_count-channels.result (sample_size h.storage) c.requires c.channel_count-channels.ensures.value refl in
    omega (arith, fits.1)

pub overflow_mul-result-2 : goal.overflow_mul-result-2
overflow_mul-result-2 c =
    let h = c.args.header.now in
    let fits = samples_fit h c.channel_count-channels.result c.sample_size.result c.requires c.channel_count-channels.ensures.value c.sample_size.ensures.value in
    omega (arith, fits.0)
