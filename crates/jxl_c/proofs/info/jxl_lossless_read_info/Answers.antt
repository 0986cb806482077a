use Rattle.std.proofs.Common.{ℕ, List, length, refl, ap}
use Rattle.jxl_lossless.specs.Files.{profile_of}
use Rattle.jxl_c.proofs.Decodings.{info_by}
use Rattle.jxl_c.proofs.info.jxl_lossless_read_info.Goals as goal

pub returns-clause-done : goal.returns-clause-done
returns-clause-done c = λ _.
    info_by c.args.limits.now c.args.file.now c.in-Ok.read c.in-Ok.ensures.ok c.header.result.now (profile_of c.in-Ok.read) (length c.icc_of-icc.result.now) c.info_of.result c.header.ensures refl
    (ap (λ (bs : List ℕ). length bs) c.icc_of-icc.ensures) c.info_of.ensures.is
