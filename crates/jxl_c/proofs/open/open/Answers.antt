use Rattle.std.proofs.Common.{◌∙◌, rules, sym}
use Rattle.jxl_lossless.specs.declared.error.FileError.TheVariants.{Front}
use Rattle.jxl_c.proofs.Openings.{fails_by, refused_by}
use Rattle.jxl_c.proofs.open.open.Goals as goal

pub returns-in-Ok-clause-err : goal.returns-in-Ok-clause-err
returns-in-Ok-clause-err c =
    fails_by c.args.limits.now c.args.file.now c.limits.result (Front c.in-Some.error) c.fail.result (search rules) c.limits.ensures.are
    (refused_by c.limits.result c.args.file.now c.in-Ok.read c.in-Ok.ensures.ok c.in-Some.error (sym c.reason.ensures ∙ c.in-Some.is)) c.fail.ensures.status
