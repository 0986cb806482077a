use Rattle.std.proofs.lemmas.Result.{err_from_is_err_and}
use Rattle.jxl_c.proofs.EncodingErrors.{fails_by_cause}
use Rattle.jxl_c.proofs.encode.encode.Goals as goal

pub returns-clause-ok : goal.returns-clause-ok
returns-clause-ok c = record {
  picture = c.in_ok-picture.picture;
  described = c.in_ok-picture.ensures.ok;
  is = c.in_ok-file.ensures.picture.upright c.in_ok-picture.ensures.ok.described.upright;
}

pub returns-in_err-file-clause-err : goal.returns-in_err-file-clause-err
returns-in_err-file-clause-err c =
    let p = err_from_is_err_and c.from_residual-in_err-file.result c.from_residual-in_err-file.ensures.1 in
    rw p.1
    (fails_by_cause c.args.info.now c.args.extra.now c.args.samples.now c.args.profile.now c.args.effort c.in_ok-picture.picture c.in_ok-picture.ensures.ok c.in_err-file.field-0.0 p.0 p.2 c.in_err-file.ensures.err)
