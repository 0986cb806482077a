use Rattle.jxl_icc.specs.Profiles.{icc_of}
use Rattle.jxlm_bits.specs.ErrorKind.{kind_of as error_kind}
use Rattle.jxl_codestream.proofs.ProfileSteps.{icc_refused}
use Rattle.jxl_codestream.proofs.profile.decode_icc.Goals as goal

pub returns-in-Err-clause-err : goal.returns-in-Err-clause-err
returns-in-Err-clause-err c =
    icc_refused (icc_of c.args.limit c.args.encoded.now) c.in-Err.error (error_kind c.icc_error.result) c.icc_error.ensures c.in-Err.ensures.err
