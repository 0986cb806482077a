use Rattle.jxl_lossless.proofs.FilePictures.{profile_read}
use Rattle.jxl_lossless.proofs.file.JxlFile.into_profile.Goals as goal

pub returns-clause-of_file : goal.returns-clause-of_file
returns-clause-of_file c = λ limits file is none. profile_read limits file c.args.self is none
