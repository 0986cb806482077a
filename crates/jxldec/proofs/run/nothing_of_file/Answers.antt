use Rattle.std.proofs.Common.{◌∙◌, Option, subst, sym}
use Rattle.jxl_container.specs.Files.{HasLaterError}
use Rattle.jxl_container.specs.declared.error.FileError.{FileError as BoxError}
use Rattle.jxldec.proofs.run.nothing_of_file.Goals as goal

pub returns-clause-later : goal.returns-clause-later
returns-clause-later c =
    subst (λ (e : Option BoxError). HasLaterError c.args.file.now e) (sym (c.boxes.ensures.later ∙ c.later_error.ensures)) c.in_ok-read.ensures.ok.later
