use Rattle.std.proofs.Common.{inr, subst, sym}
use Rattle.jxl_image_header.specs.Images.{image_of}
use Rattle.jxldec.specs.Texts.{ProfileFails}
use Rattle.jxldec_lines.specs.declared.failures.Failure.{Failure}
use Rattle.jxldec.proofs.metadata.profile_of_frames.Goals as goal

pub returns-in-Ok-read-clause-ok : goal.returns-in-Ok-read-clause-ok
returns-in-Ok-read-clause-ok c =
    let opening = c.in-Ok-read.opening in
    inr (
      c.bytes.result.now,
      image_of opening.image,
      opening.start,
      record {
        found = rw c.bytes.ensures c.in-Ok.ensures.ok;
        opens = c.in-Ok-read.ensures.ok;
      },
    )

pub returns-clause-err : goal.returns-clause-err
returns-clause-err c =
    subst (λ (f : Failure). ProfileFails c.args.limits.now c.args.file.now f) (sym c.of_frames.ensures)
    (c.bytes.result.now, rw c.bytes.ensures c.in-Ok.ensures.ok, c.in-Err-read.ensures.err)
