use Rattle.std.proofs.Common.{ℕ, List, subst}
use Rattle.jxl_lossless.specs.Pictures.{FileFails, IsPictureOfFile}
use Rattle.jxl_encode_roundtrip.proofs.roundtrip.encoded_and_decoded.Goals as goal

pub returns-in-Ok-clause-same : goal.returns-in-Ok-clause-same
returns-in-Ok-clause-same c =
    let limits = c.args.limits.now in
    let written = c.in_ok-file.ensures.picture.shown c.args.shown.now c.requires.shows limits c.requires.allowed 0 in
    let read = subst (λ (file : List ℕ). IsPictureOfFile limits file c.in-Ok.decoded c.new.result c.decode_lossless.new.steps) c.deref.ensures.value c.in-Ok.ensures.picture in
    c.a_file_has_one_picture.ensures limits c.in_ok-file.file.items c.args.shown.now c.in-Ok.decoded 0 written.0 c.new.result c.decode_lossless.new.steps written.1 read

pub returns-clause-err : goal.returns-clause-err
returns-clause-err c =
    let limits = c.args.limits.now in
    let written = c.in_ok-file.ensures.picture.shown c.args.shown.now c.requires.shows limits c.requires.allowed 0 in
    let fails = subst (λ (file : List ℕ). FileFails limits file c.in-Err.error) c.deref.ensures.value c.in-Err.ensures.err in (
      c.in_ok-file.file.items,
      c.in_ok-file.ensures.picture.shown c.args.shown.now c.requires.shows,
      c.a_file_with_a_picture_is_decoded.ensures limits c.in_ok-file.file.items c.args.shown.now 0 written.0 written.1 c.in-Err.error fails,
    )
