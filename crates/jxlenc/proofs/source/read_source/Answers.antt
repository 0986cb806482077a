use Rattle.std.proofs.Common.{ℕ, List, length, subst}
use Rattle.jxl_codestream.specs.FrontParts.{bytes_if}
use Rattle.jxl_image_header.specs.Images.{image_of}
use Rattle.jxlenc.specs.Encodings.{IsSource}
use Rattle.jxlenc.proofs.Reading.{ended_or, part_after}
use Rattle.jxlenc.proofs.source.read_source.Goals as goal

pub returns-in-Ok-source_of_input-clause-source : goal.returns-in-Ok-source_of_input-clause-source
returns-in-Ok-source_of_input-clause-source g c =
    let start = c.in-Ok.bytes.items in
    let source = c.in-Ok-source_of_input.source in
    record {
      file = start;
      read = c.in-Ok.ensures.read;
      ended = ended_or (length start) _ c.in-Ok.ensures.short;
      is = subst (λ (file : List ℕ). IsSource file (image_of source.picture.header) source.picture.channels.items (bytes_if source.picture.profile) (bytes_if source.exif) (bytes_if source.xmp))
          c.deref.ensures.value c.in-Ok-source_of_input.ensures.source;
    }

pub returns-in-Err-read_on-clause-err : goal.returns-in-Err-read_on-clause-err
returns-in-Err-read_on-clause-err g c = (c.in-Err-read_on.ensures.err, part_after _ _ _ c.in-Ok.bytes.items c.in-Ok.ensures.read c.in-Err-read_on.ensures.part)
