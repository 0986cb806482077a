use Rattle.std.proofs.Common.{ℕ, List, Option, subst}
use Rattle.jxl_encode.specs.Files.{IsWrittenFile}
use Rattle.jxl_codestream.specs.FrontParts.{bytes_if}
use Rattle.std.specs.Option.{option_map}
use Rattle.jxlenc.proofs.Metadata.{exif_written, xmp_written}
use Rattle.jxlenc.proofs.run.file_of_picture.Goals as goal

pub returns-in-Ok-clause-ok : goal.returns-in-Ok-clause-ok
returns-in-Ok-clause-ok g c =
    let picture = c.args.picture.now in
    let boxed = c.args.options.now.boxed in
    let exif = bytes_if c.args.exif.now in
    let xmp = bytes_if c.args.xmp.now in
    let file = c.in-Ok.file.items in
    let written : IsWrittenFile picture boxed exif xmp file =
    subst (λ (e : Option (List ℕ)). IsWrittenFile picture boxed e xmp file) c.as_deref-exif.ensures.value
    (subst (λ (x : Option (List ℕ)). IsWrittenFile picture boxed (option_map (λ s. s.now) c.as_deref-exif.result) x file) c.as_deref-xmp.ensures.value c.in-Ok.ensures.written) in
    record {
      decoded = c.in-Ok.ensures.picture;
      written = written;
      exif_kept = exif_written picture boxed file exif xmp written;
      xmp_kept = xmp_written picture boxed file exif xmp written;
    }
