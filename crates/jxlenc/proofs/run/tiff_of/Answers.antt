use Rattle.std.proofs.lemmas.Bool.Decides.{Decides-eqb}
use Rattle.std.proofs.lemmas.Slice.Eq.{strip_prefix_is}
use Rattle.jxlenc.specs.Encodings.{exif_head}
use Rattle.jxlenc.proofs.Sources.{tiff_is}
use Rattle.jxlenc.proofs.run.tiff_of.Goals as goal

pub returns : goal.returns
returns c =
    let has = strip_prefix_is Decides-eqb c.args.exif.now exif_head c.strip_prefix.result c.strip_prefix.ensures.cases in
    tiff_is c.args.exif c.strip_prefix.result c.unwrap_or.result has c.unwrap_or.ensures
