use Rattle.std.proofs.Common.{ℕ, List, subst}
use Rattle.std.proofs.lemmas.Result.{err_from_is_err_and}
use Rattle.jxl_codestream.specs.FrontParts.{bytes_if}
use Rattle.jxl_image_header.specs.Images.{Image, image_of}
use Rattle.jxlenc.specs.Encodings.{AreGiven, ExtraFails, IsLargeAsked, IsProfileRefused, ProfileFails}
use Rattle.jxlenc.specs.declared.failures.Failure.TheVariants.{Profile}
use Rattle.jxlenc.proofs.Pictures.{asked_of}
use Rattle.jxlenc.proofs.Sources.{encoding_fails, enough_for, profile_fails}
use Rattle.jxlenc.proofs.run.file_asked.Goals as goal

pub returns-clause-ok : goal.returns-clause-ok
returns-clause-ok g c =
    let source = c.in_ok-source.source in
    let oriented = c.with_orientation-oriented in
    let picture = c.in_ok-picture in
    let Given = AreGiven g.F.Read.remaining c.args.options.now c.args.extras.now c.metadata_given.new.extras in
    record {
      picture = picture.picture;
      kept = bytes_if c.in_ok-orientation.exif;
      xmp = bytes_if c.or-xmp.result;
      asked = enough_for _ _ _ _ (λ input is. asked_of Given input c.in_ok-profile.field-0 source.picture oriented.result picture.picture source.exif source.xmp c.in_ok-orientation.orientation
          c.or-given.result c.or-xmp.result (bytes_if c.in_ok-orientation.exif) c.in_ok-profile.ensures.ok is oriented.ensures.header oriented.ensures.channels oriented.ensures.profile
          c.or-given.ensures c.in_ok-orientation.ensures.value picture.ensures.header picture.ensures.channels picture.ensures.profile picture.ensures.describes c.or-xmp.ensures) c.in_ok-source.ensures.source;
      encoded = c.in_ok-file.ensures.ok;
    }

pub returns-in_err-picture-clause-err : goal.returns-in_err-picture-clause-err
returns-in_err-picture-clause-err g c =
    let source = c.in_ok-source.source in
    let oriented = c.with_orientation-oriented in
    let metadata = c.in_ok-profile.field-0 in
    let icc = bytes_if metadata.profile in
    let Given = AreGiven g.F.Read.remaining c.args.options.now c.args.extras.now c.metadata_given.new.extras in
    let p = err_from_is_err_and c.from_residual-in_err-picture.result c.from_residual-in_err-picture.ensures.1 in
    rw (p.1, p.2)
    (profile_fails (g.R.InputStream.fails_by c.read_source.new.input) (ExtraFails g.F.InputStream.fails_by c.args.options.now c.metadata_given.new.extras)
    (g.R.Read.remaining c.args.input.now) (g.R.Read.remaining c.read_source.new.input) Given (image_of oriented.result.header) icc c.in_err-picture.field-0.0 c.in_err-picture.ensures.err
    (λ error f. enough_for _ _ _ (IsProfileRefused Given error) (λ input is. record {
      metadata = metadata;
      given = c.in_ok-profile.ensures.ok;
      image = image_of source.picture.header;
      channels = source.picture.channels.items;
      own = bytes_if source.picture.profile;
      exif = bytes_if source.exif;
      xmp = bytes_if source.xmp;
      source = is;
      refused = subst (λ (image : Image). ProfileFails image icc (Profile error)) oriented.ensures.header f;
    }) c.in_ok-source.ensures.source))

pub returns-in_err-file-clause-err : goal.returns-in_err-file-clause-err
returns-in_err-file-clause-err g c =
    let source = c.in_ok-source.source in
    let oriented = c.with_orientation-oriented in
    let picture = c.in_ok-picture in
    let Given = AreGiven g.F.Read.remaining c.args.options.now c.args.extras.now c.metadata_given.new.extras in
    let p = err_from_is_err_and c.from_residual-in_err-file.result c.from_residual-in_err-file.ensures.1 in
    rw (p.1, p.2)
    (encoding_fails (g.R.InputStream.fails_by c.read_source.new.input) (ExtraFails g.F.InputStream.fails_by c.args.options.now c.metadata_given.new.extras)
    (g.R.Read.remaining c.args.input.now) (g.R.Read.remaining c.read_source.new.input) Given picture.picture c.in_err-file.field-0.0 c.in_err-file.ensures.err
    (λ f. enough_for _ _ _ (IsLargeAsked Given) (λ input is. record {
      picture = picture.picture;
      kept = bytes_if c.in_ok-orientation.exif;
      xmp = bytes_if c.or-xmp.result;
      asked = asked_of Given input c.in_ok-profile.field-0 source.picture oriented.result picture.picture source.exif source.xmp c.in_ok-orientation.orientation
          c.or-given.result c.or-xmp.result (bytes_if c.in_ok-orientation.exif) c.in_ok-profile.ensures.ok is oriented.ensures.header oriented.ensures.channels oriented.ensures.profile
          c.or-given.ensures c.in_ok-orientation.ensures.value picture.ensures.header picture.ensures.channels picture.ensures.profile picture.ensures.describes c.or-xmp.ensures;
      large = f;
    }) c.in_ok-source.ensures.source))
