use Rattle.std.proofs.Common.{Bool, subst}
use Rattle.std.specs.Option.{option_copied}
use Rattle.std.specs.Prelude.{is_some}
use Rattle.jxl_codestream.specs.FrontParts.{bytes_if}
use Rattle.jxl_container.specs.Metadata.{HasExif, HasXmp}
use Rattle.jxldec.specs.Texts.{HasProfile, IsLookedFor}
use Rattle.jxldec.proofs.Saving.{looked_for_by}
use Rattle.jxldec.proofs.metadata.metadata_asked.Goals as goal

pub returns-clause-ok : goal.returns-clause-ok
returns-clause-ok c =
    let paths = c.args.options.now.paths in
    let file = c.args.file.now in (
      subst (λ (b : Bool). IsLookedFor b (HasProfile c.args.options.now.limits file) c.in_ok-profile.no_profile (bytes_if c.in_ok-profile.profile)) c.is_some.ensures c.in_ok-profile.ensures.ok,
      looked_for_by c.is_some-2.result (is_some paths.exif) (HasExif file) (option_copied c.find_exif.result) (option_copied c.if_wanted-no_exif.result.0) c.if_wanted-no_exif.result.1 c.is_some-2.ensures c.find_exif.ensures c.if_wanted-no_exif.ensures.found c.if_wanted-no_exif.ensures.lack,
      looked_for_by c.is_some-3.result (is_some paths.xmp) (HasXmp file) (option_copied c.find_xmp.result) (option_copied c.if_wanted-no_xmp.result.0) c.if_wanted-no_xmp.result.1 c.is_some-3.ensures c.find_xmp.ensures c.if_wanted-no_xmp.ensures.found c.if_wanted-no_xmp.ensures.lack,
    )
