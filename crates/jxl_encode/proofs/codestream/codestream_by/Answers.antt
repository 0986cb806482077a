use Rattle.std.proofs.Common.{◌≡◌, ◌∙◌, ◌++◌, List, ℕ, Option, length, map, ap, sym, subst}
use Rattle.std.specs.Global.{Vec}
use Rattle.std.specs.Prelude.{◌<◌, ◌^◌, Any, IfSome}
use Rattle.jxl_codestream.specs.FrontParts.{bytes_if}
use Rattle.jxl_codestream.specs.LayoutParts.{parts_of}
use Rattle.jxl_codestream.proofs.Fronts.{layout_is}
use Rattle.jxl_codestream_write.specs.StillFronts.{IsProfiledFront, joined}
use Rattle.jxl_coding.specs.Parse.{decoder_at}
use Rattle.jxl_coding.specs.Tokens.{entropy}
use Rattle.jxl_frame_header_write.specs.Stills.{still_frame}
use Rattle.jxl_image_header.specs.Images.{image_of}
use Rattle.jxl_encode.specs.Files.{IsCodestreamOf}
use Rattle.jxl_encode.specs.Errors.{IsLong}
use Rattle.jxl_encode.proofs.LongSections.{long_fails}
use Rattle.jxl_encode.proofs.Given.{few_extra}
use Rattle.jxl_encode.proofs.Codestreams.{codestream_of}
use Rattle.jxl_encode.proofs.ProfiledPictures.{few_bytes, some_byte}
use Rattle.jxl_encode.proofs.codestream.codestream_by.Goals as goal

pub channels_of-requires-clause-few : goal.channels_of-requires-clause-few
channels_of-requires-clause-few c = few_extra (image_of c.args.picture.now.header) c.requires.codable.writable

pub frame_sections-requires-clause-layout : goal.frame_sections-requires-clause-layout
frame_sections-requires-clause-layout c =
    let image = image_of c.args.picture.now.header in
    layout_is image (still_frame image 1) (parts_of c.in-Some.layout) c.in-Some.ensures

-- a profile that a file can hold has a byte, and fewer than 2^30
pub write_front_with_profile-requires-clause-some : goal.write_front_with_profile-requires-clause-some
write_front_with_profile-requires-clause-some c =
    subst (λ (o : Option (List ℕ)). IfSome o (λ icc. 0 < length icc)) (sym c.as_deref-profile.ensures.value) (some_byte (bytes_if c.args.picture.now.profile) c.requires.codable.profile)

pub write_front_with_profile-requires-clause-fits : goal.write_front_with_profile-requires-clause-fits
write_front_with_profile-requires-clause-fits c =
    subst (λ (o : Option (List ℕ)). IfSome o (λ icc. length icc < 2 ^ 30)) (sym c.as_deref-profile.ensures.value) (few_bytes (bytes_if c.args.picture.now.profile) c.requires.codable.profile)

pub returns-in_default-2-clause-err : goal.returns-in_default-2-clause-err
returns-in_default-2-clause-err c =
    let sections : List (Vec ℕ) = c.in-Ok.sections.items in
    let long = subst (λ (vs : List (Vec ℕ)). Any (λ s. IsLong s.items) vs) c.deref-2.ensures.value (c.in_ok-sizes.ensures.long c.in_default-2.is) in
    long_fails c.args.picture.now sections c.long_section.result c.in-Ok.ensures.ok long c.long_section.ensures

pub returns-clause-coded : goal.returns-clause-coded
returns-clause-coded c =
    let picture = c.args.picture.now in
    let sections : List (Vec ℕ) = c.in-Ok.sections.items in
    let made : c.in-Some-2.sizes.items ≡ map length (map (λ (s : Vec ℕ). s.items) c.deref-2.result.now) =
    subst (λ (o : Option (Vec ℕ)). IfSome o (λ v. v.items ≡ map length (map (λ (s : Vec ℕ). s.items) c.deref-2.result.now))) c.in-Some-2.is c.in_ok-sizes.ensures.sizes in
    let sizes : map length (map (λ (s : Vec ℕ). s.items) sections) ≡ c.deref-3.result.now =
    ap (λ (vs : List (Vec ℕ)). map length (map (λ (s : Vec ℕ). s.items) vs)) (sym c.deref-2.ensures.value) ∙ sym made ∙ sym c.deref-3.ensures.value in
    let bytes : c.add_sections.new.bytes.items ≡ c.in_ok-bytes.bytes.items ++ joined (map (λ (s : Vec ℕ). s.items) sections) =
    c.in_ok-add_sections.ensures ∙ ap (λ (vs : List (Vec ℕ)). c.in_ok-bytes.bytes.items ++ joined (map (λ (s : Vec ℕ). s.items) vs)) c.deref-4.ensures.value in
    let front : IsProfiledFront (entropy decoder_at) (image_of picture.header) (bytes_if picture.profile) 1 c.deref-3.result.now c.in_ok-bytes.bytes.items =
    subst (λ (icc : Option (List ℕ)). IsProfiledFront (entropy decoder_at) (image_of picture.header) icc 1 c.deref-3.result.now c.in_ok-bytes.bytes.items) c.as_deref-profile.ensures.value c.in_ok-bytes.ensures in
    subst (λ (v : List ℕ). IsCodestreamOf picture v) (sym bytes)
    (codestream_of picture c.requires.codable c.deref-3.result.now c.in_ok-bytes.bytes.items front (map (λ (s : Vec ℕ). s.items) sections) sizes c.in-Ok.ensures.ok)
