-- The picture that is asked for, by what was read.
use Rattle.std.proofs.Common.{◌≡◌, ℕ, ℤ, List, Option, Some, None, refl, sym, ap, subst, ◌∙◌}
use Rattle.std.specs.Prelude.{IfSome}
use Rattle.std.specs.Global.{Vec}
use Rattle.std.specs.Option.{option_or}
use Rattle.jxlm_base.specs.Grid.{Grid}
use Rattle.jxl_codestream.specs.FrontParts.{bytes_if}
use Rattle.jxl_encode.specs.Orientations.{image_with_orientation}
use Rattle.jxl_image_header.specs.Images.{Image, image_of}
use Rattle.jxl_picture.specs.Pictures.{is_grey}
use Rattle.jxl_picture.specs.declared.picture.Picture.{Picture}
use Rattle.jxlenc.specs.Encodings.{IsAsked, IsOrientedBy, IsSource, image_with}
use Rattle.jxlenc.specs.Profiles.{Describes}
use Rattle.jxlenc.specs.declared.run.Metadata.{Metadata}

-- the bytes of what is given, else of what the input has
or_bytes : (given own : Option (Vec ℕ)) → bytes_if (option_or given own) ≡ option_or (bytes_if given) (bytes_if own)
or_bytes None own = refl
or_bytes (Some v) own = refl

pub bytes_of_either : (given own r : Option (Vec ℕ)) → r ≡ option_or given own → bytes_if r ≡ option_or (bytes_if given) (bytes_if own)
bytes_of_either given own r is = ap (λ (o : Option (Vec ℕ)). bytes_if o) is ∙ or_bytes given own

pub asked_of : (Given : Metadata → Type 0) (input : List ℕ) (metadata : Metadata) (source oriented picture : Picture) (exif xmp : Option (Vec ℕ)) (n : ℕ) (given_exif given_xmp : Option (Vec ℕ)) (kept : Option (List ℕ)) →
    Given metadata → IsSource input (image_of source.header) source.channels.items (bytes_if source.profile) (bytes_if exif) (bytes_if xmp) →
    image_of oriented.header ≡ image_with_orientation n (image_of source.header) → oriented.channels ≡ source.channels → oriented.profile ≡ source.profile →
    given_exif ≡ option_or metadata.exif exif → IsOrientedBy (bytes_if given_exif) n kept →
    image_of picture.header ≡ image_with (bytes_if metadata.profile) (image_of oriented.header) → picture.channels ≡ oriented.channels →
    bytes_if picture.profile ≡ option_or (bytes_if metadata.profile) (bytes_if oriented.profile) → IfSome (bytes_if metadata.profile) (Describes (is_grey (image_of oriented.header))) →
    given_xmp ≡ option_or metadata.xmp xmp → IsAsked Given input picture kept (bytes_if given_xmp)
asked_of Given input metadata source oriented picture exif xmp n given_exif given_xmp kept given is header channels profile exif_is says header_is channels_are profile_is describes xmp_is = record {
  metadata = metadata;
  given = given;
  exif = bytes_if exif;
  xmp = bytes_if xmp;
  orientation = n;
  oriented = subst (λ (o : Option (List ℕ)). IsOrientedBy o n kept) (bytes_of_either metadata.exif exif given_exif exif_is) says;
  pictured = record {
    image = image_of source.header;
    own = bytes_if source.profile;
    source = subst (λ (gs : Vec (Grid ℤ)). IsSource input (image_of source.header) gs.items (bytes_if source.profile) (bytes_if exif) (bytes_if xmp)) (sym (channels_are ∙ channels)) is;
    header = header_is ∙ ap (λ (image : Image). image_with (bytes_if metadata.profile) image) header;
    profile = profile_is ∙ ap (λ (own : Option (Vec ℕ)). option_or (bytes_if metadata.profile) (bytes_if own)) profile;
    describes = subst (λ (image : Image). IfSome (bytes_if metadata.profile) (Describes (is_grey image))) header describes;
  };
  xmp_is = bytes_of_either metadata.xmp xmp given_xmp xmp_is;
}
