-- The codestream of a picture: what comes before the sections of its frame, and these.
use Rattle.std.proofs.Common.{◌≡◌, ℕ, ◌+◌, ◌*◌, ◌≤◌, ℤ, List, [], ◌∷◌, ◌++◌, length, map, Bool, true, false, Option, Ok, refl, sym, ap, subst, ◌∙◌, arith}
use Rattle.std.specs.Prelude.{if◌then◌else◌, IfSome}
use Rattle.std.proofs.Math.Nat.{mul_comm}
use Rattle.std.specs.List.{AllZip}
use Rattle.jxlm_base.specs.Grid.{Grid}
use Rattle.jxl_container.specs.Files.{HasCodestream}
use Rattle.jxl_image_header.specs.Images.{Image, image_of}
use Rattle.jxl_image_header.proofs.Refusals.{low_shifts}
use Rattle.jxl_codestream.specs.Fronts.{FrameAt, FrontStands, HasProfile}
use Rattle.jxl_codestream.specs.FrontParts.{bytes_if}
use Rattle.jxl_codestream_write.specs.StillFronts.{IsProfiledFront, joined, still_at}
use Rattle.jxl_coding.specs.Parse.{decoder_at}
use Rattle.jxl_coding.specs.Tokens.{entropy}
use Rattle.jxl_picture.specs.Limits.{Allow, channel_count}
use Rattle.jxl_picture.specs.Orientations.{IsOriented, IsUpright, is_turned, shown_size}
use Rattle.jxl_picture.specs.declared.limits.Limits.{Limits}
use Rattle.jxl_picture.specs.declared.picture.Picture.{Picture}
use Rattle.jxl_lossless.specs.Pictures.{HasFront, IsPictureOfFile}
use Rattle.jxl_profile_write.specs.Profiles.{AllowProfile}
use Rattle.jxl_encode_frame.specs.Laws.{IsPlainFrame}
use Rattle.jxl_encode_frame.proofs.Pictures.{coding_picture}
use Rattle.jxl_encode.specs.Codable.{IsCodable}
use Rattle.jxl_encode.specs.Files.{AllowFile, IsCodestreamOf, IsShownAs}
use Rattle.jxl_encode.specs.Frames.{AreSectionsOf}
use Rattle.jxl_encode.proofs.Codings.{coding_of}

-- ---- a picture that is upright as it is

all_same : (gs : List (Grid ℤ)) → AllZip (IsOriented 1) gs gs
all_same [] = tt
all_same (g ∷ gs) = (record { wide = refl; high = refl; cells = λ x y lx ly. refl }, all_same gs)

upright_as_is : (image : Image) (gs : List (Grid ℤ)) → image.orientation ≡ 1 → IsUpright image gs image gs
upright_as_is image gs e =
    let one : image ≡ record image { orientation = 1 } = ap (λ (o : ℕ). record image { orientation = o }) e in
    let two : record image { orientation = 1 } ≡ record image { size = shown_size image.orientation image.size; orientation = 1 } =
    ap (λ (o : ℕ). record image { size = shown_size o image.size; orientation = 1 }) (sym e) in
    record { header = one ∙ two; oriented = subst (λ (o : ℕ). AllZip (IsOriented o) gs gs) (sym e) (all_same gs) }

pub shown_as_is : (picture : Picture) → picture.header.orientation ≡ 1 → IsShownAs picture picture
shown_as_is picture e = record { upright = upright_as_is (image_of picture.header) picture.channels.items e; profile = refl }

-- ---- limits that allow what is shown allow what is coded

turned_allowed : (turned : Bool) (limits : Limits) (image : Image) →
    Allow limits (record image { size = if turned then record { width = image.size.height; height = image.size.width } else image.size; orientation = 1 }) → Allow limits image
turned_allowed false limits image a = record { frame = a.frame; deep = a.deep; channels = a.channels; most = a.most }
turned_allowed true limits image a =
    let cells : image.size.height * image.size.width ≡ image.size.width * image.size.height = mul_comm image.size.height image.size.width in
    record {
      frame = (
        a.frame.1,
        a.frame.0,
        subst (λ (n : ℕ). 0 + n ≤ limits.pixels) cells a.frame.2,
        subst (λ (n : ℕ). (0 + n) * (4 * channel_count image) ≤ limits.bytes) cells a.frame.3,
      );
      deep = a.deep;
      channels = a.channels;
      most = a.most;
    }

file_allowed : (limits : Limits) (picture shown : Picture) → IsShownAs picture shown → AllowFile limits (image_of shown.header) (bytes_if shown.profile) →
    AllowFile limits (image_of picture.header) (bytes_if picture.profile)
file_allowed limits picture shown as_shown allowed = record {
  picture = turned_allowed (is_turned picture.header.orientation) limits (image_of picture.header) (subst (λ (i : Image). Allow limits i) as_shown.upright.header allowed.picture);
  profile = subst (λ (icc : Option (List ℕ)). IfSome icc (AllowProfile limits.profile)) as_shown.profile allowed.profile;
  decisions = allowed.decisions;
  codewords = allowed.codewords;
}

-- ---- the codestream

module _ (picture : Picture) (fit : IsCodable picture) (sizes front : List ℕ) (f : IsProfiledFront (entropy decoder_at) (image_of picture.header) (bytes_if picture.profile) 1 sizes front)
    (sections : List (List ℕ)) (same : map length sections ≡ sizes) (are : AreSectionsOf picture sections) where
  abbrev image : Image
  image = image_of picture.header

  abbrev bytes : List ℕ
  bytes = front ++ joined sections

  module _ (file : List ℕ) (found : HasCodestream file (Ok bytes)) (shown_picture : Picture) (as_shown : IsShownAs picture shown_picture)
      (limits : Limits) (allowed_shown : AllowFile limits (image_of shown_picture.header) (bytes_if shown_picture.profile)) where
    allowed : AllowFile limits image (bytes_if picture.profile)
    allowed = file_allowed limits picture shown_picture as_shown allowed_shown

    abbrev shown : FrameAt
    shown = still_at limits image 1 f.start f.entries

    stands : FrontStands (entropy decoder_at) limits bytes image [] shown
    stands = f.stands limits sections allowed.picture allowed.profile same

    plain_frame : IsPlainFrame image shown
    plain_frame = record { low = low_shifts image fit.supported; wide = fit.wide; high = fit.high; passes = record { some = omega arith; few = omega arith }; plain = refl }

    abbrev the_front : HasFront limits file
    the_front = record { bytes = bytes; found = found; image = image; saved = []; shown = shown; stands = stands }

    profile : HasProfile (entropy decoder_at) limits bytes image (bytes_if shown_picture.profile)
    profile =
        subst (λ (icc : Option (List ℕ)). HasProfile (entropy decoder_at) limits bytes image icc) (sym as_shown.profile) (f.profile limits (joined sections) allowed.picture allowed.profile)

    picture_of : (before : ℕ) → (after : ℕ) × IsPictureOfFile limits file shown_picture before after
    picture_of before = coding_picture limits file shown_picture the_front picture.channels.items refl plain_frame
        (coding_of limits picture f.start f.entries bytes sections (f.sections sections same) allowed.decisions allowed.codewords are) as_shown.upright profile before

  pub codestream_of : IsCodestreamOf picture bytes
  codestream_of = record {
    bare = f.bare (joined sections);
    file = λ file found. record {
      shown = λ shown as_shown limits allowed before. picture_of file found shown as_shown limits allowed before;
      upright = λ upright limits allowed before. picture_of file found picture (shown_as_is picture upright) limits allowed before;
    };
  }
