-- The picture that a file was decoded to.
use Rattle.std.proofs.Common.{◌≡◌, ◌≢◌, ◌*◌, ℕ, ℤ, List, length, Option, true, false, sym, ap, ◌∙◌, subst}
use Rattle.std.specs.List.{All}
use Rattle.std.proofs.Math.Nat.{mul_assoc, mul_comm}
use Rattle.jxlm_base.specs.Grid.{Grid, IsFull}
use Rattle.jxl_image_header.specs.Images.{Image, image_of}
use Rattle.jxl_lossless.specs.Files.{header_of, profile_of, upright}
use Rattle.jxl_lossless.specs.Pictures.{IsPictureOfFile}
use Rattle.jxl_lossless.specs.declared.file.JxlFile.{JxlFile}
use Rattle.jxl_picture.specs.Pictures.{IsWhole}
use Rattle.jxl_picture.specs.declared.picture.Picture.{Picture}
use Rattle.jxl_image_header.specs.declared.image.ImageHeader.{ImageHeader}
use Rattle.jxl_picture.specs.Limits.{channel_count}
use Rattle.jxl_c.specs.Channels.{AreChannelsOfFile}
use Rattle.jxl_c.specs.Decoded.{AreSamplesOfFile, HasPicture}
use Rattle.jxl_c.specs.Headers.{HasOther, profile_bytes}
use Rattle.jxl_c.specs.Infos.{IsInfoOf, IsInfoOfFile}
use Rattle.jxl_c.specs.Kinds.{limits_of}
use Rattle.jxl_c.specs.Opened.{IsOpen, image_shown}
use Rattle.jxl_interleave.specs.Pixels.{interleaved, number_len, pixels_len}
use Rattle.jxl_interleave.specs.declared.depth.Depth.{Depth}
use Rattle.jxl_netpbm.specs.Formats.{suits, tuple_count}
use Rattle.jxl_netpbm.specs.declared.format.Format.TheVariants.{Pam}
use Rattle.jxl_c.specs.Pixels.{ArePixelsOfFile, HasOtherPixels, HasUnsuited, bytes_by}
use Rattle.jxl_c.specs.Profiles.{IsProfileOfFile}
use Rattle.jxl_c_picture.specs.declared.channels.CChannel.{CChannel}
use Rattle.jxl_c_picture.specs.declared.info.CInfo.{CInfo}
use Rattle.jxl_c.specs.declared.limits.CLimits.{CLimits}
use Rattle.jxl_c_picture.specs.Cells.{cells_of_all}
use Rattle.jxl_c_picture.specs.Channels.{channels_of, sample_count}
use Rattle.jxl_c_picture.proofs.Counts.{cells_counted}
use Rattle.jxl_c.proofs.Openings.{has_headers, one_header}

module _ (limits : CLimits) (file : List ℕ) (read : JxlFile) (opened : IsOpen limits file read) where
  abbrev pub has_picture : (p : Picture) (before after : ℕ) → before ≡ 0 → IsPictureOfFile (limits_of limits) file p before after → IsWhole (image_of p.header) p.channels.items →
      (cs : List (Grid ℤ)) → cs ≡ p.channels.items → All IsFull cs → HasPicture limits file
  has_picture p before after none is whole cs all full = record {
    known = opened.known;
    picture = p;
    steps = after;
    is = subst (λ (n : ℕ). IsPictureOfFile (limits_of limits) file p n after) none is;
    whole = whole;
    full = subst (λ (gs : List (Grid ℤ)). All IsFull gs) all full;
  }

  -- as many samples as its header says are room for it
  pub samples_fit : (p : Picture) (n : ℕ) → image_of p.header ≡ image_shown read → n ≡ sample_count (image_shown read) → IsWhole (image_of p.header) p.channels.items →
      (cs : List (Grid ℤ)) → cs ≡ p.channels.items → All IsFull cs → n ≡ length (cells_of_all p.channels.items)
  samples_fit p n header e whole cs all full =
      e ∙ ap sample_count (sym header) ∙ sym (cells_counted (image_of p.header) p.channels.items whole (subst (λ (gs : List (Grid ℤ)). All IsFull gs) all full))

  -- the count that the headers say is the right one
  pub right_count : (info : CInfo) → IsInfoOfFile limits file info → (n : ℕ) → n ≡ info.samples → n ≡ sample_count (image_shown read)
  right_count info of n e = e ∙ of.is.samples ∙ ap (λ (image : Image). sample_count (upright image)) (one_header limits file read opened of.has)

  -- as many bytes as the info says are room for the pixels
  pub right_bytes : (depth : Depth) (p : Picture) (info : CInfo) (size : ℕ) → image_of p.header ≡ image_shown read → IsInfoOfFile limits file info → size ≡ bytes_by depth info → size ≡ pixels_len depth (image_of p.header)
  right_bytes depth p info size header of same =
      let image : Image = upright of.has.front.image in
      let n = number_len depth in
      let sides : info.width * info.height ≡ image.size.height * image.size.width =
      ap (λ (k : ℕ). k * info.height) of.is.width ∙ ap (λ (k : ℕ). image.size.width * k) of.is.height ∙ mul_comm image.size.width image.size.height in
      same ∙ ap (λ (k : ℕ). k * info.interleaved * n) sides ∙ ap (λ (k : ℕ). image.size.height * image.size.width * k * n) of.is.interleaved
      ∙ mul_assoc (image.size.height * image.size.width) (tuple_count image) n ∙ ap (λ (i : Image). pixels_len depth (upright i)) (one_header limits file read opened of.has)
      ∙ ap (pixels_len depth) (sym header)

  -- what a call tells of the headers
  pub channels_by : (header : ImageHeader) (channels : List CChannel) → header ≡ header_of read → channels ≡ channels_of (upright (image_of header)) → AreChannelsOfFile limits file channels
  channels_by header channels e are = record { has = has_headers limits file read opened; are = are ∙ ap (λ (h : ImageHeader). channels_of (upright (image_of h))) e }

  pub other_channels : (header : ImageHeader) (count : ℕ) → header ≡ header_of read → count ≢ channel_count (image_of header) → HasOther limits file (λ image _. channel_count image) count
  other_channels header count e other = record { has = has_headers limits file read opened; other = λ same. other (same ∙ ap (λ (h : ImageHeader). channel_count (image_of h)) (sym e)) }

  pub other_samples : (header : ImageHeader) (count : ℕ) → header ≡ header_of read → count ≢ sample_count (upright (image_of header)) → HasOther limits file (λ image _. sample_count image) count
  other_samples header count e other = record { has = has_headers limits file read opened; other = λ same. other (same ∙ ap (λ (h : ImageHeader). sample_count (upright (image_of h))) (sym e)) }

  pub profile_by : (icc : Option (List ℕ)) (profile : List ℕ) → icc ≡ profile_of read → profile ≡ profile_bytes icc → IsProfileOfFile limits file profile
  profile_by icc profile e are = record { has = has_headers limits file read opened; are = are ∙ ap profile_bytes e }

  pub other_profile : (icc : Option (List ℕ)) (count : ℕ) → icc ≡ profile_of read → count ≢ length (profile_bytes icc) → HasOther limits file (λ _ icc. length (profile_bytes icc)) count
  other_profile icc count e other = record { has = has_headers limits file read opened; other = λ same. other (same ∙ ap (λ (i : Option (List ℕ)). length (profile_bytes i)) (sym e)) }

  pub info_by : (header : ImageHeader) (icc : Option (List ℕ)) (size : ℕ) (info : CInfo) → header ≡ header_of read → icc ≡ profile_of read → size ≡ length (profile_bytes icc) → IsInfoOf (upright (image_of header)) size info → IsInfoOfFile limits file info
  info_by header icc size info e f long is =
      let by_header : IsInfoOf (upright (image_of (header_of read))) size info = subst (λ (h : ImageHeader). IsInfoOf (upright (image_of h)) size info) e is in
      record {
        has = has_headers limits file read opened;
        is = subst (λ (n : ℕ). IsInfoOf (upright (image_of (header_of read))) n info) (long ∙ ap (λ (i : Option (List ℕ)). length (profile_bytes i)) f) by_header;
      }

  -- a count that is as the headers say is no other
  pub never_other : (header : ImageHeader) (info : CInfo) (count : ℕ) → header ≡ header_of read → IsInfoOfFile limits file info → count ≡ info.samples → count ≡ sample_count (upright (image_of header))
  never_other header info count e of same = right_count info of count same ∙ ap (λ (h : ImageHeader). sample_count (upright (image_of h))) (sym e)

  pub samples_by : (p : Picture) (before after : ℕ) → before ≡ 0 → IsPictureOfFile (limits_of limits) file p before after → IsWhole (image_of p.header) p.channels.items →
      (cs : List (Grid ℤ)) → cs ≡ p.channels.items → All IsFull cs → (samples : List ℤ) → samples ≡ cells_of_all p.channels.items → AreSamplesOfFile limits file samples
  samples_by p before after none is whole cs all full samples are = record { has = has_picture p before after none is whole cs all full; are = are }

  -- or its pixels
  pub pixels_by : (depth : Depth) (p : Picture) (before after : ℕ) → before ≡ 0 → IsPictureOfFile (limits_of limits) file p before after → IsWhole (image_of p.header) p.channels.items →
      (cs : List (Grid ℤ)) → cs ≡ p.channels.items → All IsFull cs → suits Pam (image_of p.header) ≡ true → (pixels : List ℕ) → pixels ≡ interleaved depth (image_of p.header) p.channels.items → ArePixelsOfFile depth limits file pixels
  pixels_by depth p before after none is whole cs all full suited pixels are = record { has = has_picture p before after none is whole cs all full; suits = suited; are = are }

  pub other_pixels : (depth : Depth) (p : Picture) (before after : ℕ) → before ≡ 0 → IsPictureOfFile (limits_of limits) file p before after → IsWhole (image_of p.header) p.channels.items →
      (cs : List (Grid ℤ)) → cs ≡ p.channels.items → All IsFull cs → suits Pam (image_of p.header) ≡ true → (size : ℕ) → size ≢ pixels_len depth (image_of p.header) → HasOtherPixels depth limits file size
  other_pixels depth p before after none is whole cs all full suited size other = record { has = has_picture p before after none is whole cs all full; suits = suited; other = other }

  pub unsuited_by : (p : Picture) (before after : ℕ) → before ≡ 0 → IsPictureOfFile (limits_of limits) file p before after → IsWhole (image_of p.header) p.channels.items →
      (cs : List (Grid ℤ)) → cs ≡ p.channels.items → All IsFull cs → suits Pam (image_of p.header) ≡ false → (status : ℕ) → status ≡ 4 → HasUnsuited limits file status
  unsuited_by p before after none is whole cs all full unsuited status four = record { has = has_picture p before after none is whole cs all full; not = unsuited; is = four }
