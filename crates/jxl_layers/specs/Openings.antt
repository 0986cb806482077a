-- What comes before the frames of a codestream that may be an animation (ISO/IEC 18181-1, codestream: image header, profile).
use Rattle.std.specs.Prelude.{◌≡◌, ℕ, ◌*◌, ◌/◌, ◌^◌, ◌<◌, ◌≤◌, List, length, Option, None, Some}
use Rattle.jxlm_bits.specs.ErrorKind.{UnlessMemory, kind_of}
use Rattle.jxl_coding.specs.Parse.{decoder_at}
use Rattle.jxl_coding.specs.Tokens.{entropy}
use Rattle.jxl_image_header.specs.Images.{Image, image_header, image_of}
use Rattle.jxl_picture.specs.Limits.{Allow, channel_count}
use Rattle.jxl_picture.specs.declared.limits.Limits.{Limits}
use Rattle.jxl_codestream.specs.FrontParts.{HasLowShifts}
use Rattle.jxl_codestream.specs.Fronts.{FailsAt, StandsAt, between}
use Rattle.jxl_codestream.specs.declared.error.FrontError.{FrontError}
use Rattle.jxl_codestream.specs.declared.error.FrontError.TheVariants as fronts
use Rattle.jxl_layers.specs.Refusals.{animation_refusal}
use Rattle.jxl_layers.specs.declared.opening.Opening.{Opening}

module _ (limits : Limits) (bytes : List ℕ) where
  -- The image header stands at the start, up to bit p: it says nothing that is not supported, of a picture within the limits.
  pub record ImageGoesOn (image : Image) (p : ℕ) : Type 0 where
    pub header : StandsAt image_header bytes 0 image p
    pub supported : animation_refusal image ≡ None
    pub allowed : Allow limits image

  -- And the profile, if there is one, with the bits up to the byte where the first frame begins.
  pub record Opens (image : Image) (icc : Option (List ℕ)) (start : ℕ) : Type 0 where
    pub end : ℕ
    pub goes : ImageGoesOn image end
    pub next : ℕ
    pub between : StandsAt (between (entropy decoder_at) limits.profile image.colour_encoding.want_icc) bytes end icc next
    pub first : start ≡ next / 8

  -- what each error says: up to which stage all stands, and what fails there
  abbrev pub OpeningFails : FrontError → Type 0
  OpeningFails fronts.TooLong = 2 ^ 61 ≤ length bytes
  OpeningFails (fronts.ImageHeader e) = UnlessMemory (kind_of e) (FailsAt image_header bytes 0 (kind_of e))
  OpeningFails (fronts.Image reason) = (image : Image) × (p : ℕ) × StandsAt image_header bytes 0 image p × (animation_refusal image ≡ Some reason)
  OpeningFails fronts.TooLarge = (image : Image) × (p : ℕ) × StandsAt image_header bytes 0 image p × (animation_refusal image ≡ None) × ¬ (Allow limits image)
  OpeningFails (fronts.Profile e) = UnlessMemory (kind_of e)
      ((image : Image) × (p : ℕ) × ImageGoesOn image p × FailsAt (between (entropy decoder_at) limits.profile image.colour_encoding.want_icc) bytes p (kind_of e))
  OpeningFails e = ⊥

-- What decoding the frames after it needs: the codestream is not too long, samples and channels are not too many, and shifts are low.
pub record IsReadyOpening (bytes : List ℕ) (o : Opening) : Type 0 where
  pub short : 8 * length bytes < 2 ^ 64
  pub deep : o.image.bit_depth.bits_per_sample ≤ 32
  pub many : channel_count (image_of o.image) ≤ 2 ^ 20
  pub low : HasLowShifts (image_of o.image)
  pub inside : o.start ≤ length bytes
