-- Why a picture is not read, or not encoded, as the program tells it; and Exif data from the TIFF header on.
use Rattle.std.proofs.Common.{◌≡◌, ◌≢◌, ℕ, List, ◌++◌, ◌+◌, ◌^◌, ◌<◌, ◌≤◌, length, Option, Some, None, inl, inr, sym, ap, subst, ◌∙◌, arith, Bor, unwrap_or}
use Rattle.std.specs.Prelude.{◌⊎◌, MatchOption}
use Rattle.std.specs.declared.io.Error.{Error}
use Rattle.jxl_command.specs.declared.extra.Extra.{Extra}
use Rattle.jxl_image_header.specs.Images.{Image}
use Rattle.jxl_picture.specs.declared.picture.Picture.{Picture}
use Rattle.jxlenc.specs.Encodings.{EncodingFails, IsLargeAsked, IsProfileRefused, IsReadEnough, IsTiffOf, MakingFails, ProfileFails, ReadingFails, exif_head}
use Rattle.jxlenc.specs.declared.failures.Failure.{Failure}
use Rattle.jxlenc.specs.declared.failures.Failure.TheVariants as failures
use Rattle.jxlenc.specs.declared.profile.ProfileError.{ProfileError}
use Rattle.jxlenc.specs.declared.run.Metadata.{Metadata}

-- what follows from what was read
pub enough_for : (left rest : Option (List ℕ)) (P Q : List ℕ → Type 0) → ((file : List ℕ) → P file → Q file) → IsReadEnough left rest P → IsReadEnough left rest Q
enough_for left rest P Q f h = record { file = h.file; read = h.read; ended = h.ended; is = f h.file h.is }

module _ (Unread : Error → Type 0) (UnreadExtra : Extra → Error → Type 0) (left rest : Option (List ℕ)) (Given : Metadata → Type 0) where
  -- no picture is read
  pub reading_fails : (failure : Failure) → ReadingFails Unread left rest failure → MakingFails Unread UnreadExtra left rest Given failure
  reading_fails (failures.Unreadable error) f = f
  reading_fails (failures.Picture error) f = f
  reading_fails (failures.Png error) f = f
  reading_fails (failures.ExtraUnreadable extra error) f = absurd f.is
  reading_fails (failures.Profile error) f = absurd f.is
  reading_fails failures.TooLarge f = absurd f.is
  reading_fails failures.OutOfMemory f = tt
  reading_fails failures.Terminal f = f
  reading_fails failures.Overwritten f = f
  reading_fails (failures.Unwritable error) f = f
  reading_fails failures.Closed f = f

  -- data beside the picture are not read
  pub extra_fails : (extra : Extra) (error : Error) (failure : Failure) → failure ≡ failures.ExtraUnreadable extra error
      → IsReadEnough left rest (λ input. UnreadExtra extra error) → MakingFails Unread UnreadExtra left rest Given failure
  extra_fails extra error failure is h = subst (λ (f : Failure). MakingFails Unread UnreadExtra left rest Given f) (sym is) h

  -- there is no memory
  pub memory_fails : (failure : Failure) → failure ≡ failures.OutOfMemory → MakingFails Unread UnreadExtra left rest Given failure
  memory_fails failure is = subst (λ (f : Failure). MakingFails Unread UnreadExtra left rest Given f) (sym is) tt

  -- the profile is refused
  pub profile_fails : (image : Image) (icc : Option (List ℕ)) (failure : Failure) → ProfileFails image icc failure
      → ((error : ProfileError) → ProfileFails image icc (failures.Profile error) → IsReadEnough left rest (IsProfileRefused Given error))
      → MakingFails Unread UnreadExtra left rest Given failure
  profile_fails image icc (failures.Profile error) f refused = refused error f
  profile_fails image icc (failures.Unreadable error) f refused = absurd f
  profile_fails image icc (failures.Picture error) f refused = absurd f
  profile_fails image icc (failures.Png error) f refused = absurd f
  profile_fails image icc (failures.ExtraUnreadable extra error) f refused = absurd f
  profile_fails image icc failures.TooLarge f refused = absurd f
  profile_fails image icc failures.OutOfMemory f refused = absurd f
  profile_fails image icc failures.Terminal f refused = absurd f
  profile_fails image icc failures.Overwritten f refused = absurd f
  profile_fails image icc (failures.Unwritable error) f refused = absurd f
  profile_fails image icc failures.Closed f refused = absurd f

  -- the picture that is asked for is not encoded
  pub encoding_fails : (picture : Picture) (failure : Failure) → EncodingFails picture failure
      → (EncodingFails picture failures.TooLarge → IsReadEnough left rest (IsLargeAsked Given)) → MakingFails Unread UnreadExtra left rest Given failure
  encoding_fails picture failures.TooLarge f large = large f
  encoding_fails picture failures.OutOfMemory f large = tt
  encoding_fails picture (failures.Unreadable error) f large = absurd f
  encoding_fails picture (failures.Picture error) f large = absurd f
  encoding_fails picture (failures.Png error) f large = absurd f
  encoding_fails picture (failures.ExtraUnreadable extra error) f large = absurd f
  encoding_fails picture (failures.Profile error) f large = absurd f
  encoding_fails picture failures.Terminal f large = absurd f
  encoding_fails picture failures.Overwritten f large = absurd f
  encoding_fails picture (failures.Unwritable error) f large = absurd f
  encoding_fails picture failures.Closed f large = absurd f

-- what precedes the TIFF header is taken off, if it is there
pub tiff_is : (exif : Bor (List ℕ)) (stripped : Option (Bor (List ℕ))) (tiff : Bor (List ℕ)) → MatchOption stripped ((rest : List ℕ) → exif.now ≢ exif_head ++ rest) (λ x. exif.now ≡ exif_head ++ x.now)
    → tiff ≡ unwrap_or stripped exif → IsTiffOf exif.now tiff.now
tiff_is exif None tiff none e = inr (none, ap (λ b. b.now) e)
tiff_is exif (Some x) tiff has e = inl (has ∙ ap (λ (b : Bor (List ℕ)). exif_head ++ b.now) (sym e))
