-- Pictures with a profile can be coded.
use Rattle.std.proofs.Common.{◌≡◌, ℕ, ◌<◌, ◌≤◌, ◌^◌, List, length, Bool, true, false, Option, Some, None, sym, ap, ◌∙◌, subst, arith}
use Rattle.std.specs.Prelude.{◌==◌, ◌&&◌, IfSome, is_some}
use Rattle.jxl_codestream.specs.FrontParts.{bytes_if}
use Rattle.jxl_image_header.specs.Images.{Image, image_of, image_refusal}
use Rattle.jxl_image_header_write.specs.Writable.{is_colour, is_tone, is_writable}
use Rattle.jxl_picture.specs.declared.picture.Picture.{Picture}
use Rattle.jxl_encode.specs.Codable.{IsCodable, IsCodableProfile}
use Rattle.jxl_encode.specs.Profiles.{image_with_profile}

-- a profile that a file can hold has a byte
pub some_byte : (profile : Option (List ℕ)) → IfSome profile IsCodableProfile → IfSome profile (λ icc. 0 < length icc)
some_byte None h = tt
some_byte (Some icc) h = h.0

-- and fewer than 2^30
pub few_bytes : (profile : Option (List ℕ)) → IfSome profile IsCodableProfile → IfSome profile (λ icc. length icc < 2 ^ 30)
few_bytes None h = tt
few_bytes (Some icc) h = let few : length icc ≤ 2 ^ 28 = h.1 in omega (arith, few)

-- a test among others may hold in place of another one
in_place : (before test between after : Bool) → (before && test && between && after) ≡ true → (before && true && between && after) ≡ true
in_place true true between after h = h
in_place true false between after h = let bad : ⊥ = cc in absurd bad
in_place false test between after h = let bad : ⊥ = cc in absurd bad

-- the header with a profile is spelled if the one without it is
spelled : (image : Image) → is_writable image ≡ true → is_writable (image_with_profile image) ≡ true
spelled image h = in_place _ (is_colour image.colour_encoding) (is_tone image.tone_mapping) (image.extensions == 0) h

pub codable_with_profile : (picture other : Picture) (icc : List ℕ) → image_of other.header ≡ image_with_profile (image_of picture.header) → bytes_if other.profile ≡ Some icc →
    IsCodable picture → IsCodableProfile icc → IsCodable other
codable_with_profile picture other icc is has fit held = record {
  writable = ap is_writable is ∙ spelled (image_of picture.header) fit.writable;
  supported = ap image_refusal is ∙ fit.supported;
  wide = subst (λ (i : Image). i.size.width ≤ 2 ^ 30) (sym is) fit.wide;
  high = subst (λ (i : Image). i.size.height ≤ 2 ^ 30) (sym is) fit.high;
  want_icc = ap (λ (i : Image). i.colour_encoding.want_icc) is ∙ sym (ap (λ (o : Option (List ℕ)). is_some o) has);
  profile = subst (λ (o : Option (List ℕ)). IfSome o IsCodableProfile) (sym has) held;
}
