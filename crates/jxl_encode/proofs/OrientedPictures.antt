-- Pictures with another orientation can be coded.
use Rattle.std.proofs.Common.{◌≡◌, ℕ, ◌≤◌, ◌^◌, List, Bool, true, false, Option, refl, sym, ap, ◌∙◌, subst}
use Rattle.std.specs.Prelude.{◌&&◌, nat_le, IfSome, is_some}
use Rattle.std.proofs.lemmas.Bool.{le-leb}
use Rattle.jxl_codestream.specs.FrontParts.{bytes_if}
use Rattle.jxl_image_header.specs.Images.{Image, image_of, image_refusal}
use Rattle.jxl_image_header_write.specs.Writable.{is_size, is_writable}
use Rattle.jxl_picture.specs.declared.picture.Picture.{Picture}
use Rattle.jxl_encode.specs.Codable.{IsCodable, IsCodableProfile}
use Rattle.jxl_encode.specs.Orientations.{image_with_orientation}

-- one test in place of another that implies it
in_place : (p q after : Bool) → (p ≡ true → q ≡ true) → (p && after) ≡ true → (q && after) ≡ true
in_place true q after f h = subst (λ (t : Bool). (t && after) ≡ true) (sym (f refl)) h
in_place false q after f h = let bad : ⊥ = cc in absurd bad

in_range : (s least most : Bool) (n : ℕ) → 1 ≤ n → n ≤ 8 → (s && least && most) ≡ true → (s && nat_le 1 n && nat_le n 8) ≡ true
in_range true least most n low high h = ap (λ (t : Bool). t && nat_le n 8) (le-leb 1 n low) ∙ le-leb n 8 high
in_range false true true n low high h = let bad : ⊥ = cc in absurd bad
in_range false true false n low high h = let bad : ⊥ = cc in absurd bad
in_range false false true n low high h = let bad : ⊥ = cc in absurd bad
in_range false false false n low high h = let bad : ⊥ = cc in absurd bad

-- the header with this orientation is spelled if the one with another is
spelled : (image : Image) (n : ℕ) → 1 ≤ n → n ≤ 8 → is_writable image ≡ true → is_writable (image_with_orientation n image) ≡ true
spelled image n low high =
    in_place _ _ _
    (in_place _ _ _
    (in_place _ _ _
    (in_place _ _ _
    (in_place _ _ _
    (in_place _ _ _
    (in_place _ _ _
    (in_place _ _ _
    (in_place _ _ _ (in_range (is_size false image.size) (nat_le 1 image.orientation) (nat_le image.orientation 8) n low high)))))))))

pub codable_with_orientation : (picture other : Picture) (n : ℕ) → image_of other.header ≡ image_with_orientation n (image_of picture.header) → bytes_if other.profile ≡ bytes_if picture.profile →
    IsCodable picture → 1 ≤ n → n ≤ 8 → IsCodable other
codable_with_orientation picture other n is has fit low high = record {
  writable = ap is_writable is ∙ spelled (image_of picture.header) n low high fit.writable;
  supported = ap image_refusal is ∙ fit.supported;
  wide = subst (λ (i : Image). i.size.width ≤ 2 ^ 30) (sym is) fit.wide;
  high = subst (λ (i : Image). i.size.height ≤ 2 ^ 30) (sym is) fit.high;
  want_icc = ap (λ (i : Image). i.colour_encoding.want_icc) is ∙ fit.want_icc ∙ sym (ap (λ (o : Option (List ℕ)). is_some o) has);
  profile = subst (λ (o : Option (List ℕ)). IfSome o IsCodableProfile) (sym has) fit.profile;
}
