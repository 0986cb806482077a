-- Spellings of the place of a frame.
use Rattle.std.proofs.Common.{◌≡◌, ℕ, ◌+◌, ◌*◌, ◌/◌, ◌%◌, ℤ, pos, negsuc, List, Bool, true, false, Option, Some, None, refl, sym, ap, ◌∙◌, subst, arith}
use Rattle.std.specs.Prelude.{not, ◌&&◌, if◌then◌else◌}
use Rattle.std.proofs.lemmas.Bool.{and_parts, eqb-true, false≢true}
use Rattle.jxlm_bits.specs.Grammar.{u32}
use Rattle.jxlm_bits.specs.Numbers.{unpack}
use Rattle.jxlm_bits.specs.declared.bits.U32Spec.TheVariants.{Offset}
use Rattle.jxlm_bit_writer.specs.Writes.{Spells}
use Rattle.jxlm_bit_writer.proofs.WriteLaws.{after, becomes}
use Rattle.jxl_image_header.specs.Fields.{when}
use Rattle.jxl_image_header.specs.declared.size.Size.{Size}
use Rattle.jxl_frame_header.specs.Places.{extent, covers, crop}
use Rattle.jxl_frame_header.specs.declared.place.Crop.{Crop}
use Rattle.jxl_frame_header_write.specs.Writable.{corner_number, is_extent, is_corner, is_crop, is_place}
use Rattle.jxl_frame_header_write.proofs.CodingSpellings.{not_true}

pub extent_spelled : (t : Bool) (v : ℕ) (a b : List ℕ) → Spells a b (when t (u32 (Offset 0 8) (Offset 256 11) (Offset 2304 14) (Offset 18688 30)) 0) v → Spells a b (when t extent 0) v
unfolding extent
extent_spelled t v a b u = u

-- a coordinate's number is that of the coordinate
pub corner_back : (z : ℤ) → unpack (corner_number z) ≡ z
corner_back (pos k) =
    let even : 2 * k % 2 ≡ 0 = omega arith in
    let half : 2 * k / 2 ≡ k = omega arith in
    rw (even, half) refl
corner_back (negsuc k) =
    let odd : (2 * k + 1) % 2 ≡ 1 = omega arith in
    let half : (2 * k + 1) / 2 ≡ k = omega arith in
    rw (odd, half) refl

-- what the writer asks of a place
pub record CropParts (size : Size) (shown : Bool) (c : Crop) : Type 0 where
  pub x : shown ≡ true → is_extent (corner_number c.x0) ≡ true
  pub no_x : shown ≡ false → corner_number c.x0 ≡ 0
  pub y : shown ≡ true → is_extent (corner_number c.y0) ≡ true
  pub no_y : shown ≡ false → corner_number c.y0 ≡ 0
  pub width : is_extent c.width ≡ true
  pub height : is_extent c.height ≡ true
  pub partial : c.partial ≡ (shown && not (covers (corner_number c.x0) c.width size.width && covers (corner_number c.y0) c.height size.height))

by_corner : (shown : Bool) (z : ℤ) → is_corner shown z ≡ true → (shown ≡ true → is_extent (corner_number z) ≡ true) × (shown ≡ false → corner_number z ≡ 0)
by_corner true z h = (λ e. h, λ e. absurd (false≢true (sym e)))
by_corner false z h = (λ e. absurd (false≢true e), λ e. eqb-true (corner_number z) 0 h)

by_partial : (t p : Bool) → (if t then p else not p) ≡ true → p ≡ t
by_partial true p h = h
by_partial false p h = not_true p h

pub crop_parts : (size : Size) (shown : Bool) (c : Crop) → is_crop size shown c ≡ true → CropParts size shown c
crop_parts size shown c w =
    let t : Bool = shown && not (covers (corner_number c.x0) c.width size.width && covers (corner_number c.y0) c.height size.height) in
    let s4 = and_parts (is_corner shown c.x0 && is_corner shown c.y0 && is_extent c.width && is_extent c.height) (if t then c.partial else not c.partial) w in
    let s3 = and_parts (is_corner shown c.x0 && is_corner shown c.y0 && is_extent c.width) (is_extent c.height) s4.0 in
    let s2 = and_parts (is_corner shown c.x0 && is_corner shown c.y0) (is_extent c.width) s3.0 in
    let s1 = and_parts (is_corner shown c.x0) (is_corner shown c.y0) s2.0 in
    let x = by_corner shown c.x0 s1.0 in
    let y = by_corner shown c.y0 s1.1 in
    record { x = x.0; no_x = x.1; y = y.0; no_y = y.1; width = s2.1; height = s3.1; partial = by_partial t c.partial s4.1 }

abbrev crop_by : Crop → ℤ → ℤ → Bool → Crop
crop_by c x y partial = record { x0 = x; y0 = y; width = c.width; height = c.height; partial = partial }

pub crop_spelled : (size : Size) (shown : Bool) (c : Crop) (b0 b1 b2 b3 b4 : List ℕ) → CropParts size shown c → Spells b0 b1 (when shown extent 0) (corner_number c.x0) →
    Spells b1 b2 (when shown extent 0) (corner_number c.y0) → Spells b2 b3 (when true extent 0) c.width → Spells b3 b4 (when true extent 0) c.height → Spells b0 b4 (crop size shown) c
unfolding crop
crop_spelled size shown c b0 b1 b2 b3 b4 parts u v w h =
    let t : Bool = shown && not (covers (corner_number c.x0) c.width size.width && covers (corner_number c.y0) c.height size.height) in
    let x : ℤ = unpack (corner_number c.x0) in
    let y : ℤ = unpack (corner_number c.y0) in
    let e : c ≡ crop_by c x y t = ap (λ (z : ℤ). crop_by c z c.y0 c.partial) (sym (corner_back c.x0)) ∙ ap (λ (z : ℤ). crop_by c x z c.partial) (sym (corner_back c.y0)) ∙ ap (λ (r : Bool). crop_by c x y r) parts.partial in
    becomes (after u (after v (after w h))) (λ bytes p q k. (corner_number c.x0, k.0, k.1, (corner_number c.y0, k.2.0, k.2.1, (c.width, k.2.2.0, k.2.2.1, (c.height, q, k.2.2.2, (e, refl))))))

-- a place of its own, only where it may be told
pub place_none : (t : Bool) (size : Size) (shown : Bool) (o : Option Crop) → is_place t size shown o ≡ true → t ≡ false → o ≡ None
place_none true size shown o h e = absurd (false≢true (sym e))
place_none false size shown None h e = refl
place_none false size shown (Some c) h e = absurd (false≢true h)

crop_told : (t : Bool) (size : Size) (shown : Bool) (c : Crop) → is_place t size shown (Some c) ≡ true → is_crop size shown c ≡ true
crop_told true size shown c h = h
crop_told false size shown c h = absurd (false≢true h)

pub place_some : (t : Bool) (size : Size) (shown : Bool) (o : Option Crop) (c : Crop) → is_place t size shown o ≡ true → o ≡ Some c → is_crop size shown c ≡ true
place_some t size shown o c h e = crop_told t size shown c (subst (λ (x : Option Crop). is_place t size shown x ≡ true) e h)
