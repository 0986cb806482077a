-- The side of a frame's groups is a power of two that an image may be cut by.
use Rattle.std.proofs.Common.{◌≡◌, ℕ, zero, suc, ◌*◌, ◌^◌, ◌<◌, ◌≤◌, Bool, true, false, List, Ok, refl, sym, ap, subst, arith}
use Rattle.jxlm_bits.proofs.BitsLemmas.{bits_at-bound}
use Rattle.jxlm_bits.specs.Bits.{bits_at}
use Rattle.jxlm_bits.specs.Grammar.{number}
use Rattle.jxlm_transform.proofs.ValidParams.{powers_are_group_dims}
use Rattle.jxlm_transform.specs.Params.{IsGroupDim}
use Rattle.jxl_image_header.specs.Fields.{when}
use Rattle.jxl_image_header.specs.Images.{Image}
use Rattle.jxl_frame_header.proofs.FrameLaws.{exact-frame_header}
use Rattle.jxl_frame_header.specs.Codings.{is_modular}
use Rattle.jxl_frame_header.specs.Frames.{Frame, frame_header}

power : (k n : ℕ) → 1 ≤ k → k ≤ 20 → n ≡ 2 ^ k → IsGroupDim n
power k n low high e = subst IsGroupDim (sym e) (powers_are_group_dims k low high)

of_two_bits : (v n : ℕ) → v < 4 → n ≡ 128 * 2 ^ v → IsGroupDim n
of_two_bits zero n lt e = power 7 n (omega arith) (omega arith) e
of_two_bits (suc zero) n lt e = power 8 n (omega arith) (omega arith) e
of_two_bits (suc (suc zero)) n lt e = power 9 n (omega arith) (omega arith) e
of_two_bits (suc (suc (suc zero))) n lt e = power 10 n (omega arith) (omega arith) e
of_two_bits (suc (suc (suc (suc v)))) n lt e = absurd (omega (arith, lt))

of_shift : (modular : Bool) (bytes : List ℕ) (p shift q : ℕ) → (when modular (number 2) 1).Stands bytes p shift q → IsGroupDim (128 * 2 ^ shift)
of_shift true bytes p shift q s =
    let few : shift < 4 = let bound : bits_at bytes p 2 < 2 ^ 2 = bits_at-bound bytes p 2 in let same : shift ≡ bits_at bytes p 2 = s.1 in omega (arith, bound, same) in
    of_two_bits shift (128 * 2 ^ shift) few refl
of_shift false bytes p shift q s = let is : shift ≡ 1 = s.0 in of_two_bits shift (128 * 2 ^ shift) (omega (arith, is)) refl

pub dim_of : (image : Image) (bytes : List ℕ) (p : ℕ) (frame : Frame) (q : ℕ) → (frame_header image).read bytes p ≡ Ok (record { value = frame; position = q }) → IsGroupDim frame.group_dim
unfolding frame_header
dim_of image bytes p frame q e =
    let (told, m, one, after_told) = (exact-frame_header image).read_stands bytes p (record { value = frame; position = q }) e in
    let (coding, a, two, after_coding) = after_told in
    let (factors, b, three, after_factors) = after_coding in
    let (shift, c, four, after_shift) = after_factors in
    let (scales, d, five, after_scales) = after_shift in
    let (passes, f, six, after_passes) = after_scales in
    let (level, g, seven, after_level) = after_passes in
    let (crop, h, eight, after_crop) = after_level in
    let (colours, i, nine, after_colours) = after_crop in
    let (others, j, ten, after_others) = after_colours in
    let (use_of_frame, k, eleven, after_use) = after_others in
    let (name, l, twelve, after_name) = after_use in
    let (filter, n, thirteen, after_filter) = after_name in
    let (extensions, o, fourteen, last) = after_filter in
    let is : frame.group_dim ≡ 128 * 2 ^ shift = ap (λ (f : Frame). f.group_dim) last.0 in
    subst IsGroupDim (sym is) (of_shift (is_modular coding.encoding) bytes b shift c four)
