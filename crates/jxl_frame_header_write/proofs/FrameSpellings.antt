-- Spellings of headers of frames.
use Rattle.std.proofs.Common.{◌≡◌, ℕ, ◌*◌, ◌^◌, List, [], length, Bool, true, None, refl, sym, ap, ◌∙◌, subst}
use Rattle.std.specs.Prelude.{not, ◌==◌, ◌&&◌}
use Rattle.std.proofs.lemmas.Bool.{and_parts, eqb-true}
use Rattle.jxlm_bits.specs.Grammar.{number, u32, repeated}
use Rattle.jxlm_bits.specs.declared.bits.U32Spec.TheVariants.{Const}
use Rattle.jxlm_bit_writer.specs.Writes.{Spells, Writes}
use Rattle.jxlm_bit_writer.proofs.WriteLaws.{after, becomes, absent, spelled_reads}
use Rattle.jxl_image_header.specs.Fields.{when, optional, bundle_follows, extensions, name}
use Rattle.jxl_image_header.specs.Images.{Image}
use Rattle.jxl_image_header_write.proofs.Spellings.{present}
use Rattle.jxl_frame_header.specs.Codings.{factor, coding, is_modular}
use Rattle.jxl_frame_header.specs.Passes.{passes}
use Rattle.jxl_frame_header.specs.Places.{crop, is_shown, is_lf, is_reference}
use Rattle.jxl_frame_header.specs.Blendings.{blending_info, frame_use, is_replace}
use Rattle.jxl_frame_header.specs.Filters.{filter}
use Rattle.jxl_frame_header.specs.Frames.{Frame, frame_header}
use Rattle.jxl_frame_header.proofs.FrameLaws.{exact-frame_header}
use Rattle.jxl_frame_header_write.specs.Writable.{is_coding, are_factors, is_dim, are_passes, is_level, is_place, is_blending, are_blendings, is_use, is_filter, is_partial, is_writable}

-- what the writer asks of a frame of an image
pub record FrameParts (image : Image) (f : Frame) : Type 0 where
  pub coding : is_coding f.coding ≡ true
  pub factors : are_factors (not f.coding.flags.use_lf_frame) (length image.ec_info) f.ec_upsampling ≡ true
  pub dim : is_dim f.group_dim ≡ true
  pub passes : are_passes (not (is_reference f.coding.frame_type)) f.passes ≡ true
  pub level : is_level (is_lf f.coding.frame_type) f.place.lf_level ≡ true
  pub place : is_place (not (is_lf f.coding.frame_type)) image.size (is_shown f.coding.frame_type) f.place.crop ≡ true
  pub colours : is_blending (is_shown f.coding.frame_type) (length image.ec_info) (is_partial f) f.blending_info ≡ true
  pub others : are_blendings (is_shown f.coding.frame_type) (length image.ec_info) (is_partial f) f.ec_blending_info ≡ true
  pub usage : is_use (is_shown f.coding.frame_type) image.animation f.coding.frame_type (is_replace f.blending_info.mode && not (is_partial f)) f.frame_use ≡ true
  pub nameless : f.name_len ≡ 0
  pub filter : is_filter f.restoration_filter ≡ true
  pub extensions : f.extensions ≡ 0

pub frame_parts : (image : Image) (f : Frame) → is_writable image f ≡ true → FrameParts image f
frame_parts image f w =
    let shown : Bool = is_shown f.coding.frame_type in
    let c0 : Bool = is_coding f.coding in
    let c1 : Bool = are_factors (not f.coding.flags.use_lf_frame) (length image.ec_info) f.ec_upsampling in
    let c2 : Bool = is_dim f.group_dim in
    let c3 : Bool = are_passes (not (is_reference f.coding.frame_type)) f.passes in
    let c4 : Bool = is_level (is_lf f.coding.frame_type) f.place.lf_level in
    let c5 : Bool = is_place (not (is_lf f.coding.frame_type)) image.size shown f.place.crop in
    let c6 : Bool = is_blending shown (length image.ec_info) (is_partial f) f.blending_info in
    let c7 : Bool = are_blendings shown (length image.ec_info) (is_partial f) f.ec_blending_info in
    let c8 : Bool = is_use shown image.animation f.coding.frame_type (is_replace f.blending_info.mode && not (is_partial f)) f.frame_use in
    let c9 : Bool = f.name_len == 0 in
    let c10 : Bool = is_filter f.restoration_filter in
    let s11 = and_parts (c0 && c1 && c2 && c3 && c4 && c5 && c6 && c7 && c8 && c9 && c10) (f.extensions == 0) w in
    let s10 = and_parts (c0 && c1 && c2 && c3 && c4 && c5 && c6 && c7 && c8 && c9) c10 s11.0 in
    let s9 = and_parts (c0 && c1 && c2 && c3 && c4 && c5 && c6 && c7 && c8) c9 s10.0 in
    let s8 = and_parts (c0 && c1 && c2 && c3 && c4 && c5 && c6 && c7) c8 s9.0 in
    let s7 = and_parts (c0 && c1 && c2 && c3 && c4 && c5 && c6) c7 s8.0 in
    let s6 = and_parts (c0 && c1 && c2 && c3 && c4 && c5) c6 s7.0 in
    let s5 = and_parts (c0 && c1 && c2 && c3 && c4) c5 s6.0 in
    let s4 = and_parts (c0 && c1 && c2 && c3) c4 s5.0 in
    let s3 = and_parts (c0 && c1 && c2) c3 s4.0 in
    let s2 = and_parts (c0 && c1) c2 s3.0 in
    let s1 = and_parts c0 c1 s2.0 in
    record {
      coding = s1.0;
      factors = s1.1;
      dim = s2.1;
      passes = s3.1;
      level = s4.1;
      place = s5.1;
      colours = s6.1;
      others = s7.1;
      usage = s8.1;
      nameless = eqb-true f.name_len 0 s9.1;
      filter = s10.1;
      extensions = eqb-true f.extensions 0 s11.1;
    }

pub is_modular_coding : (f : Frame) → is_coding f.coding ≡ true → is_modular f.coding.encoding ≡ true
is_modular_coding f w = (and_parts (is_modular f.coding.encoding) (not f.coding.do_ycbcr) (and_parts _ _ w).0).0

abbrev frame_by : Frame → ℕ → ℕ → ℕ → Frame
frame_by f dim length extensions = record {
  coding = f.coding;
  ec_upsampling = f.ec_upsampling;
  group_dim = dim;
  passes = f.passes;
  place = f.place;
  blending_info = f.blending_info;
  ec_blending_info = f.ec_blending_info;
  frame_use = f.frame_use;
  name_len = length;
  restoration_filter = f.restoration_filter;
  extensions = extensions;
}

pub frame_spelled : (image : Image) (f : Frame) (shift : ℕ) (b0 b1 b2 b3 b4 b5 b6 b7 b8 b9 b10 b11 b12 b13 : List ℕ) → FrameParts image f → f.group_dim ≡ 128 * 2 ^ shift → Spells b0 b1 (bundle_follows true) true →
    Spells b1 b2 (coding true image.xyb_encoded) f.coding → Spells b2 b3 (when (not f.coding.flags.use_lf_frame) (repeated (length image.ec_info) factor) []) f.ec_upsampling →
    Spells b3 b4 (number 2) shift → Spells b4 b5 (passes (not (is_reference f.coding.frame_type))) f.passes →
    Spells b5 b6 (when (is_lf f.coding.frame_type) (u32 (Const 1) (Const 2) (Const 3) (Const 4)) 0) f.place.lf_level →
    Spells b6 b7 (when (not (is_lf f.coding.frame_type)) (optional (crop image.size (is_shown f.coding.frame_type))) None) f.place.crop →
    Spells b7 b8 (blending_info (is_shown f.coding.frame_type) (length image.ec_info) (is_partial f)) f.blending_info →
    Spells b8 b9 (when (is_shown f.coding.frame_type) (repeated (length image.ec_info) (blending_info true (length image.ec_info) (is_partial f))) []) f.ec_blending_info →
    Spells b9 b10 (frame_use (is_shown f.coding.frame_type) image.animation f.coding.frame_type (is_replace f.blending_info.mode && not (is_partial f))) f.frame_use →
    Spells b10 b11 name 0 → Spells b11 b12 (filter true true) f.restoration_filter → Spells b12 b13 (when true extensions 0) 0 → Writes b0 b13 (frame_header image).read f
unfolding frame_header
frame_spelled image f shift b0 b1 b2 b3 b4 b5 b6 b7 b8 b9 b10 b11 b12 b13 parts dim u0 u1 u2 u3 u4 u5 u6 u7 u8 u9 u10 u11 u12 =
    let m = is_modular_coding f parts.coding in
    let v3 = present (is_modular f.coding.encoding) (number 2) 1 shift b3 b4 m u3 in
    let scales = absent (not (is_modular f.coding.encoding) && image.xyb_encoded) (number 6) 0 0 b4 (ap (λ (r : Bool). not r && image.xyb_encoded) m) refl in
    let v11 = subst (λ (r : Bool). Spells b11 b12 (filter true r) f.restoration_filter) (sym m) u11 in
    let e : f ≡ frame_by f (128 * 2 ^ shift) 0 0 = ap (λ (n : ℕ). frame_by f n f.name_len f.extensions) dim ∙ ap (λ (n : ℕ). frame_by f (128 * 2 ^ shift) n f.extensions) parts.nameless
    ∙ ap (λ (n : ℕ). frame_by f (128 * 2 ^ shift) 0 n) parts.extensions in
    spelled_reads (frame_header image) f b0 b13 (exact-frame_header image)
    (becomes (after u0 (after u1 (after u2 (after v3 (after scales (after u4 (after u5 (after u6 (after u7 (after u8 (after u9 (after u10 (after v11 u12))))))))))))) (λ bytes p q t. (true, t.0, t.1, (f.coding, t.2.0, t.2.1, (f.ec_upsampling, t.2.2.0, t.2.2.1, (shift, t.2.2.2.0, t.2.2.2.1, (0, t.2.2.2.2.0, t.2.2.2.2.1, (f.passes, t.2.2.2.2.2.0, t.2.2.2.2.2.1, (f.place.lf_level, t.2.2.2.2.2.2.0, t.2.2.2.2.2.2.1, (f.place.crop, t.2.2.2.2.2.2.2.0, t.2.2.2.2.2.2.2.1, (f.blending_info, t.2.2.2.2.2.2.2.2.0, t.2.2.2.2.2.2.2.2.1, (f.ec_blending_info, t.2.2.2.2.2.2.2.2.2.0, t.2.2.2.2.2.2.2.2.2.1, (f.frame_use, t.2.2.2.2.2.2.2.2.2.2.0, t.2.2.2.2.2.2.2.2.2.2.1, (0, t.2.2.2.2.2.2.2.2.2.2.2.0, t.2.2.2.2.2.2.2.2.2.2.2.1, (f.restoration_filter, t.2.2.2.2.2.2.2.2.2.2.2.2.0, t.2.2.2.2.2.2.2.2.2.2.2.2.1, (0, q, t.2.2.2.2.2.2.2.2.2.2.2.2.2, (e, refl)))))))))))))))))
