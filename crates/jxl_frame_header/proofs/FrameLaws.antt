-- Frame headers are read exactly: the parser returns exactly what the bits at its position code.
use Rattle.std.proofs.Common.{ℕ, zero, suc, ◌∷◌, ◌-◌, ◌*◌, ◌^◌, Bool, true, false, [], length, Some, None, Option}
use Rattle.std.specs.Prelude.{nat_lt, nat_le, codes, ◌==◌, ◌&&◌, ◌||◌, not, is_some, if◌then◌else◌}
use Rattle.std.specs.Option.{option_map_or}
use Rattle.jxlm_bits.specs.Grammar.{Grammar, IsExact}
use Rattle.jxlm_bits.specs.Numbers.{unpack}
use Rattle.jxlm_bits.specs.declared.bits.U32Spec.TheVariants.{Const, Offset}
use Rattle.jxlm_bits.proofs.GrammarLaws.{bind, exact-give, exact-number, exact-repeated, exact-flag, exact-u32}
use Rattle.jxl_image_header.proofs.HeaderLaws.{exact-number_where, exact-extensions, exact-long, exact-name, exact-optional, exact-ignored_bytes, exact-bundle_follows, exact-when}
use Rattle.jxl_image_header.specs.Images.{Image}
use Rattle.jxl_image_header.specs.declared.size.Size.{Size}
use Rattle.jxl_image_header.specs.declared.image.Animation.{Animation}
use Rattle.jxl_frame_header.specs.Codings.{flags_of, factor, coding, is_modular}
use Rattle.jxl_frame_header.specs.Passes.{in_turn, passes}
use Rattle.jxl_frame_header.specs.Inner.Checked.{finer, later}
use Rattle.jxl_frame_header.specs.Places.{is_shown, is_lf, is_reference, extent, covers, crop}
use Rattle.jxl_frame_header.specs.Blendings.{blending_info, is_replace, frame_use}
use Rattle.jxl_frame_header.specs.Filters.{own_floats, filter}
use Rattle.jxl_frame_header.specs.Frames.{frame_header}
use Rattle.jxl_frame_header.specs.declared.blending.BlendMode.TheVariants.{Replace, Add, Blend, MulAdd, Mul}
use Rattle.jxl_frame_header.specs.declared.coding.FrameType.{FrameType}
use Rattle.jxl_frame_header.specs.declared.coding.FrameType.TheVariants.{Regular, LfFrame, ReferenceOnly, SkipProgressive}
use Rattle.jxl_frame_header.specs.declared.coding.Encoding.TheVariants.{VarDct, Modular}

exact-factor : IsExact factor
unfolding factor
exact-factor = exact-u32 (Const 1) (Const 2) (Const 4) (Const 8)

exact-coding : (follows xyb : Bool) → IsExact (coding follows xyb)
unfolding coding
exact-coding follows xyb =
    bind (exact-when follows 0 (exact-number 2)) λ t. bind (exact-when follows false exact-flag) λ modular.
    bind (bind (exact-when follows 0 exact-long) λ v. exact-give (flags_of v)) λ f.
    bind (exact-when (follows && not xyb) false exact-flag) λ ycbcr.
    bind (exact-when (ycbcr && not f.use_lf_frame) 0 (exact-number 6)) λ sampled.
    bind (exact-when (follows && not f.use_lf_frame) 1 exact-factor) λ upsampling.
    exact-give (record { frame_type = if t == 0 then Regular else if t == 1 then LfFrame else if t == 2 then ReferenceOnly else SkipProgressive; encoding = if modular then Modular else VarDct; flags = f; do_ycbcr = ycbcr; upsampling = upsampling })

exact-in_turn : (n : ℕ) (field : Option ℕ → Grammar ℕ) → ((before : Option ℕ) → IsExact (field before)) → (before : Option ℕ) → IsExact (in_turn n field before)
exact-in_turn zero field each before = exact-give []
exact-in_turn (suc n) field each before = bind (each before) λ v. bind (exact-in_turn n field each (Some v)) λ vs. exact-give (v ∷ vs)

exact-finer : (before : Option ℕ) → IsExact (finer before)
exact-finer before = exact-number_where (codes "downsample") (λ v. option_map_or (λ b. nat_lt v b) before true) exact-factor

exact-later : (count : ℕ) (before : Option ℕ) → IsExact (later count before)
exact-later count before =
    exact-number_where (codes "last_pass") (λ v. option_map_or (λ b. nat_lt b v) before true && nat_lt v count) (exact-u32 (Const 0) (Const 1) (Const 2) (Offset 0 3))

exact-passes : (there : Bool) → IsExact (passes there)
unfolding passes
exact-passes there =
    bind (exact-when there 1 (exact-u32 (Const 1) (Const 2) (Const 3) (Offset 4 3))) λ count.
    bind (exact-when (not (count == 1)) 0 (exact-number_where (codes "num_downsample") (λ n. nat_le n count) (exact-u32 (Const 0) (Const 1) (Const 2) (Offset 3 1)))) λ n.
    bind (exact-repeated (count - 1) _ (exact-u32 (Const 0) (Const 1) (Const 2) (Const 3))) λ shifts.
    bind (exact-in_turn n finer exact-finer None) λ factors.
    bind (exact-in_turn n (later count) (exact-later count) None) λ lasts.
    exact-give (record { num_passes = count; shift = shifts; downsample = factors; last_pass = lasts })

exact-extent : IsExact extent
unfolding extent
exact-extent = exact-u32 (Offset 0 8) (Offset 256 11) (Offset 2304 14) (Offset 18688 30)

exact-crop : (size : Size) (shown : Bool) → IsExact (crop size shown)
unfolding crop
exact-crop size shown =
    bind (exact-when shown 0 exact-extent) λ x. bind (exact-when shown 0 exact-extent) λ y. bind exact-extent λ w. bind exact-extent λ h.
    exact-give (record { x0 = unpack x; y0 = unpack y; width = w; height = h; partial = shown && not (covers x w size.width && covers y h size.height) })

exact-info : (there : Bool) (extra : ℕ) (partial : Bool) → IsExact (blending_info there extra partial)
unfolding blending_info
exact-info there extra partial =
    bind (exact-when there 0 (exact-number_where (codes "BlendMode") (λ v. nat_lt v 5) (exact-u32 (Const 0) (Const 1) (Const 2) (Offset 3 2)))) λ mode.
    bind (exact-when (nat_lt 0 extra && ((mode == 2) || (mode == 3))) 0 (exact-number_where (codes "alpha_channel") (λ v. nat_lt v extra) (exact-u32 (Const 0) (Const 1) (Const 2) (Offset 3 3)))) λ a.
    bind (exact-when (nat_lt 0 extra && ((mode == 2) || (mode == 3)) || (mode == 4)) false exact-flag) λ c.
    bind (exact-when (not (mode == 0) || there && partial) 0 (exact-number 2)) λ s.
    exact-give (record { mode = if mode == 0 then Replace else if mode == 1 then Add else if mode == 2 then Blend else if mode == 3 then MulAdd else Mul; alpha_channel = a; clamp = c; source = s })

exact-frame_use : (shown : Bool) (animation : Option Animation) (t : FrameType) (replaces : Bool) → IsExact (frame_use shown animation t replaces)
unfolding frame_use
exact-frame_use shown animation t replaces =
    bind (exact-when (shown && is_some animation) 0 (exact-u32 (Const 0) (Const 1) (Offset 0 8) (Offset 0 32))) λ time.
    bind (exact-when (shown && option_map_or (λ a. a.have_timecodes) animation false) 0 (exact-number 32)) λ code.
    bind (exact-when shown (is_shown t) exact-flag) λ last.
    bind (exact-when (not (is_lf t) && not last) 0 (exact-number 2)) λ reference.
    bind (exact-when (is_reference t || shown && replaces && not last && ((time == 0) || not (reference == 0))) (is_lf t) exact-flag) λ before.
    exact-give (record { duration = time; timecode = code; is_last = last; save_as_reference = reference; save_before_ct = before })

exact-own_floats : (n : ℕ) → IsExact (own_floats n)
unfolding own_floats
exact-own_floats n = bind exact-flag λ own. exact-when own tt (exact-ignored_bytes n)

exact-filter : (there modular : Bool) → IsExact (filter there modular)
unfolding filter
exact-filter there modular =
    bind (exact-bundle_follows there) λ follows. bind (exact-when follows true exact-flag) λ gab. bind (exact-when (follows && gab) tt (exact-own_floats 12)) λ weights.
    bind (exact-when follows 2 (exact-number 2)) λ times.
    bind (exact-when (follows && not (times == 0) && not modular) tt (exact-own_floats 16)) λ sharpnesses.
    bind (exact-when (follows && not (times == 0)) tt (exact-own_floats 10)) λ edges.
    bind (exact-when (follows && not (times == 0)) tt (exact-own_floats (if modular then 6 else 8))) λ sigmas.
    bind (exact-when (follows && not (times == 0) && modular) tt (exact-ignored_bytes 2)) λ sigma.
    bind (exact-when follows 0 exact-extensions) λ e.
    exact-give (record { gab = gab; epf_iters = times; extensions = e })

pub exact-frame_header : (image : Image) → IsExact (frame_header image)
unfolding frame_header
exact-frame_header image =
    bind (exact-bundle_follows true) λ follows. bind (exact-coding follows image.xyb_encoded) λ c.
    bind (exact-when (follows && not c.flags.use_lf_frame) [] (exact-repeated (length image.ec_info) factor exact-factor)) λ factors.
    bind (exact-when (is_modular c.encoding) 1 (exact-number 2)) λ shift.
    bind (exact-when (follows && not (is_modular c.encoding) && image.xyb_encoded) 0 (exact-number 6)) λ scales.
    bind (exact-passes (follows && not (is_reference c.frame_type))) λ passes.
    bind (exact-when (is_lf c.frame_type) 0 (exact-u32 (Const 1) (Const 2) (Const 3) (Const 4))) λ level.
    bind (exact-when (follows && not (is_lf c.frame_type)) None (exact-optional (exact-crop image.size (is_shown c.frame_type)))) λ crop.
    bind (exact-info (follows && is_shown c.frame_type) (length image.ec_info) (option_map_or (λ c. c.partial) crop false)) λ colours.
    bind (exact-when (follows && is_shown c.frame_type) [] (exact-repeated (length image.ec_info) (blending_info true (length image.ec_info) (option_map_or (λ c. c.partial) crop false))
    (exact-info true (length image.ec_info) (option_map_or (λ c. c.partial) crop false)))) λ others.
    bind (exact-frame_use (follows && is_shown c.frame_type) image.animation c.frame_type (is_replace colours.mode && not (option_map_or (λ c. c.partial) crop false))) λ frame_use.
    bind (exact-when follows 0 exact-name) λ n. bind (exact-filter follows (is_modular c.encoding)) λ f. bind (exact-when follows 0 exact-extensions) λ e.
    exact-give (record {
      coding = c;
      ec_upsampling = factors;
      group_dim = 128 * 2 ^ shift;
      passes = passes;
      place = record { lf_level = level; crop = crop };
      blending_info = colours;
      ec_blending_info = others;
      frame_use = frame_use;
      name_len = n;
      restoration_filter = f;
      extensions = e;
    })
