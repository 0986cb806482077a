-- Headers are read exactly: the parser returns exactly what the bits at its position code.
use Rattle.std.proofs.Common.{ℕ, zero, suc, ◌+◌, ◌*◌, ◌/◌, ◌%◌, Bool, true, false, List, [], Option, Some, None, refl, ap, sym}
use Rattle.std.specs.Prelude.{◌-◌, nat_lt, nat_le, codes, ◌==◌, ◌&&◌, ◌||◌, not, count_ones, sum}
use Rattle.jxlm_bits.specs.ErrorKind.{ErrorKind, BadEnum}
use Rattle.jxlm_bits.specs.Grammar.{Grammar, IsExact, give, fail}
use Rattle.jxlm_bits.specs.declared.bits.U32Spec.TheVariants.{Const, Offset}
use Rattle.jxlm_bits.proofs.GrammarLaws.{bind, found_same, exact-give, exact-fail, exact-number, exact-either, exact-repeated, exact-flag, exact-part, exact-u32}
use Rattle.jxl_image_header.specs.Fields.{groups, long, when, optional, bundle_follows, enum_number, value_or, variant, number_meant, number_where, ignored_bytes, extensions, name, here, zero_pad_to_byte}
use Rattle.jxl_image_header.specs.Sizes.{side, size, width_at}
use Rattle.jxl_image_header.specs.Channels.{fits_float, bit_depth, kind_of, is_alpha, is_spot_colour, is_cfa, extra_channel}
use Rattle.jxl_image_header.specs.Colours.{coordinate, chromaticity, custom_primaries, white_of, white_point, primaries_of, primaries, function_of, transfer_function, space_of, is_grey, is_xyb, intent_of, colour_encoding, is_positive, is_up_to, linear_limit, tone_mapping}
use Rattle.jxl_image_header.specs.declared.channel.ExtraChannelKind.TheVariants.{Alpha}
use Rattle.jxl_image_header.specs.declared.colour.ColourSpace.TheVariants.{Rgb}
use Rattle.jxl_image_header.specs.declared.colour.RenderingIntent.TheVariants.{Relative}
use Rattle.jxl_image_header.specs.Images.{animation, matrices, image_header}

pub exact-when : {X : Type 0} {field : Grammar X} (there : Bool) (usual : X) → IsExact field → IsExact (when there field usual)
exact-when {field} there usual exact = exact-either there field (give usual) exact (exact-give usual)

pub exact-optional : {X : Type 0} {field : Grammar X} → IsExact field → IsExact (optional field)
exact-optional exact = bind exact-flag λ there. exact-when there None (bind exact λ v. exact-give (Some v))

pub exact-bundle_follows : (there : Bool) → IsExact (bundle_follows there)
exact-bundle_follows there = exact-when there false (bind exact-flag λ all_default. exact-give (not all_default))

pub exact-ignored_bytes : (n : ℕ) → IsExact (ignored_bytes n)
exact-ignored_bytes n = bind (exact-number (8 * n)) λ v. exact-give tt

pub exact-here : IsExact here
exact-here = record {
  read_stands = λ bytes p found e. let same = found_same (record { value = p; position = p }) found e in (ap (λ f. f.value) (sym same), ap (λ f. f.position) (sym same));
  stands_read = λ bytes p y q s. rw (s.0, s.1) refl;
}

pub exact-meant : (text : List ℕ) (means : Bool) (v : ℕ) → IsExact (number_meant text means v)
exact-meant text means v = exact-either means (give v) (fail (BadEnum text v)) (exact-give v) (exact-fail (BadEnum text v))

pub exact-number_where : {field : Grammar ℕ} (text : List ℕ) (holds : ℕ → Bool) → IsExact field → IsExact (number_where text holds field)
exact-number_where text holds exact = bind exact λ v. exact-meant text (holds v) v

pub exact-zero_pad_to_byte : IsExact zero_pad_to_byte
unfolding zero_pad_to_byte
exact-zero_pad_to_byte = bind exact-here λ p. exact-number_where (codes "padding") (λ v. v == 0) (exact-number ((8 - p % 8) % 8))

exact-groups : (n : ℕ) → IsExact (groups n)
unfolding groups
exact-groups zero = bind exact-flag λ more. exact-either more _ _ (exact-number 4) (exact-give 0)
exact-groups (suc n) = bind exact-flag λ more. exact-either more _ _ (bind (exact-number 8) λ v. bind (exact-groups n) λ rest. exact-give (v + 256 * rest)) (exact-give 0)

pub exact-long : IsExact long
unfolding long
exact-long =
    bind (exact-number 2) λ s. exact-either (s == 0) _ _ (exact-give 0) (exact-either (s == 1) _ _ (exact-part (Offset 1 4))
    (exact-either (s == 2) _ _ (exact-part (Offset 17 8)) (bind (exact-number 12) λ v. bind (exact-groups 6) λ rest. exact-give (v + 4096 * rest))))

pub exact-extensions : IsExact extensions
unfolding extensions
exact-extensions =
    bind exact-long λ mask. bind (exact-repeated (count_ones mask) long exact-long) λ sizes. bind (exact-number (sum sizes)) λ v. exact-give mask

exact-enum_number : IsExact enum_number
unfolding enum_number
exact-enum_number = exact-u32 (Const 0) (Const 1) (Offset 2 4) (Offset 18 6)

-- a number of an enumeration that means something
exact-enum : (text : List ℕ) (means : ℕ → Bool) → IsExact (number_where text means enum_number)
exact-enum text means = exact-number_where text means exact-enum_number

exact-value_or : {X : Type 0} (error : ErrorKind) (found : Option X) → IsExact (value_or error found)
exact-value_or error (Some x) = exact-give x
exact-value_or error None = exact-fail error

exact-variant : {X : Type 0} (text : List ℕ) (table : ℕ → Option X) → IsExact (variant text table)
exact-variant text table = bind exact-enum_number λ v. exact-value_or (BadEnum text v) (table v)

pub exact-name : IsExact name
unfolding name
exact-name = bind (exact-u32 (Const 0) (Offset 0 4) (Offset 16 5) (Offset 48 10)) λ n. bind (exact-ignored_bytes n) λ u. exact-give n

exact-side : (preview short : Bool) → IsExact (side preview short)
unfolding side
exact-side preview short =
    exact-either preview _ _
    (exact-either short _ _ (bind (exact-u32 (Const 16) (Const 32) (Offset 1 5) (Offset 33 9)) λ v. exact-give (8 * v)) (exact-u32 (Offset 1 6) (Offset 65 8) (Offset 321 10) (Offset 1345 12)))
    (exact-either short _ _ (bind (exact-number 5) λ v. exact-give (8 * (v + 1))) (exact-u32 (Offset 1 9) (Offset 1 13) (Offset 1 18) (Offset 1 30)))

exact-size : (preview : Bool) → IsExact (size preview)
unfolding size
exact-size preview =
    bind exact-flag λ short. bind (exact-side preview short) λ h. bind (exact-number 3) λ ratio.
    bind (exact-either (ratio == 0) _ _ (exact-side preview short) (exact-give (width_at ratio h))) λ w. exact-give (record { width = w; height = h })

pub exact-depth : IsExact bit_depth
unfolding bit_depth
exact-depth =
    bind exact-flag λ float.
    bind (exact-either float _ _ (exact-u32 (Const 32) (Const 16) (Const 24) (Offset 1 6))
    (exact-number_where (codes "bits_per_sample") (λ n. nat_lt n 32) (exact-u32 (Const 8) (Const 10) (Const 12) (Offset 1 6)))) λ bits.
    bind (exact-when float 0 (exact-number_where (codes "exponent_bits") (fits_float bits) (exact-part (Offset 1 4)))) λ e.
    exact-give (record { bits_per_sample = bits; exp_bits = e })

pub exact-channel : IsExact extra_channel
unfolding extra_channel
exact-channel =
    bind (exact-bundle_follows true) λ follows. bind (exact-when follows Alpha (exact-variant (codes "ExtraChannelType") kind_of)) λ kind.
    bind (exact-when follows (record { bits_per_sample = 8; exp_bits = 0 }) exact-depth) λ depth.
    bind (exact-when follows 0 (exact-u32 (Const 0) (Const 3) (Const 4) (Offset 1 3))) λ shift. bind (exact-when follows 0 exact-name) λ n.
    bind (exact-when (follows && is_alpha kind) false exact-flag) λ p. bind (exact-when (is_spot_colour kind) tt (exact-ignored_bytes 8)) λ u.
    bind (exact-when (is_cfa kind) 0 (exact-u32 (Const 1) (Offset 0 2) (Offset 3 4) (Offset 19 8))) λ v.
    exact-give (record { kind = kind; bit_depth = depth; dim_shift = shift; name_len = n; alpha_associated = p })

exact-coordinate : (there : Bool) → IsExact (coordinate there)
unfolding coordinate
exact-coordinate there = exact-when there 0 (exact-u32 (Offset 0 19) (Offset 524288 19) (Offset 1048576 20) (Offset 2097152 21))

exact-chromaticity : (there : Bool) → IsExact (chromaticity there)
unfolding chromaticity
exact-chromaticity there = bind (exact-coordinate there) λ x. bind (exact-coordinate there) λ y. exact-give (record { x = x; y = y })

exact-custom : (there : Bool) → IsExact (custom_primaries there)
unfolding custom_primaries
exact-custom there =
    bind (exact-chromaticity there) λ r. bind (exact-chromaticity there) λ g. bind (exact-chromaticity there) λ b. exact-give (record { red = r; green = g; blue = b })

exact-white : (there : Bool) → IsExact (white_point there)
unfolding white_point
exact-white there =
    bind (exact-when there 1 (exact-enum (codes "WhitePoint") (λ v. (v == 1) || (v == 2) || (v == 10) || (v == 11)))) λ n. bind (exact-chromaticity (n == 2)) λ own.
    exact-give (white_of n own)

exact-primaries : (there : Bool) → IsExact (primaries there)
unfolding primaries
exact-primaries there =
    bind (exact-when there 1 (exact-enum (codes "Primaries") (λ v. (v == 1) || (v == 2) || (v == 9) || (v == 11)))) λ n. bind (exact-custom (n == 2)) λ own.
    exact-give (primaries_of n own)

exact-transfer : (there : Bool) → IsExact (transfer_function there)
unfolding transfer_function
exact-transfer there =
    bind (exact-when there false exact-flag) λ by_gamma.
    bind (exact-when by_gamma 0 (exact-number_where (codes "gamma") (λ v. nat_le v 10000000 && nat_le 10000000 (8192 * v)) (exact-number 24))) λ g.
    bind (exact-when (not by_gamma) 0 (exact-when there 13 (exact-enum (codes "TransferFunction") (λ v. (v == 1) || (v == 8) || (v == 13) || (v == 16) || (v == 17) || (v == 18))))) λ n. exact-give (function_of n g)

pub exact-colours : (there : Bool) → IsExact (colour_encoding there)
unfolding colour_encoding
exact-colours there =
    bind (exact-bundle_follows there) λ follows. bind (exact-when follows false exact-flag) λ profile.
    bind (exact-when follows Rgb (exact-variant (codes "ColourSpace") (space_of profile))) λ space.
    bind (exact-white (follows && not profile && not (is_xyb space))) λ w.
    bind (exact-primaries (follows && not profile && not (is_grey space || is_xyb space))) λ b.
    bind (exact-transfer (follows && not profile && not (is_xyb space))) λ t.
    bind (exact-when (follows && not profile) Relative (exact-variant (codes "RenderingIntent") intent_of)) λ i.
    exact-give (record { want_icc = profile; colour_space = space; white_point = w; primaries = b; transfer_function = t; rendering_intent = i })

exact-tone : (there : Bool) → IsExact (tone_mapping there)
unfolding tone_mapping
exact-tone there =
    bind (exact-bundle_follows there) λ follows. bind (exact-when follows 0x5BF8 (exact-number_where (codes "intensity_target") is_positive (exact-number 16))) λ a.
    bind (exact-when follows 0 (exact-number_where (codes "min_nits") (is_up_to a) (exact-number 16))) λ b.
    bind (exact-when follows false exact-flag) λ c.
    bind (exact-when follows 0 (exact-number_where (codes "linear_below") (is_up_to (linear_limit c)) (exact-number 16))) λ d.
    exact-give (record { intensity_target = a; min_nits = b; relative_to_max_display = c; linear_below = d })

exact-animation : IsExact animation
unfolding animation
exact-animation =
    bind (exact-u32 (Const 100) (Const 1000) (Offset 1 10) (Offset 1 30)) λ a. bind (exact-u32 (Const 1) (Const 1001) (Offset 1 8) (Offset 1 10)) λ b.
    bind (exact-u32 (Const 0) (Offset 0 3) (Offset 0 16) (Offset 0 32)) λ c. bind exact-flag λ d. exact-give (record { tps_numerator = a; tps_denominator = b; num_loops = c; have_timecodes = d })

exact-matrices : (xyb : Bool) → IsExact (matrices xyb)
unfolding matrices
exact-matrices xyb =
    bind (exact-bundle_follows true) λ follows. bind (exact-bundle_follows (follows && xyb)) λ opsin. bind (exact-when opsin tt (exact-ignored_bytes 32)) λ u.
    bind (exact-when follows 0 (exact-number 3)) λ mask. bind (exact-when (mask % 2 == 1) tt (exact-ignored_bytes 30)) λ a.
    bind (exact-when (mask / 2 % 2 == 1) tt (exact-ignored_bytes 110)) λ b. exact-when (mask / 4 == 1) tt (exact-ignored_bytes 420)

pub exact-image_header : IsExact image_header
unfolding image_header
exact-image_header =
    bind (exact-number_where (codes "signature") (λ v. v == 0x0AFF) (exact-number 16)) λ v. bind (exact-size false) λ size. bind (exact-bundle_follows true) λ follows.
    bind (exact-when follows false exact-flag) λ more. bind (exact-when more 0 (exact-number 3)) λ o. bind (exact-when more None (exact-optional (exact-size false))) λ i.
    bind (exact-when more None (exact-optional (exact-size true))) λ p. bind (exact-when more None (exact-optional exact-animation)) λ a.
    bind (exact-when follows (record { bits_per_sample = 8; exp_bits = 0 }) exact-depth) λ d. bind (exact-when follows true exact-flag) λ n.
    bind (exact-when follows [] (bind (exact-number_where (codes "num_extra_channels") (λ n. nat_le n 256) (exact-u32 (Const 0) (Const 1) (Offset 2 4) (Offset 1 12))) λ n. exact-repeated n extra_channel exact-channel)) λ extra.
    bind (exact-when follows true exact-flag) λ xyb. bind (exact-colours follows) λ c. bind (exact-tone more) λ t. bind (exact-when follows 0 exact-extensions) λ e.
    bind (exact-matrices xyb) λ u. exact-give (record {
      size = size;
      orientation = o + 1;
      intrinsic_size = i;
      preview = p;
      animation = a;
      bit_depth = d;
      modular_16bit_buffers = n;
      ec_info = extra;
      xyb_encoded = xyb;
      colour_encoding = c;
      tone_mapping = t;
      extensions = e;
    })
