-- Spellings of image headers.
use Rattle.std.proofs.Common.{◌≡◌, ℕ, zero, suc, ◌+◌, ◌-◌, ◌≤◌, List, [], ◌∷◌, length, Bool, true, false, Option, Some, None, refl, sym, ap, ◌∙◌, arith}
use Rattle.std.specs.Prelude.{not, ◌==◌, ◌&&◌, ◌||◌, nat_le, nat_lt, is_some, codes}
use Rattle.std.specs.List.{list_all}
use Rattle.std.specs.Option.{option_map_or}
use Rattle.std.proofs.lemmas.Bool.{and_parts, eqb-true, leb-true, false≢true}
use Rattle.std.proofs.lemmas.Bool.Decides.{nat_tests}
use Rattle.jxlm_bits.specs.Grammar.{number, flag, u32, repeated}
use Rattle.jxlm_bits.specs.declared.bits.U32Spec.TheVariants.{Const, Offset}
use Rattle.jxlm_bit_writer.specs.Fields.{is_spelled}
use Rattle.jxlm_bit_writer.specs.Writes.{Spells, Writes}
use Rattle.jxlm_bit_writer.proofs.WriteLaws.{after, becomes, spelled_reads}
use Rattle.jxl_image_header.specs.Fields.{when, optional, bundle_follows, extensions}
use Rattle.jxl_image_header.specs.Sizes.{size}
use Rattle.jxl_image_header.specs.Channels.{bit_depth, extra_channel}
use Rattle.jxl_image_header.specs.Colours.{colour_encoding, tone_mapping}
use Rattle.jxl_image_header.specs.Images.{Image, animation, matrices, image_header}
use Rattle.jxl_image_header.specs.declared.image.Animation.{Animation}
use Rattle.jxl_image_header.specs.declared.channel.ExtraChannel.{ExtraChannel}
use Rattle.jxl_image_header.proofs.HeaderLaws.{exact-image_header}
use Rattle.jxl_image_header_write.specs.Inner.Channels.{extra_channels}
use Rattle.jxl_image_header_write.specs.Writable.{is_size, is_animation, is_depth, is_usual_depth, is_channel, is_colour, is_usual_colour, is_tone, is_usual_tone, has_more, is_told, is_writable}
use Rattle.jxl_image_header_write.proofs.Spellings.{present, meant}

-- the matrices by default
pub matrices_usual : (xyb : Bool) (a b : List ℕ) → Spells a b flag true → Spells a b (matrices xyb) tt
unfolding matrices
matrices_usual xyb a b u = becomes u (λ bytes p q s.
    (false, q, (true, q, s, (refl, refl)), (false, q, (refl, refl), (tt, q, (refl, refl), (0, q, (refl, refl), (tt, q, (refl, refl), (tt, q, (refl, refl), (refl, refl))))))))

-- extra channels after their number
pub channels_present : (t : Bool) (cs : List ExtraChannel) (a b c : List ℕ) → t ≡ true → length cs ≤ 256 → Spells a b (u32 (Const 0) (Const 1) (Offset 2 4) (Offset 1 12)) (length cs) →
    Spells b c (repeated (length cs) extra_channel) cs → Spells a c (when t extra_channels []) cs
channels_present t cs a b c e few u v =
    let fits : nat_le (length cs) 256 ≡ true = grind (arith, nat_tests) in
    let count = meant (codes "num_extra_channels") (λ n. nat_le n 256) (u32 (Const 0) (Const 1) (Offset 2 4) (Offset 1 12)) (length cs) a b fits u in
    present t extra_channels [] cs a c e (becomes (after count v) (λ bytes p q s. (length cs, s.0, s.1, s.2)))

none_is : {X : Type 0} (o : Option X) → is_some o ≡ false → o ≡ None
none_is None h = refl
none_is (Some x) h = absurd (false≢true (sym h))

or_last : (a b c d : Bool) → d ≡ true → (a || b || c || d) ≡ true
or_last true b c d h = refl
or_last false true c d h = refl
or_last false false true d h = refl
or_last false false false d h = h

both_true : (a b : Bool) → a ≡ true → b ≡ true → (a && b) ≡ true
both_true true b e f = f
both_true false b e f = absurd (false≢true e)

some_spelled : (n : ℕ) → 1 ≤ n → n ≤ 4096 → is_spelled (Const 0) (Const 1) (Offset 2 4) (Offset 1 12) n ≡ true
some_spelled n low high =
    let a : nat_le 1 n ≡ true = grind (arith, nat_tests) in
    let b : nat_lt (n - 1) 4096 ≡ true = grind (arith, nat_tests) in
    or_last (0 == n) (1 == n) (nat_le 2 n && nat_lt (n - 2) 16) (nat_le 1 n && nat_lt (n - 1) 4096) (both_true (nat_le 1 n) (nat_lt (n - 1) 4096) a b)

pub count_spelled : (n : ℕ) → n ≤ 4096 → is_spelled (Const 0) (Const 1) (Offset 2 4) (Offset 1 12) n ≡ true
count_spelled zero most = refl
count_spelled (suc n) most = some_spelled (suc n) (omega arith) most

abbrev image_by : Image → ℕ → ℕ → Image
image_by h turned extensions = record {
  size = h.size;
  orientation = turned;
  intrinsic_size = h.intrinsic_size;
  preview = h.preview;
  animation = h.animation;
  bit_depth = h.bit_depth;
  modular_16bit_buffers = h.modular_16bit_buffers;
  ec_info = h.ec_info;
  xyb_encoded = h.xyb_encoded;
  colour_encoding = h.colour_encoding;
  tone_mapping = h.tone_mapping;
  extensions = extensions;
}

-- what a header that is spelled is
pub record HeaderParts (h : Image) : Type 0 where
  pub size : is_size false h.size ≡ true
  pub least : 1 ≤ h.orientation
  pub most : h.orientation ≤ 8
  pub own : option_map_or (is_size false) h.intrinsic_size true ≡ true
  pub preview : option_map_or (is_size true) h.preview true ≡ true
  pub animation : option_map_or is_animation h.animation true ≡ true
  pub depth : is_depth h.bit_depth ≡ true
  pub few : length h.ec_info ≤ 256
  pub channels : list_all is_channel h.ec_info ≡ true
  pub colour : is_colour h.colour_encoding ≡ true
  pub tone : is_tone h.tone_mapping ≡ true
  pub extensions : h.extensions ≡ 0

pub header_parts : (h : Image) → is_writable h ≡ true → HeaderParts h
header_parts h w =
    let s11 = and_parts (is_size false h.size && nat_le 1 h.orientation && nat_le h.orientation 8 && option_map_or (is_size false) h.intrinsic_size true && option_map_or (is_size true) h.preview true && option_map_or is_animation h.animation true && is_depth h.bit_depth && nat_le (length h.ec_info) 256 && list_all is_channel h.ec_info && is_colour h.colour_encoding && is_tone h.tone_mapping) ((h.extensions == 0)) w in
    let s10 = and_parts (is_size false h.size && nat_le 1 h.orientation && nat_le h.orientation 8 && option_map_or (is_size false) h.intrinsic_size true && option_map_or (is_size true) h.preview true && option_map_or is_animation h.animation true && is_depth h.bit_depth && nat_le (length h.ec_info) 256 && list_all is_channel h.ec_info && is_colour h.colour_encoding) (is_tone h.tone_mapping) s11.0 in
    let s9 = and_parts (is_size false h.size && nat_le 1 h.orientation && nat_le h.orientation 8 && option_map_or (is_size false) h.intrinsic_size true && option_map_or (is_size true) h.preview true && option_map_or is_animation h.animation true && is_depth h.bit_depth && nat_le (length h.ec_info) 256 && list_all is_channel h.ec_info) (is_colour h.colour_encoding) s10.0 in
    let s8 = and_parts (is_size false h.size && nat_le 1 h.orientation && nat_le h.orientation 8 && option_map_or (is_size false) h.intrinsic_size true && option_map_or (is_size true) h.preview true && option_map_or is_animation h.animation true && is_depth h.bit_depth && nat_le (length h.ec_info) 256) (list_all is_channel h.ec_info) s9.0 in
    let s7 = and_parts (is_size false h.size && nat_le 1 h.orientation && nat_le h.orientation 8 && option_map_or (is_size false) h.intrinsic_size true && option_map_or (is_size true) h.preview true && option_map_or is_animation h.animation true && is_depth h.bit_depth) (nat_le (length h.ec_info) 256) s8.0 in
    let s6 = and_parts (is_size false h.size && nat_le 1 h.orientation && nat_le h.orientation 8 && option_map_or (is_size false) h.intrinsic_size true && option_map_or (is_size true) h.preview true && option_map_or is_animation h.animation true) (is_depth h.bit_depth) s7.0 in
    let s5 = and_parts (is_size false h.size && nat_le 1 h.orientation && nat_le h.orientation 8 && option_map_or (is_size false) h.intrinsic_size true && option_map_or (is_size true) h.preview true) (option_map_or is_animation h.animation true) s6.0 in
    let s4 = and_parts (is_size false h.size && nat_le 1 h.orientation && nat_le h.orientation 8 && option_map_or (is_size false) h.intrinsic_size true) (option_map_or (is_size true) h.preview true) s5.0 in
    let s3 = and_parts (is_size false h.size && nat_le 1 h.orientation && nat_le h.orientation 8) (option_map_or (is_size false) h.intrinsic_size true) s4.0 in
    let s2 = and_parts (is_size false h.size && nat_le 1 h.orientation) (nat_le h.orientation 8) s3.0 in
    let s1 = and_parts (is_size false h.size) (nat_le 1 h.orientation) s2.0 in
    record {
      size = s1.0;
      least = leb-true 1 h.orientation s1.1;
      most = leb-true h.orientation 8 s2.1;
      own = s3.1;
      preview = s4.1;
      animation = s5.1;
      depth = s6.1;
      few = leb-true (length h.ec_info) 256 s7.1;
      channels = s8.1;
      colour = s9.1;
      tone = s10.1;
      extensions = eqb-true h.extensions 0 s11.1;
    }

pub header_spelled : (h : Image) (told more : Bool) (b0 b1 b2 b3 b4 b5 b6 b7 b8 b9 b10 b11 b12 b13 b14 b15 b16 : List ℕ) → HeaderParts h → Spells b0 b1 (number 16) 0x0AFF →
    Spells b1 b2 (size false) h.size →
    Spells b2 b3 (bundle_follows true) told →
    Spells b3 b4 (when told flag false) more →
    Spells b4 b5 (when more (number 3) 0) (h.orientation - 1) →
    Spells b5 b6 (when more (optional (size false)) None) h.intrinsic_size →
    Spells b6 b7 (when more (optional (size true)) None) h.preview →
    Spells b7 b8 (when more (optional animation) None) h.animation →
    Spells b8 b9 (when told bit_depth (record { bits_per_sample = 8; exp_bits = 0 })) h.bit_depth →
    Spells b9 b10 (when told flag true) h.modular_16bit_buffers →
    Spells b10 b11 (when told extra_channels []) h.ec_info →
    Spells b11 b12 (when told flag true) h.xyb_encoded →
    Spells b12 b13 (colour_encoding told) h.colour_encoding →
    Spells b13 b14 (tone_mapping more) h.tone_mapping →
    Spells b14 b15 (when told extensions 0) 0 →
    Spells b15 b16 (flag) true → Writes b0 b16 image_header.read h
unfolding image_header
header_spelled h told more b0 b1 b2 b3 b4 b5 b6 b7 b8 b9 b10 b11 b12 b13 b14 b15 b16 parts u0 u1 u2 u3 u4 u5 u6 u7 u8 u9 u10 u11 u12 u13 u14 u15 =
    let sig = meant (codes "signature") (λ v. v == 0x0AFF) (number 16) 0x0AFF b0 b1 refl u0 in
    let last = matrices_usual h.xyb_encoded b15 b16 u15 in
    let turned : h.orientation ≡ h.orientation - 1 + 1 = (let l = parts.least in omega (arith, l)) in
    let e : h ≡ image_by h (h.orientation - 1 + 1) 0 = ap (λ (n : ℕ). image_by h n h.extensions) turned ∙ ap (λ (n : ℕ). image_by h (h.orientation - 1 + 1) n) parts.extensions in
    spelled_reads image_header h b0 b16 exact-image_header (becomes (after sig (after u1 (after u2 (after u3 (after u4 (after u5 (after u6 (after u7 (after u8 (after u9 (after u10 (after u11 (after u12 (after u13 (after u14 last))))))))))))))) (λ bytes p q t. (0x0AFF, t.0, t.1, (h.size, t.2.0, t.2.1, (told, t.2.2.0, t.2.2.1, (more, t.2.2.2.0, t.2.2.2.1, (h.orientation - 1, t.2.2.2.2.0, t.2.2.2.2.1, (h.intrinsic_size, t.2.2.2.2.2.0, t.2.2.2.2.2.1, (h.preview, t.2.2.2.2.2.2.0, t.2.2.2.2.2.2.1, (h.animation, t.2.2.2.2.2.2.2.0, t.2.2.2.2.2.2.2.1, (h.bit_depth, t.2.2.2.2.2.2.2.2.0, t.2.2.2.2.2.2.2.2.1, (h.modular_16bit_buffers, t.2.2.2.2.2.2.2.2.2.0, t.2.2.2.2.2.2.2.2.2.1, (h.ec_info, t.2.2.2.2.2.2.2.2.2.2.0, t.2.2.2.2.2.2.2.2.2.2.1, (h.xyb_encoded, t.2.2.2.2.2.2.2.2.2.2.2.0, t.2.2.2.2.2.2.2.2.2.2.2.1, (h.colour_encoding, t.2.2.2.2.2.2.2.2.2.2.2.2.0, t.2.2.2.2.2.2.2.2.2.2.2.2.1, (h.tone_mapping, t.2.2.2.2.2.2.2.2.2.2.2.2.2.0, t.2.2.2.2.2.2.2.2.2.2.2.2.2.1, (0, t.2.2.2.2.2.2.2.2.2.2.2.2.2.2.0, t.2.2.2.2.2.2.2.2.2.2.2.2.2.2.1, (tt, q, t.2.2.2.2.2.2.2.2.2.2.2.2.2.2.2, (e, refl)))))))))))))))))))

or_parts : (a b : Bool) → (a || b) ≡ false → (a ≡ false) × (b ≡ false)
or_parts true b h = absurd (false≢true (sym h))
or_parts false b h = (refl, h)

not_false : (b : Bool) → not b ≡ false → b ≡ true
not_false true h = refl
not_false false h = absurd (false≢true (sym h))

none_in : {X : Type 0} (xs : List X) → (length xs == 0) ≡ true → xs ≡ []
none_in [] h = refl
none_in (x ∷ xs) h = let e = eqb-true (length (x ∷ xs)) 0 h in absurd (omega (arith, e))

-- what a header of which nothing is told is
pub record Untold (h : Image) : Type 0 where
  pub more : has_more h ≡ false
  pub depth : is_usual_depth h.bit_depth ≡ true
  pub narrow : h.modular_16bit_buffers ≡ true
  pub channels : h.ec_info ≡ []
  pub xyb : h.xyb_encoded ≡ true
  pub colour : is_usual_colour h.colour_encoding ≡ true

pub untold_parts : (h : Image) → is_told h ≡ false → Untold h
untold_parts h w =
    let s5 = or_parts (has_more h || not (is_usual_depth h.bit_depth) || not h.modular_16bit_buffers || not (length h.ec_info == 0) || not h.xyb_encoded) (not (is_usual_colour h.colour_encoding)) w in
    let s4 = or_parts (has_more h || not (is_usual_depth h.bit_depth) || not h.modular_16bit_buffers || not (length h.ec_info == 0)) (not h.xyb_encoded) s5.0 in
    let s3 = or_parts (has_more h || not (is_usual_depth h.bit_depth) || not h.modular_16bit_buffers) (not (length h.ec_info == 0)) s4.0 in
    let s2 = or_parts (has_more h || not (is_usual_depth h.bit_depth)) (not h.modular_16bit_buffers) s3.0 in
    let s1 = or_parts (has_more h) (not (is_usual_depth h.bit_depth)) s2.0 in
    record {
      more = s1.0;
      depth = not_false (is_usual_depth h.bit_depth) s1.1;
      narrow = not_false h.modular_16bit_buffers s2.1;
      channels = none_in h.ec_info (not_false (length h.ec_info == 0) s3.1);
      xyb = not_false h.xyb_encoded s4.1;
      colour = not_false (is_usual_colour h.colour_encoding) s5.1;
    }

-- what a header is that says nothing of how it is shown
pub record NoMore (h : Image) : Type 0 where
  pub turned : h.orientation ≡ 1
  pub own : h.intrinsic_size ≡ None
  pub preview : h.preview ≡ None
  pub animation : h.animation ≡ None
  pub tone : is_usual_tone h.tone_mapping ≡ true

pub no_more : (h : Image) → has_more h ≡ false → NoMore h
no_more h w =
    let s4 = or_parts (not (h.orientation == 1) || is_some h.intrinsic_size || is_some h.preview || is_some h.animation) (not (is_usual_tone h.tone_mapping)) w in
    let s3 = or_parts (not (h.orientation == 1) || is_some h.intrinsic_size || is_some h.preview) (is_some h.animation) s4.0 in
    let s2 = or_parts (not (h.orientation == 1) || is_some h.intrinsic_size) (is_some h.preview) s3.0 in
    let s1 = or_parts (not (h.orientation == 1)) (is_some h.intrinsic_size) s2.0 in
    record {
      turned = eqb-true h.orientation 1 (not_false (h.orientation == 1) s1.0);
      own = none_is h.intrinsic_size s1.1;
      preview = none_is h.preview s2.1;
      animation = none_is h.animation s3.1;
      tone = not_false (is_usual_tone h.tone_mapping) s4.1;
    }

-- an animation
pub animation_spelled : (x : Animation) (b0 b1 b2 b3 b4 : List ℕ) → Spells b0 b1 (u32 (Const 100) (Const 1000) (Offset 1 10) (Offset 1 30)) x.tps_numerator →
    Spells b1 b2 (u32 (Const 1) (Const 1001) (Offset 1 8) (Offset 1 10)) x.tps_denominator → Spells b2 b3 (u32 (Const 0) (Offset 0 3) (Offset 0 16) (Offset 0 32)) x.num_loops →
    Spells b3 b4 flag x.have_timecodes → Spells b0 b4 animation x
unfolding animation
animation_spelled x b0 b1 b2 b3 b4 u v w t =
    becomes (after u (after v (after w t))) (λ bytes p q k. (x.tps_numerator, k.0, k.1, (x.tps_denominator, k.2.0, k.2.1, (x.num_loops, k.2.2.0, k.2.2.1, (x.have_timecodes, q, k.2.2.2, (refl, refl))))))
