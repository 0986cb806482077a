-- Spellings of depths and of extra channels.
use Rattle.std.proofs.Common.{◌≡◌, ◌≢◌, ℕ, ◌+◌, ◌-◌, ◌<◌, ◌≤◌, List, length, take, get_or, Bool, true, false, Some, refl, sym, ap, ◌∙◌, subst, arith}
use Rattle.std.specs.Prelude.{not, ◌==◌, ◌&&◌, ◌||◌, nat_lt, nat_le, codes}
use Rattle.std.specs.List.{list_all}
use Rattle.std.proofs.lemmas.List.{take_all, take_more}
use Rattle.std.proofs.lemmas.List.Folds.{list_all_at}
use Rattle.std.proofs.lemmas.Bool.{and_parts, eq-eqb, eqb-true, leb-true, false≢true}
use Rattle.std.proofs.lemmas.Bool.Decides.{nat_tests}
use Rattle.jxlm_bits.specs.Grammar.{number, flag, u32, part, repeated}
use Rattle.jxlm_bits.specs.declared.bits.U32Spec.TheVariants.{Const, Offset}
use Rattle.jxlm_bit_writer.specs.Fields.{is_spelled}
use Rattle.jxlm_bit_writer.specs.Writes.{Spells}
use Rattle.jxlm_bit_writer.proofs.WriteLaws.{after, becomes, absent, one_more}
use Rattle.jxl_image_header.specs.Fields.{when, enum_number, number_where, ignored_bytes, name}
use Rattle.jxl_image_header.specs.Channels.{bit_depth, extra_channel, fits_float, kind_of, is_alpha, is_spot_colour, is_cfa}
use Rattle.jxl_image_header.specs.declared.channel.BitDepth.{BitDepth}
use Rattle.jxl_image_header.specs.declared.channel.ExtraChannel.{ExtraChannel}
use Rattle.jxl_image_header.specs.declared.channel.ExtraChannelKind.{ExtraChannelKind}
use Rattle.jxl_image_header.specs.declared.channel.ExtraChannelKind.TheVariants.{Alpha, Depth, SpotColour, SelectionMask, Black, Cfa, Thermal, Unknown, Optional}
use Rattle.jxl_image_header_write.specs.Writable.{is_depth, is_usual_depth, is_channel, is_usual_channel}
use Rattle.jxl_image_header_write.proofs.Spellings.{meant, variant_if}

abbrev pub depth_by : ℕ → ℕ → BitDepth
depth_by bits exponent = record { bits_per_sample = bits; exp_bits = exponent }

-- what a depth of whole numbers is, and of floats
pub whole_parts : (d : BitDepth) → d.exp_bits ≡ 0 → is_depth d ≡ true → (is_spelled (Const 8) (Const 10) (Const 12) (Offset 1 6) d.bits_per_sample ≡ true) × (nat_lt d.bits_per_sample 32 ≡ true)
whole_parts d e h =
    let t : (d.exp_bits == 0) ≡ true = eq-eqb d.exp_bits 0 e in
    and_parts (is_spelled (Const 8) (Const 10) (Const 12) (Offset 1 6) d.bits_per_sample) (nat_lt d.bits_per_sample 32) (rw t at h)

pub float_parts : (d : BitDepth) → d.exp_bits ≢ 0 → is_depth d ≡ true →
    (is_spelled (Const 32) (Const 16) (Const 24) (Offset 1 6) d.bits_per_sample ≡ true) × (fits_float d.bits_per_sample d.exp_bits ≡ true)
float_parts d e h =
    let t : (d.exp_bits == 0) ≡ false = grind (arith, nat_tests) in
    and_parts (is_spelled (Const 32) (Const 16) (Const 24) (Offset 1 6) d.bits_per_sample) (fits_float d.bits_per_sample d.exp_bits) (rw t at h)

-- an exponent has 2 to 8 bits
pub exponent_small : (bits exponent : ℕ) → fits_float bits exponent ≡ true → (1 < exponent) × (exponent < 9)
exponent_small bits exponent h =
    let s3 = and_parts (nat_le 2 exponent && nat_le exponent 8 && nat_le (exponent + 3) bits) (nat_le bits (exponent + 24)) h in
    let s2 = and_parts (nat_le 2 exponent && nat_le exponent 8) (nat_le (exponent + 3) bits) s3.0 in
    let s1 = and_parts (nat_le 2 exponent) (nat_le exponent 8) s2.0 in
    let least = leb-true 2 exponent s1.0 in
    let most = leb-true exponent 8 s1.1 in
    (omega (arith, least), omega (arith, most))

pub whole_depth : (d : BitDepth) (a b c : List ℕ) → d.exp_bits ≡ 0 → nat_lt d.bits_per_sample 32 ≡ true → Spells a b flag false →
    Spells b c (u32 (Const 8) (Const 10) (Const 12) (Offset 1 6)) d.bits_per_sample → Spells a c bit_depth d
unfolding bit_depth
whole_depth d a b c e small u v =
    let w = meant (codes "bits_per_sample") (λ n. nat_lt n 32) (u32 (Const 8) (Const 10) (Const 12) (Offset 1 6)) d.bits_per_sample b c small v in
    becomes (after u w) (λ bytes p q k. (false, k.0, k.1, (d.bits_per_sample, q, k.2, (0, q, (refl, refl), (ap (depth_by d.bits_per_sample) e, refl)))))

exponent_spelled : (bits exponent : ℕ) (a b : List ℕ) → fits_float bits exponent ≡ true → Spells a b (number 4) (exponent - 1) → Spells a b (number_where (codes "exponent_bits") (fits_float bits) (part (Offset 1 4))) exponent
exponent_spelled bits exponent a b fits u =
    let small = exponent_small bits exponent fits in
    let back : exponent ≡ 1 + (exponent - 1) = omega (arith, small) in
    meant (codes "exponent_bits") (fits_float bits) (part (Offset 1 4)) exponent a b fits (becomes u (λ bytes p q s. (exponent - 1, q, s, (back, refl))))

pub float_depth : (d : BitDepth) (a b c e : List ℕ) → fits_float d.bits_per_sample d.exp_bits ≡ true → Spells a b flag true →
    Spells b c (u32 (Const 32) (Const 16) (Const 24) (Offset 1 6)) d.bits_per_sample → Spells c e (number 4) (d.exp_bits - 1) → Spells a e bit_depth d
unfolding bit_depth
float_depth d a b c e fits u v w =
    becomes (after u (after v (exponent_spelled d.bits_per_sample d.exp_bits c e fits w))) (λ bytes p q k. (true, k.0, k.1, (d.bits_per_sample, k.2.0, k.2.1, (d.exp_bits, q, k.2.2, (refl, refl)))))

-- the depth by default
pub usual_depth_is : (d : BitDepth) → is_usual_depth d ≡ true → d ≡ depth_by 8 0
usual_depth_is d h =
    let both = and_parts (d.bits_per_sample == 8) (d.exp_bits == 0) h in
    ap (λ (n : ℕ). depth_by n d.exp_bits) (eqb-true d.bits_per_sample 8 both.0) ∙ ap (depth_by 8) (eqb-true d.exp_bits 0 both.1)

abbrev pub channel_by : ExtraChannelKind → BitDepth → ℕ → ℕ → Bool → ExtraChannel
channel_by kind depth shift length associated = record { kind = kind; bit_depth = depth; dim_shift = shift; name_len = length; alpha_associated = associated }

alpha_is : (kind : ExtraChannelKind) → is_alpha kind ≡ true → kind ≡ Alpha
alpha_is Alpha h = refl
alpha_is Depth h = absurd (false≢true h)
alpha_is SpotColour h = absurd (false≢true h)
alpha_is SelectionMask h = absurd (false≢true h)
alpha_is Black h = absurd (false≢true h)
alpha_is Cfa h = absurd (false≢true h)
alpha_is Thermal h = absurd (false≢true h)
alpha_is Unknown h = absurd (false≢true h)
alpha_is Optional h = absurd (false≢true h)

not_true : (b : Bool) → not b ≡ true → b ≡ false
not_true true h = absurd (false≢true h)
not_true false h = refl

-- the channel by default
usual_channel_is : (c : ExtraChannel) → is_usual_channel c ≡ true → c ≡ channel_by Alpha (depth_by 8 0) 0 0 false
usual_channel_is c h =
    let s4 = and_parts (is_alpha c.kind && is_usual_depth c.bit_depth && (c.dim_shift == 0) && (c.name_len == 0)) (not c.alpha_associated) h in
    let s3 = and_parts (is_alpha c.kind && is_usual_depth c.bit_depth && (c.dim_shift == 0)) ((c.name_len == 0)) s4.0 in
    let s2 = and_parts (is_alpha c.kind && is_usual_depth c.bit_depth) ((c.dim_shift == 0)) s3.0 in
    let s1 = and_parts (is_alpha c.kind) (is_usual_depth c.bit_depth) s2.0 in
    ap (λ (k : ExtraChannelKind). channel_by k c.bit_depth c.dim_shift c.name_len c.alpha_associated) (alpha_is c.kind (s1.0))
    ∙ ap (λ (d : BitDepth). channel_by Alpha d c.dim_shift c.name_len c.alpha_associated) (usual_depth_is c.bit_depth s1.1)
    ∙ ap (λ (n : ℕ). channel_by Alpha (depth_by 8 0) n c.name_len c.alpha_associated) (eqb-true c.dim_shift 0 s2.1)
    ∙ ap (λ (n : ℕ). channel_by Alpha (depth_by 8 0) 0 n c.alpha_associated) (eqb-true c.name_len 0 s3.1)
    ∙ ap (channel_by Alpha (depth_by 8 0) 0 0) (not_true c.alpha_associated s4.1)

pub usual_channel : (c : ExtraChannel) (a b : List ℕ) → is_usual_channel c ≡ true → Spells a b flag true → Spells a b extra_channel c
unfolding extra_channel
usual_channel c a b h u =
    let e = usual_channel_is c h in
    becomes u (λ bytes p q s.
    (false, q, (true, q, s, (refl, refl)), (Alpha, q, (refl, refl), (depth_by 8 0, q, (refl, refl), (0, q, (refl, refl), (0, q, (refl, refl), (false, q, (refl, refl), (tt, q, (refl, refl), (0, q, (refl, refl), (e, refl))))))))))

-- what a channel that is spelled is
pub record ChannelParts (c : ExtraChannel) : Type 0 where
  pub spot : is_spot_colour c.kind ≡ false
  pub filter : is_cfa c.kind ≡ false
  pub depth : is_depth c.bit_depth ≡ true
  pub shift : is_spelled (Const 0) (Const 3) (Const 4) (Offset 1 3) c.dim_shift ≡ true
  pub nameless : c.name_len ≡ 0
  pub associated : is_alpha c.kind ≡ false → c.alpha_associated ≡ false

or_else : (a b : Bool) → (a || not b) ≡ true → a ≡ false → b ≡ false
or_else true b h e = absurd (false≢true (sym e))
or_else false b h e = not_true b h

pub channel_parts : (c : ExtraChannel) → is_channel c ≡ true → ChannelParts c
channel_parts c h =
    let s5 = and_parts (not (is_spot_colour c.kind) && not (is_cfa c.kind) && is_depth c.bit_depth && is_spelled (Const 0) (Const 3) (Const 4) (Offset 1 3) c.dim_shift && (c.name_len == 0)) ((is_alpha c.kind || not c.alpha_associated)) h in
    let s4 = and_parts (not (is_spot_colour c.kind) && not (is_cfa c.kind) && is_depth c.bit_depth && is_spelled (Const 0) (Const 3) (Const 4) (Offset 1 3) c.dim_shift) ((c.name_len == 0)) s5.0 in
    let s3 = and_parts (not (is_spot_colour c.kind) && not (is_cfa c.kind) && is_depth c.bit_depth) (is_spelled (Const 0) (Const 3) (Const 4) (Offset 1 3) c.dim_shift) s4.0 in
    let s2 = and_parts (not (is_spot_colour c.kind) && not (is_cfa c.kind)) (is_depth c.bit_depth) s3.0 in
    let s1 = and_parts (not (is_spot_colour c.kind)) (not (is_cfa c.kind)) s2.0 in
    record {
      spot = not_true (is_spot_colour c.kind) s1.0;
      filter = not_true (is_cfa c.kind) s1.1;
      depth = s2.1;
      shift = s3.1;
      nameless = eqb-true c.name_len 0 s4.1;
      associated = or_else (is_alpha c.kind) c.alpha_associated s5.1;
    }

pub told_channel : (c : ExtraChannel) (v : ℕ) (b0 b1 b2 b3 b4 b5 b6 : List ℕ) → ChannelParts c → kind_of v ≡ Some c.kind → Spells b0 b1 flag false → Spells b1 b2 (when true enum_number 0) v →
    Spells b2 b3 bit_depth c.bit_depth → Spells b3 b4 (u32 (Const 0) (Const 3) (Const 4) (Offset 1 3)) c.dim_shift → Spells b4 b5 name 0 →
    Spells b5 b6 (when (is_alpha c.kind) flag false) c.alpha_associated → Spells b0 b6 extra_channel c
unfolding extra_channel
told_channel c v b0 b1 b2 b3 b4 b5 b6 parts means u k d s n p =
    let kind = variant_if true (codes "ExtraChannelType") kind_of v 0 c.kind Alpha b1 b2 means (λ e. absurd (false≢true (sym e))) k in
    let spot = absent (is_spot_colour c.kind) (ignored_bytes 8) tt tt b6 parts.spot refl in
    let filter = absent (is_cfa c.kind) (u32 (Const 1) (Offset 0 2) (Offset 3 4) (Offset 19 8)) 0 0 b6 parts.filter refl in
    let e : c ≡ channel_by c.kind c.bit_depth c.dim_shift 0 c.alpha_associated = ap (λ (m : ℕ). channel_by c.kind c.bit_depth c.dim_shift m c.alpha_associated) parts.nameless in
    becomes (after u (after kind (after d (after s (after n (after p (after spot filter))))))) (λ bytes p q t. (
      true,
      t.0,
      (false, t.0, t.1, (refl, refl)),
      (
        c.kind,
        t.2.0,
        t.2.1,
        (
          c.bit_depth,
          t.2.2.0,
          t.2.2.1,
          (
            c.dim_shift,
            t.2.2.2.0,
            t.2.2.2.1,
            (
              0,
              t.2.2.2.2.0,
              t.2.2.2.2.1,
              (c.alpha_associated, t.2.2.2.2.2.0, t.2.2.2.2.2.1, (tt, t.2.2.2.2.2.2.0, t.2.2.2.2.2.2.1, (0, q, t.2.2.2.2.2.2.2, (e, refl)))),
            ),
          ),
        ),
      ),
    ))

-- each of the channels is one that is spelled
pub channel_at : (cs : List ExtraChannel) (i : ℕ) (d : ExtraChannel) → list_all is_channel cs ≡ true → i < length cs → is_channel (get_or cs i d) ≡ true
channel_at cs i d all lt = by_test (is_channel (get_or cs i d)) refl
  where
    by_test : (b : Bool) → is_channel (get_or cs i d) ≡ b → is_channel (get_or cs i d) ≡ true
    by_test true e = e
    by_test false e = absurd (false≢true (sym (list_all_at is_channel cs i d lt e) ∙ all))

-- one channel more
pub channels_next : (cs : List ExtraChannel) (i : ℕ) (d : ExtraChannel) (a b c : List ℕ) → i < length cs → Spells a b (repeated i extra_channel) (take i cs) → Spells b c extra_channel (get_or cs i d) →
    Spells a c (repeated (i + 1) extra_channel) (take (i + 1) cs)
channels_next cs i d a b c lt u v = rw (take_more cs i d lt) (one_more i extra_channel (take i cs) (get_or cs i d) a b c u v)

-- all channels
pub channels_all : (cs : List ExtraChannel) (i : ℕ) (a b : List ℕ) → length cs ≤ i → i ≤ length cs → Spells a b (repeated i extra_channel) (take i cs) → Spells a b (repeated (length cs) extra_channel) cs
channels_all cs i a b least most u =
    let e : i ≡ length cs = omega (arith, least, most) in
    subst (λ (xs : List ExtraChannel). Spells a b (repeated (length cs) extra_channel) xs) (take_all (length cs) cs (omega arith)) (subst (λ (n : ℕ). Spells a b (repeated n extra_channel) (take n cs)) e u)
