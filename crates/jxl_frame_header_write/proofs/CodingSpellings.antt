-- Spellings of how a frame is coded, and of its passes.
use Rattle.std.proofs.Common.{◌≡◌, ℕ, ◌+◌, ◌-◌, ◌≤◌, List, [], ◌∷◌, length, Bool, true, false, refl, sym, ap, ◌∙◌, subst, arith}
use Rattle.std.specs.Prelude.{not, ◌==◌, ◌&&◌, nat_lt, nat_le, if◌then◌else◌, codes}
use Rattle.std.specs.List.{list_all}
use Rattle.std.proofs.lemmas.Bool.{and_parts, eqb-true, leb-true, false≢true}
use Rattle.jxlm_bits.specs.Grammar.{number, flag, u32, repeated}
use Rattle.jxlm_bits.specs.declared.bits.U32Spec.TheVariants.{Const, Offset}
use Rattle.jxlm_bit_writer.specs.Fields.{is_spelled}
use Rattle.jxlm_bit_writer.specs.Writes.{Spells}
use Rattle.jxlm_bit_writer.proofs.WriteLaws.{after, becomes}
use Rattle.jxl_image_header.specs.Fields.{long, when, number_where}
use Rattle.jxl_image_header_write.proofs.Spellings.{meant}
use Rattle.jxl_frame_header.specs.Codings.{factor, flags_of, coding, is_modular}
use Rattle.jxl_frame_header.specs.Passes.{Passes, passes}
use Rattle.jxl_frame_header.specs.declared.coding.FrameCoding.{FrameCoding}
use Rattle.jxl_frame_header.specs.declared.coding.FrameFlags.{FrameFlags}
use Rattle.jxl_frame_header.specs.declared.coding.FrameType.{FrameType}
use Rattle.jxl_frame_header.specs.declared.coding.FrameType.TheVariants.{Regular, LfFrame, ReferenceOnly, SkipProgressive}
use Rattle.jxl_frame_header.specs.declared.coding.Encoding.{Encoding}
use Rattle.jxl_frame_header.specs.declared.coding.Encoding.TheVariants.{VarDct, Modular}
use Rattle.jxl_frame_header_write.specs.Inner.Numbers.{IsTypeNumber, flags_number}
use Rattle.jxl_frame_header_write.specs.Writable.{is_factor, is_coding, are_factors, is_falling, is_rising, are_passes}
use Rattle.jxl_frame_header_write.proofs.Lists.{falling_spelled, rising_spelled}

-- a U64 of no bits, of 4 bits and of 8 bits
pub long_none : (a b : List ℕ) → Spells a b (number 2) 0 → Spells a b long 0
unfolding long
long_none a b u = becomes u (λ bytes p q s. (0, q, s, (refl, refl)))

pub long_short : (v : ℕ) (a b c : List ℕ) → 1 ≤ v → Spells a b (number 2) 1 → Spells b c (number 4) (v - 1) → Spells a c long v
unfolding long
long_short v a b c least u w =
    let e : v ≡ 1 + (v - 1) = omega (arith, least) in
    becomes (after u w) (λ bytes p q s. (1, s.0, s.1, (v - 1, q, s.2, (e, refl))))

pub long_longer : (v : ℕ) (a b c : List ℕ) → 17 ≤ v → Spells a b (number 2) 2 → Spells b c (number 8) (v - 17) → Spells a c long v
unfolding long
long_longer v a b c least u w =
    let e : v ≡ 17 + (v - 17) = omega (arith, least) in
    becomes (after u w) (λ bytes p q s. (2, s.0, s.1, (v - 17, q, s.2, (e, refl))))

-- factors
pub factor_spelled : (t : Bool) (v : ℕ) (a b : List ℕ) → Spells a b (when t (u32 (Const 1) (Const 2) (Const 4) (Const 8)) 1) v → Spells a b (when t factor 1) v
unfolding factor
factor_spelled t v a b u = u

pub factors_spelled : (t : Bool) (extra : ℕ) (fs : List ℕ) (a b : List ℕ) → t ≡ true → are_factors t extra fs ≡ true →
    Spells a b (repeated (length fs) (u32 (Const 1) (Const 2) (Const 4) (Const 8))) fs → Spells a b (when t (repeated extra factor) []) fs
unfolding factor
factors_spelled true extra fs a b e w u =
    let s = and_parts (length fs == extra) (list_all is_factor fs) w in
    subst (λ (n : ℕ). Spells a b (repeated n (u32 (Const 1) (Const 2) (Const 4) (Const 8))) fs) (eqb-true (length fs) extra s.0) u
factors_spelled false extra fs a b e w u = absurd (false≢true e)

pub all_factors : (t : Bool) (extra : ℕ) (fs : List ℕ) → t ≡ true → are_factors t extra fs ≡ true → list_all is_factor fs ≡ true
all_factors true extra fs e w = (and_parts (length fs == extra) (list_all is_factor fs) w).1
all_factors false extra fs e w = absurd (false≢true e)

pub no_factors : (t : Bool) (extra : ℕ) (fs : List ℕ) → t ≡ false → are_factors t extra fs ≡ true → (length fs == 0) ≡ true
no_factors true extra fs e w = absurd (false≢true (sym e))
no_factors false extra fs e w = w

pub none_in : {X : Type 0} (xs : List X) → (length xs == 0) ≡ true → xs ≡ []
none_in [] h = refl
none_in (x ∷ xs) h = let e = eqb-true (length (x ∷ xs)) 0 h in absurd (omega (arith, e))

pub not_true : (b : Bool) → not b ≡ true → b ≡ false
not_true true h = absurd (false≢true h)
not_true false h = refl

-- what the writer asks of a coding
pub record CodingParts (c : FrameCoding) : Type 0 where
  pub modular : c.encoding ≡ Modular
  pub colours : c.do_ycbcr ≡ false
  pub factor : not c.flags.use_lf_frame ≡ true → is_factor c.upsampling ≡ true
  pub whole : not c.flags.use_lf_frame ≡ false → c.upsampling ≡ 1

modular_is : (e : Encoding) → is_modular e ≡ true → e ≡ Modular
modular_is VarDct h = absurd (false≢true h)
modular_is Modular h = refl

by_factor : (t : Bool) (v : ℕ) → (if t then v == 1 else is_factor v) ≡ true → (not t ≡ true → is_factor v ≡ true) × (not t ≡ false → v ≡ 1)
by_factor true v h = (λ e. absurd (false≢true e), λ e. eqb-true v 1 h)
by_factor false v h = (λ e. h, λ e. absurd (false≢true (sym e)))

pub coding_parts : (c : FrameCoding) → is_coding c ≡ true → CodingParts c
coding_parts c w =
    let s2 = and_parts (is_modular c.encoding && not c.do_ycbcr) (if c.flags.use_lf_frame then c.upsampling == 1 else is_factor c.upsampling) w in
    let s1 = and_parts (is_modular c.encoding) (not c.do_ycbcr) s2.0 in
    let f = by_factor c.flags.use_lf_frame c.upsampling s2.1 in
    record { modular = modular_is c.encoding s1.0; colours = not_true c.do_ycbcr s1.1; factor = f.0; whole = f.1 }

abbrev coding_by : FrameCoding → FrameType → Encoding → Bool → FrameCoding
coding_by c frame_type encoding ycbcr = record { frame_type = frame_type; encoding = encoding; flags = c.flags; do_ycbcr = ycbcr; upsampling = c.upsampling }

pub coding_spelled : (xyb : Bool) (c : FrameCoding) (n v : ℕ) (b0 b1 b2 b3 b4 b5 : List ℕ) → CodingParts c → IsTypeNumber n c.frame_type → flags_of v ≡ c.flags → Spells b0 b1 (number 2) n →
    Spells b1 b2 flag true → Spells b2 b3 long v → Spells b3 b4 (when (not xyb) flag false) false → Spells b4 b5 (when (not c.flags.use_lf_frame) factor 1) c.upsampling → Spells b0 b5 (coding true xyb) c
unfolding coding
coding_spelled xyb c n v b0 b1 b2 b3 b4 b5 parts kind flags t m l y f =
    let k : FrameType = if n == 0 then Regular else if n == 1 then LfFrame else if n == 2 then ReferenceOnly else SkipProgressive in
    let e : c ≡ coding_by c k Modular false = ap (λ (x : FrameType). coding_by c x c.encoding c.do_ycbcr) (sym kind.meant) ∙ ap (λ (x : Encoding). coding_by c k x c.do_ycbcr) parts.modular
    ∙ ap (λ (x : Bool). coding_by c k Modular x) parts.colours in
    becomes (after t (after m (after l (after y f)))) (λ bytes p q s. (n, s.0, s.1, (true, s.2.0, s.2.1, (c.flags, s.2.2.0, (v, s.2.2.0, s.2.2.1, (sym flags, refl)), (false, s.2.2.2.0, s.2.2.2.1, (0, s.2.2.2.0, (refl, refl), (c.upsampling, q, s.2.2.2.2, (e, refl))))))))

-- the number of the flags has them
flags_meant : (a b c d e : Bool) → flags_of (flags_number (record { noise = a; patches = b; splines = c; use_lf_frame = d; skip_adaptive_lf_smoothing = e })) ≡ record { noise = a; patches = b; splines = c; use_lf_frame = d; skip_adaptive_lf_smoothing = e }
flags_meant true true true true true = refl
flags_meant true true true true false = refl
flags_meant true true true false true = refl
flags_meant true true true false false = refl
flags_meant true true false true true = refl
flags_meant true true false true false = refl
flags_meant true true false false true = refl
flags_meant true true false false false = refl
flags_meant true false true true true = refl
flags_meant true false true true false = refl
flags_meant true false true false true = refl
flags_meant true false true false false = refl
flags_meant true false false true true = refl
flags_meant true false false true false = refl
flags_meant true false false false true = refl
flags_meant true false false false false = refl
flags_meant false true true true true = refl
flags_meant false true true true false = refl
flags_meant false true true false true = refl
flags_meant false true true false false = refl
flags_meant false true false true true = refl
flags_meant false true false true false = refl
flags_meant false true false false true = refl
flags_meant false true false false false = refl
flags_meant false false true true true = refl
flags_meant false false true true false = refl
flags_meant false false true false true = refl
flags_meant false false true false false = refl
flags_meant false false false true true = refl
flags_meant false false false true false = refl
flags_meant false false false false true = refl
flags_meant false false false false false = refl

pub flags_are : (f : FrameFlags) → flags_of (flags_number f) ≡ f
flags_are f = flags_meant f.noise f.patches f.splines f.use_lf_frame f.skip_adaptive_lf_smoothing

-- what the writer asks of passes
pub record PassesParts (told : Bool) (x : Passes) : Type 0 where
  pub count : told ≡ true → is_spelled (Const 1) (Const 2) (Const 3) (Offset 4 3) x.num_passes ≡ true
  pub one : told ≡ false → x.num_passes ≡ 1
  pub shifts : length x.shift ≡ x.num_passes - 1
  pub small : list_all (is_spelled (Const 0) (Const 1) (Const 2) (Const 3)) x.shift ≡ true
  pub few : not (x.num_passes == 1) ≡ true → (is_spelled (Const 0) (Const 1) (Const 2) (Offset 3 1) (length x.downsample) ≡ true) × (nat_le (length x.downsample) x.num_passes ≡ true)
  pub none : not (x.num_passes == 1) ≡ false → length x.downsample ≡ 0
  pub factors : list_all is_factor x.downsample ≡ true
  pub falling : is_falling x.downsample ≡ true
  pub ends : length x.last_pass ≡ length x.downsample
  pub lasts : list_all (λ v. is_spelled (Const 0) (Const 1) (Const 2) (Offset 0 3) v) x.last_pass ≡ true
  pub below : list_all (λ v. nat_lt v x.num_passes) x.last_pass ≡ true
  pub rising : is_rising x.last_pass ≡ true

by_count : (t s : Bool) (n : ℕ) → (if t then s else n == 1) ≡ true → (t ≡ true → s ≡ true) × (t ≡ false → n ≡ 1)
by_count true s n h = (λ e. h, λ e. absurd (false≢true (sym e)))
by_count false s n h = (λ e. absurd (false≢true e), λ e. eqb-true n 1 h)

by_resolutions : (one : Bool) (n : ℕ) (a b : Bool) → (if one then n == 0 else a && b) ≡ true → (not one ≡ true → (a ≡ true) × (b ≡ true)) × (not one ≡ false → n ≡ 0)
by_resolutions true n a b h = (λ e. absurd (false≢true e), λ e. eqb-true n 0 h)
by_resolutions false n a b h = (λ e. and_parts a b h, λ e. absurd (false≢true (sym e)))

pub passes_parts : (told : Bool) (x : Passes) → are_passes told x ≡ true → PassesParts told x
passes_parts told x w =
    let c0 : Bool = if told then is_spelled (Const 1) (Const 2) (Const 3) (Offset 4 3) x.num_passes else x.num_passes == 1 in
    let c1 : Bool = length x.shift == x.num_passes - 1 in
    let c2 : Bool = list_all (is_spelled (Const 0) (Const 1) (Const 2) (Const 3)) x.shift in
    let c3 : Bool = if x.num_passes == 1 then length x.downsample == 0 else is_spelled (Const 0) (Const 1) (Const 2) (Offset 3 1) (length x.downsample) && nat_le (length x.downsample) x.num_passes in
    let c4 : Bool = list_all is_factor x.downsample in
    let c5 : Bool = is_falling x.downsample in
    let c6 : Bool = length x.last_pass == length x.downsample in
    let c7 : Bool = list_all (λ v. is_spelled (Const 0) (Const 1) (Const 2) (Offset 0 3) v) x.last_pass in
    let c8 : Bool = list_all (λ v. nat_lt v x.num_passes) x.last_pass in
    let c9 : Bool = is_rising x.last_pass in
    let s9 = and_parts (c0 && c1 && c2 && c3 && c4 && c5 && c6 && c7 && c8) c9 w in
    let s8 = and_parts (c0 && c1 && c2 && c3 && c4 && c5 && c6 && c7) c8 s9.0 in
    let s7 = and_parts (c0 && c1 && c2 && c3 && c4 && c5 && c6) c7 s8.0 in
    let s6 = and_parts (c0 && c1 && c2 && c3 && c4 && c5) c6 s7.0 in
    let s5 = and_parts (c0 && c1 && c2 && c3 && c4) c5 s6.0 in
    let s4 = and_parts (c0 && c1 && c2 && c3) c4 s5.0 in
    let s3 = and_parts (c0 && c1 && c2) c3 s4.0 in
    let s2 = and_parts (c0 && c1) c2 s3.0 in
    let s1 = and_parts c0 c1 s2.0 in
    let n = by_count told (is_spelled (Const 1) (Const 2) (Const 3) (Offset 4 3) x.num_passes) x.num_passes s1.0 in
    let r = by_resolutions (x.num_passes == 1) (length x.downsample) (is_spelled (Const 0) (Const 1) (Const 2) (Offset 3 1) (length x.downsample)) (nat_le (length x.downsample) x.num_passes) s3.1 in
    record {
      count = n.0;
      one = n.1;
      shifts = eqb-true (length x.shift) (x.num_passes - 1) s1.1;
      small = s2.1;
      few = r.0;
      none = r.1;
      factors = s4.1;
      falling = s5.1;
      ends = eqb-true (length x.last_pass) (length x.downsample) s6.1;
      lasts = s7.1;
      below = s8.1;
      rising = s9.1;
    }

-- there are no more resolutions than passes
pub few_resolutions : (told : Bool) (x : Passes) → PassesParts told x → length x.downsample ≤ x.num_passes
few_resolutions told x parts = by_test (x.num_passes == 1) refl
  where
    by_test : (b : Bool) → (x.num_passes == 1) ≡ b → length x.downsample ≤ x.num_passes
    by_test true e = let n = parts.none (ap not e) in omega (arith, n)
    by_test false e = leb-true (length x.downsample) x.num_passes (parts.few (ap not e)).1

resolutions_spelled : (t : Bool) (n count : ℕ) (a b : List ℕ) → (t ≡ true → nat_le n count ≡ true) → Spells a b (when t (u32 (Const 0) (Const 1) (Const 2) (Offset 3 1)) 0) n →
    Spells a b (when t (number_where (codes "num_downsample") (λ v. nat_le v count) (u32 (Const 0) (Const 1) (Const 2) (Offset 3 1))) 0) n
resolutions_spelled true n count a b few u = meant (codes "num_downsample") (λ v. nat_le v count) (u32 (Const 0) (Const 1) (Const 2) (Offset 3 1)) n a b (few refl) u
resolutions_spelled false n count a b few u = u

pub passes_spelled : (told : Bool) (x : Passes) (b0 b1 b2 b3 b4 b5 : List ℕ) → PassesParts told x → Spells b0 b1 (when told (u32 (Const 1) (Const 2) (Const 3) (Offset 4 3)) 1) x.num_passes →
    Spells b1 b2 (when (not (x.num_passes == 1)) (u32 (Const 0) (Const 1) (Const 2) (Offset 3 1)) 0) (length x.downsample) →
    Spells b2 b3 (repeated (length x.shift) (u32 (Const 0) (Const 1) (Const 2) (Const 3))) x.shift →
    Spells b3 b4 (repeated (length x.downsample) (u32 (Const 1) (Const 2) (Const 4) (Const 8))) x.downsample →
    Spells b4 b5 (repeated (length x.last_pass) (u32 (Const 0) (Const 1) (Const 2) (Offset 0 3))) x.last_pass → Spells b0 b5 (passes told) x
unfolding passes factor
passes_spelled told x b0 b1 b2 b3 b4 b5 parts u0 u1 u2 u3 u4 =
    let r = resolutions_spelled (not (x.num_passes == 1)) (length x.downsample) x.num_passes b1 b2 (λ e. (parts.few e).1) u1 in
    let s = subst (λ (n : ℕ). Spells b2 b3 (repeated n (u32 (Const 0) (Const 1) (Const 2) (Const 3))) x.shift) parts.shifts u2 in
    let f = falling_spelled (codes "downsample") (u32 (Const 1) (Const 2) (Const 4) (Const 8)) (length x.downsample) x.downsample b3 b4 parts.falling u3 in
    let e = subst (λ (n : ℕ). Spells b4 b5 (repeated n (u32 (Const 0) (Const 1) (Const 2) (Offset 0 3))) x.last_pass) parts.ends u4 in
    let l = rising_spelled (codes "last_pass") (u32 (Const 0) (Const 1) (Const 2) (Offset 0 3)) (length x.downsample) x.num_passes x.last_pass b4 b5 parts.below parts.rising e in
    becomes (after u0 (after r (after s (after f l)))) (λ bytes p q k. (x.num_passes, k.0, k.1, (length x.downsample, k.2.0, k.2.1, (x.shift, k.2.2.0, k.2.2.1, (x.downsample, k.2.2.2.0, k.2.2.2.1, (x.last_pass, q, k.2.2.2.2, (refl, refl)))))))
