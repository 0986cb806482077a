-- Channels of one picture: how far groups of it reach into them.
use Rattle.std.proofs.Common.{◌≡◌, ℕ, zero, suc, ◌+◌, ◌-◌, ◌*◌, ◌/◌, ◌^◌, ◌<◌, ◌≤◌, Bool, true, false, if◌then◌else◌, IsTrue, ℤ, pos, negsuc, inl, inr, refl, sym, ap, ◌∙◌, subst, arith}
use Rattle.std.specs.Prelude.{unsigned_abs}
use Rattle.std.specs.Int.{div_ceil}
use Rattle.std.proofs.lemmas.Bool.{cases_lt}
use Rattle.std.proofs.lemmas.Int.{ints}
use Rattle.std.proofs.lemmas.Grind.{div_ceil_times}
use Rattle.std.proofs.lemmas.Nat.{pow_pos, pow-add}
use Rattle.std.proofs.Math.Nat.{lt_of_mul-lt-mul_right, mul_assoc, mul_comm, pow-suc, mul-div_cancel, div-eq_of_lt}
use Rattle.std.proofs.Math.Pow.{pow-lt}
use Rattle.jxlm_transform.specs.Channels.{Channel, image_channel}
use Rattle.jxlm_transform.specs.ChannelSteps.{average_channel, residual_channel, shift_of_half}
use Rattle.jxlm_transform.specs.Params.{IsValidChannel, IsGroupDim}
use Rattle.jxlm_transform.specs.Shifts.{upsampled_side, shift_size, shifts_of, IsShift, IsValidShift}
use Rattle.jxlm_transform.proofs.ShiftBounds.{hshift-shifts}
use Rattle.jxlm_transform.specs.declared.param.ChannelShift.{ChannelShift}
use Rattle.jxlm_transform.specs.declared.param.ChannelShift.TheVariants.{JpegUpsampling, Shifts, Raw}
use Rattle.jxlm_transform.specs.declared.param.ModularChannelParams.{ModularChannelParams}
use Rattle.jxlm_groups.proofs.Cover.{IsCut}
use Rattle.jxlm_groups.specs.Cutting.{span, cell_width, cell_height, is_low_frequency}

-- A side of n samples, of a picture's side, halved so often: wherever an even number of samples, a whole number of times 2 ^ shift,
-- is no less than the picture's side, that many times is no less than n.
pub record IsHalved (original n : ℕ) (s : ℤ) : Type 0 where
  pub shift : ℕ
  pub is : s ≡ pos shift
  pub covers : (q r : ℕ) → original ≤ 2 * r → 2 * r ≡ q * 2 ^ shift → n ≤ q

-- a channel of a picture of w by h
pub record IsOfPicture (w h : ℕ) (c : Channel) : Type 0 where
  pub width : c.original_width ≡ w
  pub height : c.original_height ≡ h
  pub across : IsHalved c.original_width c.width c.hshift
  pub down : IsHalved c.original_height c.height c.vshift

-- a channel of a picture of its own original size, halved as often as its shifts say
abbrev pub IsOwn : Channel → Type 0
IsOwn c = IsOfPicture c.original_width c.original_height c

-- ---- a squeeze

half_more : (original n m : ℕ) (s : ℤ) → m ≤ (n + 1) / 2 → IsHalved original n s → IsHalved original m (shift_of_half s)
half_more original n m s le h = record {
  shift = suc h.shift;
  is = ap shift_of_half h.is ∙ ap pos (omega arith);
  covers = λ q r a b.
      let e : q * 2 ^ suc h.shift ≡ q * 2 * 2 ^ h.shift = ap (λ z. q * z) (pow-suc 2 h.shift ∙ mul_comm (2 ^ h.shift) 2) ∙ sym (mul_assoc q 2 (2 ^ h.shift)) in
      let k = h.covers (q * 2) r a (b ∙ e) in
      omega (arith, k, le);
}

pub average_halved : (horizontal : Bool) (w h : ℕ) (c : Channel) → IsOfPicture w h c → IsOfPicture w h (average_channel horizontal c)
average_halved true w h c p = record { width = p.width; height = p.height; across = half_more c.original_width c.width (div_ceil c.width 2) c.hshift (omega arith) p.across; down = p.down }
average_halved false w h c p = record { width = p.width; height = p.height; across = p.across; down = half_more c.original_height c.height (div_ceil c.height 2) c.vshift (omega arith) p.down }

pub residual_halved : (horizontal : Bool) (w h : ℕ) (c : Channel) → IsOfPicture w h c → IsOfPicture w h (residual_channel horizontal c)
residual_halved true w h c p = record { width = p.width; height = p.height; across = half_more c.original_width c.width (c.width / 2) c.hshift (omega arith) p.across; down = p.down }
residual_halved false w h c p = record { width = p.width; height = p.height; across = p.across; down = half_more c.original_height c.height (c.height / 2) c.vshift (omega arith) p.down }

-- ---- before all transforms

-- a part, rounded up, of what is no more than this number of times
pub ceil_within : (a b q : ℕ) → 0 < b → a ≤ q * b → div_ceil a b ≤ q
ceil_within a b q h le =
    let t = (div_ceil_times a b h).1 in
    let k : div_ceil a b < q + 1 = lt_of_mul-lt-mul_right b (omega (arith, t, le)) in
    omega (arith, k)

by_power : (original s : ℕ) → IsHalved original (div_ceil original (2 ^ s)) (pos s)
by_power original s = record { shift = s; is = refl; covers = λ q r a b. ceil_within original (2 ^ s) q (pow_pos s) (omega (arith, a, b)) }

jpeg_side : (has h : Bool) (original : ℕ) → (IsTrue h → IsTrue has) → IsHalved original (upsampled_side has h original) (if h then pos 1 else pos 0)
jpeg_side false false original v = record { shift = 0; is = refl; covers = λ q r a b. omega (arith, a, b) }
jpeg_side false true original v = absurd (not_true (v refl)) where
  not_true : IsTrue false → ⊥
  not_true e = cc
jpeg_side true false original v = record { shift = 0; is = refl; covers = λ q r a b. omega (arith, a, b) }
jpeg_side true true original v = record { shift = 1; is = refl; covers = λ q r a b. omega (arith, a, b) }

raw_side : (z : ℤ) (original : ℕ) → IsShift z → IsHalved original (div_ceil original (2 ^ unsigned_abs z)) z
raw_side (pos s) original v = by_power original s
raw_side (negsuc s) original v = absurd (let low = v.0 in omega (arith, ints, low))

pub sides_of_shift : (s : ChannelShift) (w h : ℕ) → IsValidShift s → IsHalved w (shift_size s (w, h)).0 (shifts_of s).0 × IsHalved h (shift_size s (w, h)).1 (shifts_of s).1
sides_of_shift (JpegUpsampling has_h h has_v v) a b valid = (jpeg_side has_h h a valid.0, jpeg_side has_v v b valid.1)
sides_of_shift (Shifts s) a b valid = (
  subst (IsHalved a (div_ceil a (2 ^ s))) (sym (hshift-shifts s valid)) (by_power a s),
  subst (IsHalved b (div_ceil b (2 ^ s))) (sym (hshift-shifts s valid)) (by_power b s),
)
sides_of_shift (Raw h v) a b valid = (raw_side h a valid.0, raw_side v b valid.1)

pub image_of_picture : (p : ModularChannelParams) → IsValidChannel p → IsOfPicture p.width p.height (image_channel p)
image_of_picture p valid =
    let both = sides_of_shift p.shift p.width p.height valid.2 in
    record { width = refl; height = refl; across = both.0; down = both.1 }

-- ---- groups cover

-- a power of two that is no less than another is a whole number of times that one
whole_power : (a s : ℕ) → 0 < 2 ^ a / 2 ^ s → 2 ^ a / 2 ^ s * 2 ^ s ≡ 2 ^ a
whole_power a s some = elim (cases_lt a s) [
  | inl lt ↦ absurd (let none = small (2 ^ a) (2 ^ s) (pow-lt lt) in omega (arith, none, some))
  | inr ge ↦
      let parts : 2 ^ a ≡ 2 ^ (a - s) * 2 ^ s = ap (λ n. 2 ^ n) (omega (arith, ge)) ∙ pow-add 2 (a - s) s in
      ap (λ n. n / 2 ^ s * 2 ^ s) parts ∙ ap (λ n. n * 2 ^ s) (mul-div_cancel (2 ^ (a - s)) (pow_pos s)) ∙ sym parts
] where
  small : (m n : ℕ) → m < n → m / n ≡ 0
  small m n lt = div-eq_of_lt lt

-- a side of a channel is covered by the cells of as many groups as cover the picture's side
side_covered : (original n a : ℕ) (s : ℤ) → IsHalved original n s → 0 < 2 ^ suc a / 2 ^ unsigned_abs s → n ≤ div_ceil original (2 ^ suc a) * (2 ^ suc a / 2 ^ unsigned_abs s)
side_covered original n a s h some =
    let t : ℕ = h.shift in
    let is : unsigned_abs s ≡ t = ap unsigned_abs h.is in
    let cell : ℕ = 2 ^ suc a / 2 ^ t in
    let cols : ℕ = div_ceil original (2 ^ suc a) in
    let w : cell * 2 ^ t ≡ 2 ^ suc a = whole_power (suc a) t (subst (λ k. 0 < 2 ^ suc a / 2 ^ k) is some) in
    let e : cols * cell * 2 ^ t ≡ cols * 2 ^ suc a = mul_assoc cols cell (2 ^ t) ∙ ap (λ z. cols * z) w in
    let two : cols * 2 ^ suc a ≡ cols * 2 ^ a * 2 = ap (λ z. cols * z) (pow-suc 2 a) ∙ sym (mul_assoc cols (2 ^ a) 2) in
    let all = (div_ceil_times original (2 ^ suc a) (pow_pos (suc a))).0 in
    subst (λ k. n ≤ cols * (2 ^ suc a / 2 ^ k)) (sym is) (h.covers (cols * cell) (cols * 2 ^ a) (omega (arith, all, two)) (omega (arith, two, e)))

-- a group's span is a power of two, and even
span_power : (dim : ℕ) (c : Channel) → IsGroupDim dim → (a : ℕ) × (span dim c ≡ 2 ^ suc a)
span_power dim c d =
    let (k, is) = d.2 in
    let (a, e) = power k is in
    chosen (is_low_frequency c) a e where
      power : (k : ℕ) → dim ≡ 2 ^ k → (a : ℕ) × (dim ≡ 2 ^ suc a)
      power zero e = absurd (let least = d.0 in omega (arith, e, least))
      power (suc a) e = (a, e)

      chosen : (b : Bool) (a : ℕ) → dim ≡ 2 ^ suc a → (x : ℕ) × ((if b then 8 * dim else dim) ≡ 2 ^ suc x)
      chosen true a e = (a + 3, let p = pow-suc 2 a in let q = pow-suc 2 (a + 3) in let r = pow-add 2 a 3 in omega (arith, e, p, q, r))
      chosen false a e = (a, e)

pub is_cut : (w h dim : ℕ) (c : Channel) → IsGroupDim dim → IsOfPicture w h c → 0 < cell_width dim c → 0 < cell_height dim c → IsCut dim c
is_cut w h dim c d p wide high =
    let (a, is) = span_power dim c d in
    record {
      wide = wide;
      high = high;
      across = rw is (side_covered c.original_width c.width a c.hshift p.across (rw is at wide));
      down = rw is (side_covered c.original_height c.height a c.vshift p.down (rw is at high));
    }
