-- The ranges of the weighted predictor.
use Rattle.std.proofs.Common.{◌≡◌, ℕ, zero, suc, ◌+◌, ◌-◌, ◌*◌, ◌/◌, ◌^◌, ◌<◌, ◌≤◌, inl, inr, List, [], ◌∷◌, length, refl, arith, ℤ, pos, negsuc, ◌+ℤ◌, ◌-ℤ◌, ◌*ℤ◌, unsigned_abs, FitsSigned, Bool, true, false, cond, bit_or, sym, ap}
use Rattle.std.specs.Prelude.{All, slice_index_or, sum, nat_lt}
use Rattle.std.specs.Int.{w32, int_shr}
use Rattle.std.specs.Int.Count.{count_leading_zeros, leading_top, leading_unique}
use Rattle.std.proofs.lemmas.Int.{ints, unsigned_abs-mul, SFits-int_wrap}
use Rattle.std.proofs.lemmas.Nat.{le_or_l, mul-le, or_lt, row_below_turned}
use Rattle.std.proofs.lemmas.Bool.{cases_lt}
use Rattle.std.proofs.lemmas.List.Elements.{All-append}
use Rattle.std.proofs.Math.Nat.{mod-lt}
use Rattle.std.proofs.Math.Pow.{pow_mono}
use Rattle.jxlm_bits.specs.Numbers.{floor_log2}
use Rattle.jxlm_weighted.specs.Neighbours.{neighbours, at, west, north, north_west, north_east, north_north, column, row}
use Rattle.jxlm_weighted.specs.SelfCorrecting.{shift_of, reciprocal, weight_of, shift_down, Errors, no_errors, errors_at, errors_above, errors_left, error_sum, errors_near, errors_of, IsHeader, sub_predictions, weights, weighted_sum}
use Rattle.jxlm_weighted.specs.SelfCorrectingRanges.{IsInTable, OfEach, InRange, AlwaysInRange}
use Rattle.jxlm_weighted.specs.declared.weights.WpHeader.{WpHeader}

-- floor_log2 is what it is called
pub floor_log2_is : (n : ℕ) → 0 < n → n < 2 ^ 64 → (2 ^ floor_log2 n ≤ n) × (n < 2 ^ suc (floor_log2 n))
floor_log2_is n h l =
    let t = leading_top 64 n h l in
    let e : floor_log2 n ≡ t.0 = omega (arith, t.1) in
    rw e (t.2, t.3)

pub floor_log2_zero : floor_log2 0 ≡ 0
unfolding count_leading_zeros
floor_log2_zero = refl

floor_log2_one : floor_log2 1 ≡ 0
unfolding count_leading_zeros
floor_log2_one = refl

-- a number below 2 ^ 32 has a logarithm below 32
pub log_narrow : (n : ℕ) → n < 2 ^ 32 → floor_log2 n < 32
log_narrow zero h = rw floor_log2_zero (omega arith)
log_narrow (suc n) h =
    let f = floor_log2_is (suc n) (omega arith) (omega arith) in
    elim (cases_lt (floor_log2 (suc n)) 32) [ inl lt ↦ lt | inr ge ↦ (let m : 2 ^ 32 ≤ 2 ^ floor_log2 (suc n) = pow_mono ge in absurd (omega (arith, m, f.0, h))) ]

power_positive : (k : ℕ) → 1 ≤ 2 ^ k
power_positive zero = omega arith
power_positive (suc k) = let h = power_positive k in omega arith

-- the lowest bit changes no logarithm
pub log_of_odd : (n : ℕ) → n < 2 ^ 64 → floor_log2 (bit_or n 1) ≡ floor_log2 n
log_of_odd zero h = rw (floor_log2_zero, floor_log2_one) refl
log_of_odd (suc n) h =
    let t = leading_top 64 (suc n) (omega arith) h in
    let p = power_positive t.0 in
    let below : bit_or (suc n) 1 < 2 ^ suc t.0 = or_lt (suc t.0) (suc n) 1 t.3 (omega (arith, p)) in
    let above : suc n ≤ bit_or (suc n) 1 = le_or_l (suc n) 1 in
    let same : count_leading_zeros 64 (suc n) ≡ count_leading_zeros 64 (bit_or (suc n) 1) = leading_unique 64 (bit_or (suc n) 1) _ (suc t.0) t.1 below (omega (arith, above, t.2)) in
    ap (λ zeros. 63 - zeros) (sym same)

pub abs_add : (a b : ℤ) → unsigned_abs (a +ℤ b) ≤ unsigned_abs a + unsigned_abs b
abs_add a b = omega (arith, ints)

pub abs_sub : (a b : ℤ) → unsigned_abs (a -ℤ b) ≤ unsigned_abs a + unsigned_abs b
abs_sub a b = omega (arith, ints)

pub abs_mul : (a : ℤ) (b m n : ℕ) → unsigned_abs a ≤ m → b ≤ n → unsigned_abs (a *ℤ pos b) ≤ m * n
abs_mul a b m n h l = rw (unsigned_abs-mul a (pos b)) (mul-le (unsigned_abs a) b m n h l)

pub abs_shr : (a : ℤ) (m : ℕ) → unsigned_abs a ≤ m → unsigned_abs (int_shr a 5) ≤ m / 32 + 1
abs_shr (pos n) m h = omega arith
abs_shr (negsuc n) m h = omega arith

pub abs_fits : (a : ℤ) → FitsSigned w32 a → unsigned_abs a ≤ 2 ^ 31
abs_fits a h = omega (arith, ints)

-- indices

shift_bound : (sum z : ℕ) → (sum + 1) / 32 ≡ z → sum < 2 ^ 32 → sum < 64 * 2 ^ floor_log2 z
shift_bound sum zero e l = rw floor_log2_zero (omega (arith, e))
shift_bound sum (suc z) e l =
    let f = floor_log2_is (suc z) (omega arith) (omega (arith, e)) in
    omega (arith, e, f.1)

pub in_table : (sum : ℕ) → sum < 2 ^ 32 → IsInTable sum
in_table sum l =
    let m = 2 ^ shift_of sum in
    let q : sum / m < 64 = (row_below_turned sum m 64 m (shift_bound sum ((sum + 1) / 32) refl l) (omega arith)).1 in
    (omega arith, omega (arith, q))

-- weights

pub weight_bounds : (w sum : ℕ) → w < 16 → (4 ≤ weight_of w sum) × (weight_of w sum ≤ 4 + 15 * 2 ^ 24)
weight_bounds w sum l =
    let i = sum / 2 ^ shift_of sum in
    let r : reciprocal (i + 1) ≤ 2 ^ 24 = omega arith in
    let p = mul-le w (reciprocal (i + 1)) 15 (2 ^ 24) (omega (arith, l)) r in
    let q : w * reciprocal (i + 1) / 2 ^ shift_of sum ≤ w * reciprocal (i + 1) = omega arith in
    (omega arith, omega (arith, p, q))

-- four numbers divided by m, where m is about a sixteenth of their sum
quarters : (a b c e m : ℕ) → 0 < m → 16 * m ≤ a + b + c + e → a + b + c + e < 32 * m → (13 ≤ a / m + b / m + c / m + e / m) × (a / m + b / m + c / m + e / m ≤ 31)
quarters a b c e m pos_m low high =
    let n = a / m + b / m + c / m + e / m in (
      elim (cases_lt n 13) [
        | inl few ↦ (let x = mul-le m n m 12 (omega arith) (omega (arith, few)) in absurd (omega (arith, x, low, pos_m)))
        | inr enough ↦ enough
      ],
      elim (cases_lt n 32) [
        | inl few ↦ (omega (arith, few))
        | inr many ↦ (let x = mul-le m 32 m n (omega arith) many in absurd (omega (arith, x, high)))
      ],
    )

-- four weights
abbrev pub four : ℕ → ℕ → ℕ → ℕ → List ℕ
four a b c e = a ∷ b ∷ c ∷ e ∷ []

pub shifted_total : (a b c e : ℕ) → 16 ≤ a + b + c + e → a + b + c + e < 2 ^ 64 → (13 ≤ sum (shift_down (four a b c e))) × (sum (shift_down (four a b c e)) ≤ 31)
shifted_total a b c e low high =
    let total = sum (four a b c e) in
    let l = floor_log2_is (total / 16) (omega (arith, low)) (omega (arith, high)) in
    let n = quarters a b c e (2 ^ floor_log2 (total / 16)) (power_positive (floor_log2 (total / 16))) (omega (arith, l.0)) (omega (arith, l.1)) in
    (omega (arith, n.0), omega (arith, n.1))

-- samples and errors of 32 bits

zero_fits : FitsSigned w32 (pos 0)
zero_fits = record { sfits = omega arith }

cond_fits : (b : Bool) (x y : ℤ) → FitsSigned w32 x → FitsSigned w32 y → FitsSigned w32 (cond b x y)
cond_fits true x y h k = h
cond_fits false x y h k = k

-- what holds of each element and of a default holds of what is found
found : {X : Type 0} (P : X → Type 0) (xs : List X) (i : ℕ) (x : X) → P x → All P xs → P (slice_index_or xs i x)
found P [] i x h all = h
found P (y ∷ xs) zero x h all = all 0 x (omega arith)
found P (y ∷ xs) (suc i) x h all = found P xs i x h (λ k d l. all (suc k) d (omega arith))

all_one : {X : Type 0} (P : X → Type 0) (x : X) → P x → All P (x ∷ [])
all_one P x h zero d l = h
all_one P x h (suc k) d l = absurd (omega arith)

sample_fits : (samples : List ℤ) (i : ℕ) → All (FitsSigned w32) samples → FitsSigned w32 (slice_index_or samples i (pos 0))
sample_fits samples i h = found (FitsSigned w32) samples i (pos 0) zero_fits h

module _ (samples : List ℤ) (width : ℕ) (fit : All (FitsSigned w32) samples) where
  at_fits : (x y : ℕ) → FitsSigned w32 (at samples width x y)
  at_fits x y = sample_fits samples (y * width + x) fit

  west_fits : (x y : ℕ) → FitsSigned w32 (west samples width x y)
  west_fits zero zero = zero_fits
  west_fits zero (suc y) = at_fits 0 y
  west_fits (suc x) y = at_fits x y

  north_fits : (x y : ℕ) → FitsSigned w32 (north samples width x y)
  north_fits x zero = west_fits x zero
  north_fits x (suc y) = at_fits x y

  north_west_fits : (x y : ℕ) → FitsSigned w32 (north_west samples width x y)
  north_west_fits zero y = west_fits zero y
  north_west_fits (suc x) zero = west_fits (suc x) zero
  north_west_fits (suc x) (suc y) = at_fits x y

  north_east_fits : (x y : ℕ) → FitsSigned w32 (north_east samples width x y)
  north_east_fits x zero = north_fits x zero
  north_east_fits x (suc y) = cond_fits (nat_lt (x + 1) width) _ _ (at_fits (x + 1) y) (north_fits x (suc y))

  north_north_fits : (x y : ℕ) → FitsSigned w32 (north_north samples width x y)
  north_north_fits x zero = north_fits x zero
  north_north_fits x (suc zero) = north_fits x 1
  north_north_fits x (suc (suc y)) = at_fits x y

abbrev ErrorFits : Errors → Type 0
ErrorFits e = FitsSigned w32 e.true_error

error_fits : (errors : List Errors) (i : ℕ) → All ErrorFits errors → FitsSigned w32 (slice_index_or errors i no_errors).true_error
error_fits errors i h = found ErrorFits errors i no_errors zero_fits h

module _ (errors : List Errors) (width : ℕ) (fit : All ErrorFits errors) where
  errors_at_fits : (x y : ℕ) → FitsSigned w32 (errors_at errors width x y).true_error
  errors_at_fits x y = error_fits errors (y * width + x) fit

  above_fits : (x y : ℕ) → ErrorFits (errors_above errors width x y)
  above_fits x zero = zero_fits
  above_fits x (suc y) = errors_at_fits x y

  left_fits : (x y : ℕ) → ErrorFits (errors_left errors width x y)
  left_fits zero y = zero_fits
  left_fits (suc x) y = errors_at_fits x y

  above_right_fits : (x y : ℕ) → ErrorFits (cond (nat_lt (x + 1) width) (errors_above errors width (x + 1) y) (errors_above errors width x y))
  above_right_fits x y = either (nat_lt (x + 1) width) _ _ (above_fits (x + 1) y) (above_fits x y) where
    either : (b : Bool) (e f : Errors) → ErrorFits e → ErrorFits f → ErrorFits (cond b e f)
    either true e f h k = h
    either false e f h k = k

errors_fit : (header : WpHeader) (samples : List ℤ) (width : ℕ) (i : ℕ) → All ErrorFits (errors_of header samples width i)
errors_fit header samples width zero = λ k d l. absurd (omega arith)
errors_fit header samples width (suc i) = All-append ErrorFits (errors_of header samples width i) _ (errors_fit header samples width i) (all_one ErrorFits _ (SFits-int_wrap w32 _))

-- sub-predictions

eightfold_below : (a : ℤ) → FitsSigned w32 a → unsigned_abs (a *ℤ pos 8) ≤ 2 ^ 34
eightfold_below a h = let l = abs_mul a 8 (2 ^ 31) 8 (abs_fits a h) (omega arith) in omega (arith, l)

first_below : (w ne n : ℤ) → unsigned_abs w ≤ 2 ^ 34 → unsigned_abs ne ≤ 2 ^ 34 → unsigned_abs n ≤ 2 ^ 34 → unsigned_abs (w +ℤ ne -ℤ n) < 2 ^ 37
first_below w ne n h i j = omega (arith, h, i, j, abs_sub (w +ℤ ne) n, abs_add w ne)

middle_below : (n a b c : ℤ) (p : ℕ) → unsigned_abs n ≤ 2 ^ 34 → unsigned_abs a ≤ 2 ^ 31 → unsigned_abs b ≤ 2 ^ 31 → unsigned_abs c ≤ 2 ^ 31 → p < 32 →
    unsigned_abs (n -ℤ int_shr ((a +ℤ b +ℤ c) *ℤ pos p) 5) < 2 ^ 37
middle_below n a b c p hn ha hb hc hp =
    let s : unsigned_abs (a +ℤ b +ℤ c) ≤ 3 * 2 ^ 31 = omega (arith, ha, hb, hc, abs_add (a +ℤ b) c, abs_add a b) in
    let t = abs_mul (a +ℤ b +ℤ c) p (3 * 2 ^ 31) 31 s (omega (arith, hp)) in
    let u = abs_shr ((a +ℤ b +ℤ c) *ℤ pos p) (3 * 2 ^ 31 * 31) t in
    omega (arith, hn, u, abs_sub n (int_shr ((a +ℤ b +ℤ c) *ℤ pos p) 5))

last_below : (n w nw nn a b c : ℤ) (pa pb pc pd pe : ℕ) → unsigned_abs n ≤ 2 ^ 34 → unsigned_abs w ≤ 2 ^ 34 → unsigned_abs nw ≤ 2 ^ 34 → unsigned_abs nn ≤ 2 ^ 34 →
    unsigned_abs a ≤ 2 ^ 31 → unsigned_abs b ≤ 2 ^ 31 → unsigned_abs c ≤ 2 ^ 31 → pa < 32 → pb < 32 → pc < 32 → pd < 32 → pe < 32 →
    unsigned_abs (n -ℤ int_shr (a *ℤ pos pa +ℤ b *ℤ pos pb +ℤ c *ℤ pos pc +ℤ (nn -ℤ n) *ℤ pos pd +ℤ (nw -ℤ w) *ℤ pos pe) 5) < 2 ^ 37
last_below n w nw nn a b c pa pb pc pd pe hn hw hnw hnn ha hb hc la lb lc ld le =
    let d1 : unsigned_abs (nn -ℤ n) ≤ 2 ^ 35 = omega (arith, hnn, hn, abs_sub nn n) in
    let d2 : unsigned_abs (nw -ℤ w) ≤ 2 ^ 35 = omega (arith, hnw, hw, abs_sub nw w) in
    let ma = abs_mul a pa (2 ^ 31) 31 ha (omega (arith, la)) in
    let mb = abs_mul b pb (2 ^ 31) 31 hb (omega (arith, lb)) in
    let mc = abs_mul c pc (2 ^ 31) 31 hc (omega (arith, lc)) in
    let md = abs_mul (nn -ℤ n) pd (2 ^ 35) 31 d1 (omega (arith, ld)) in
    let me = abs_mul (nw -ℤ w) pe (2 ^ 35) 31 d2 (omega (arith, le)) in
    let x = a *ℤ pos pa in
    let y = b *ℤ pos pb in
    let z = c *ℤ pos pc in
    let u = (nn -ℤ n) *ℤ pos pd in
    let v = (nw -ℤ w) *ℤ pos pe in
    let s : unsigned_abs (x +ℤ y +ℤ z +ℤ u +ℤ v) ≤ 3 * (2 ^ 31 * 31) + 2 * (2 ^ 35 * 31) = omega (arith, ma, mb, mc, md, me, abs_add (x +ℤ y +ℤ z +ℤ u) v, abs_add (x +ℤ y +ℤ z) u, abs_add (x +ℤ y) z, abs_add x y) in
    let t = abs_shr (x +ℤ y +ℤ z +ℤ u +ℤ v) (3 * (2 ^ 31 * 31) + 2 * (2 ^ 35 * 31)) s in
    omega (arith, hn, t, abs_sub n (int_shr (x +ℤ y +ℤ z +ℤ u +ℤ v) 5))

-- the weighted sum and its product

pub weighted : (s0 s1 s2 s3 : ℤ) (v0 v1 v2 v3 : ℕ) → OfEach (λ z. unsigned_abs z < 2 ^ 37) (s0 ∷ s1 ∷ s2 ∷ s3 ∷ []) → sum (four v0 v1 v2 v3) ≤ 31 →
    unsigned_abs (weighted_sum (s0 ∷ s1 ∷ s2 ∷ s3 ∷ []) (four v0 v1 v2 v3)) < 2 ^ 42
weighted s0 s1 s2 s3 v0 v1 v2 v3 below few =
    let c = pos (sum (four v0 v1 v2 v3) / 2 - 1) in
    let x = s0 *ℤ pos v0 in
    let y = s1 *ℤ pos v1 in
    let z = s2 *ℤ pos v2 in
    let u = s3 *ℤ pos v3 in
    let h0 = below.0 in
    let h1 = below.1.0 in
    let h2 = below.1.1.0 in
    let h3 = below.1.1.1.0 in
    let m0 = abs_mul s0 v0 (2 ^ 37 - 1) v0 (omega (arith, h0)) (omega arith) in
    let m1 = abs_mul s1 v1 (2 ^ 37 - 1) v1 (omega (arith, h1)) (omega arith) in
    let m2 = abs_mul s2 v2 (2 ^ 37 - 1) v2 (omega (arith, h2)) (omega arith) in
    let m3 = abs_mul s3 v3 (2 ^ 37 - 1) v3 (omega (arith, h3)) (omega arith) in
    omega (arith, few, m0, m1, m2, m3, abs_add (c +ℤ x +ℤ y +ℤ z) u, abs_add (c +ℤ x +ℤ y) z, abs_add (c +ℤ x) y, abs_add c x)

pub product : (a : ℤ) (n : ℕ) → unsigned_abs a < 2 ^ 42 → 13 ≤ n → unsigned_abs (a *ℤ pos (reciprocal n)) < 2 ^ 63
product a n h l =
    let m = mul-le 13 (reciprocal n) n (reciprocal n) l (omega arith) in
    let r : reciprocal n ≤ 1290555 = omega (arith, m) in
    let p = abs_mul a (reciprocal n) (2 ^ 42 - 1) 1290555 (omega (arith, h)) r in
    omega (arith, p)

in_range : (header : WpHeader) → IsHeader header → (samples : List ℤ) (width : ℕ) (errors : List Errors) → All (FitsSigned w32) samples → All ErrorFits errors →
    InRange header (neighbours samples width) (errors_near errors width (column samples width) (row samples width))
in_range header is samples width errors fit errors_fit =
    let x = column samples width in
    let y = row samples width in
    let vw = west samples width x y in
    let vn = north samples width x y in
    let vnw = north_west samples width x y in
    let vne = north_east samples width x y in
    let vnn = north_north samples width x y in
    let around = neighbours samples width in
    let near = errors_near errors width x y in
    let ew = near.w in
    let en = near.n in
    let enw = near.nw in
    let ene = near.ne in
    let w = eightfold_below vw (west_fits samples width fit x y) in
    let n = eightfold_below vn (north_fits samples width fit x y) in
    let nw = eightfold_below vnw (north_west_fits samples width fit x y) in
    let ne = eightfold_below vne (north_east_fits samples width fit x y) in
    let nn = eightfold_below vnn (north_north_fits samples width fit x y) in
    let e_w = abs_fits ew (left_fits errors width errors_fit x y) in
    let e_n = abs_fits en (above_fits errors width errors_fit x y) in
    let e_nw = abs_fits enw (above_fits errors width errors_fit (x - 1) y) in
    let e_ne = abs_fits ene (above_right_fits errors width errors_fit x y) in
    let below : OfEach (λ s. unsigned_abs s < 2 ^ 37) (sub_predictions header around near) = (
      first_below (vw *ℤ pos 8) (vne *ℤ pos 8) (vn *ℤ pos 8) w ne n,
      (
        middle_below (vn *ℤ pos 8) ew en ene header.wp_p1 n e_w e_n e_ne is.p1,
        (
          middle_below (vw *ℤ pos 8) ew en enw header.wp_p2 w e_w e_n e_nw is.p2,
          (
            last_below (vn *ℤ pos 8) (vw *ℤ pos 8) (vnw *ℤ pos 8) (vnn *ℤ pos 8) enw en ene header.wp_p3a header.wp_p3b header.wp_p3c header.wp_p3d header.wp_p3e
                n w nw nn e_nw e_n e_ne is.p3a is.p3b is.p3c is.p3d is.p3e,
            tt,
          ),
        ),
      ),
    ) in
    let error = error_sum errors width x y in
    let w0 = weight_of header.wp_w0 (error 0) in
    let w1 = weight_of header.wp_w1 (error 1) in
    let w2 = weight_of header.wp_w2 (error 2) in
    let w3 = weight_of header.wp_w3 (error 3) in
    let b0 = weight_bounds header.wp_w0 (error 0) is.w0 in
    let b1 = weight_bounds header.wp_w1 (error 1) is.w1 in
    let b2 = weight_bounds header.wp_w2 (error 2) is.w2 in
    let b3 = weight_bounds header.wp_w3 (error 3) is.w3 in
    let totals = shifted_total w0 w1 w2 w3 (omega (arith, b0.0, b1.0, b2.0, b3.0)) (omega (arith, b0.1, b1.1, b2.1, b3.1)) in
    let shift = 2 ^ floor_log2 (sum (four w0 w1 w2 w3) / 16) in
    let subs = sub_predictions header around near in
    let large : unsigned_abs (weighted_sum subs (weights header near.sums)) < 2 ^ 42 = weighted _ _ _ _ (w0 / shift) (w1 / shift) (w2 / shift) (w3 / shift) below totals.1 in
    record {
      sub_predictions_below = below;
      sums_in_table = (in_table _ (mod-lt _ (omega arith)), (in_table _ (mod-lt _ (omega arith)), (in_table _ (mod-lt _ (omega arith)), (in_table _ (mod-lt _ (omega arith)), tt))));
      least_total = totals.0;
      max_total = totals.1;
      weighted_below = large;
      product_below = product (weighted_sum subs (weights header near.sums)) (sum (weights header near.sums)) large totals.0;
    }

pub always_in_range : AlwaysInRange
always_in_range header is samples width fit = in_range header is samples width (errors_of header samples width (length samples)) fit (errors_fit header samples width (length samples))
