-- Squeeze of a row or a column (ISO/IEC 18181-1, Modular: squeeze, tendency).
use Rattle.std.specs.Prelude.{◌≡◌, ℕ, ◌+◌, ◌-◌, ◌*◌, ◌/◌, ◌%◌, ◌<◌, ◌&&◌, nat_lt, if◌then◌else◌, ℤ, pos, ◌-ℤ◌, neg_ℤ, unsigned_abs, int_le, int_div, FitsSigned}
use Rattle.std.specs.Int.{Width, int_wrap}

-- the slope of a fall by p and then by q: about a third of p and a fourth of q, no more than the nearer of them allows
abbrev pub slope : ℕ → ℕ → ℕ
slope p q =
    let whole : ℕ = (4 * p + 3 * q + 6) / 12 in
    let within_p : ℕ = if nat_lt (2 * p) (whole - whole % 2) then 2 * p + 1 else whole in
    if nat_lt (2 * q) (within_p + within_p % 2) then 2 * q else within_p

-- what the neighbours foretell of a pair's difference: the slope where left, average and right fall or rise, else 0
abbrev pub tendency : ℤ → ℤ → ℤ → ℤ
tendency a b c =
    let s : ℕ = slope (unsigned_abs (a -ℤ b)) (unsigned_abs (b -ℤ c)) in
    if int_le b a && int_le c b then pos s else if int_le a b && int_le b c then neg_ℤ (pos s) else pos 0

-- how many averages a row of n samples has: one for each pair, and one for a last single sample
abbrev pub averages : ℕ → ℕ
averages n = n - n / 2

-- each of the first n samples fits the width
abbrev pub AreSamples : Width → ℕ → (ℕ → ℤ) → Type 0
AreSamples w n row = (i : ℕ) → i < n → FitsSigned w (row i)

-- rows a and b have the same first n samples
abbrev pub AreSame : ℕ → (ℕ → ℤ) → (ℕ → ℤ) → Type 0
AreSame n a b = (i : ℕ) → i < n → a i ≡ b i

module _ (w : Width) where
  -- the difference of a pair, reduced
  abbrev pub difference : ℤ → ℤ → ℤ
  difference a b = int_wrap w (a -ℤ b)

  -- the first of a pair less half the difference, which is rounded toward zero
  abbrev pub average : ℤ → ℤ → ℤ
  average a b = int_wrap w (a -ℤ int_div (difference a b) (pos 2))

  -- average k of a row of n samples: that of samples 2k and 2k + 1, or a last single sample itself
  abbrev pub average_at : ℕ → (ℕ → ℤ) → ℕ → ℤ
  average_at n row k = if nat_lt k (n / 2) then average (row (2 * k)) (row (2 * k + 1)) else row (2 * k)

  -- the sample before pair k, and the pair's average where there is none
  abbrev pub sample_before : ℕ → (ℕ → ℤ) → ℕ → ℤ
  sample_before n row k = if nat_lt 0 k then row (2 * k - 1) else average_at n row k

  -- the average after that of pair k, and the pair's own where there is none
  abbrev pub average_after : ℕ → (ℕ → ℤ) → ℕ → ℤ
  average_after n row k = if nat_lt (k + 1) (averages n) then average_at n row (k + 1) else average_at n row k

  -- residual k: what the difference of pair k has beyond the tendency around it, reduced
  abbrev pub residual_at : ℕ → (ℕ → ℤ) → ℕ → ℤ
  residual_at n row k = int_wrap w (difference (row (2 * k)) (row (2 * k + 1)) -ℤ tendency (sample_before n row k) (average_at n row k) (average_after n row k))

  -- the squeezed row of n samples: the averages, then the residuals
  abbrev pub squeezed : ℕ → (ℕ → ℤ) → ℕ → ℤ
  squeezed n row i = if nat_lt i (averages n) then average_at n row i else residual_at n row (i - averages n)

  -- Squeezing loses nothing on rows of any length: each coded row has a row that becomes it, and no other.
  pub record SqueezeLosesNothing : Type 0 where
    pub coded : (n : ℕ) (row : ℕ → ℤ) → AreSamples w n row → AreSamples w n (squeezed n row)
    pub each : (n : ℕ) (code : ℕ → ℤ) → AreSamples w n code → (row : ℕ → ℤ) × AreSamples w n row × AreSame n (squeezed n row) code
    pub one : (n : ℕ) (a b : ℕ → ℤ) → AreSamples w n a → AreSamples w n b → AreSame n (squeezed n a) (squeezed n b) → AreSame n a b
