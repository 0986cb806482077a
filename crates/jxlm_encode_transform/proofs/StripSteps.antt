-- Bounds of lines that stand one after the other.
use Rattle.std.proofs.Common.{◌≡◌, ℕ, suc, ◌+◌, ◌*◌, ◌/◌, ◌-◌, ◌<◌, ◌≤◌, ap, ◌∙◌, arith}
use Rattle.std.proofs.Math.Nat.{le-div_iff_mul-le, mul-div-le, mul-le-mul_left, mul-le-mul_right, mul_comm}

-- a line of c samples ends within n such lines
pub line_within : (k n c room : ℕ) → k < n → room ≡ n * c → k * c + c ≤ room
line_within k n c room lt is = let m = mul-le-mul_right {m = suc k} {n = n} c (omega arith) in omega (arith, m, is)

-- what stands in one of the lines before line k
pub below_line : (x y c k : ℕ) → x < c → y < k → y * c + x < k * c
below_line x y c k p q = let m = mul-le-mul_right {m = suc y} {n = k} c (omega arith) in omega (arith, m, p)

pub at_least : (a b : ℕ) → 0 < b → a ≤ a * b
at_least a b some = let m = mul-le-mul_right {m = 1} {n = b} a (omega arith) in omega (arith, m, mul_comm a b)

-- averages and residuals of h samples each of c columns are as many
pub halves : (h c : ℕ) → h * c ≡ (h - h / 2) * c + h / 2 * c
halves h c = split (h - h / 2) (h / 2) h c (omega arith) where
  split : (a b n c : ℕ) → n ≡ a + b → n * c ≡ a * c + b * c
  split a b n c e = ap (λ k. k * c) e ∙ omega arith

-- as many columns of h samples as there is room for, and at least one
pub room_of : (len h m : ℕ) → m ≤ len / h → h * m ≤ len
room_of len h m le = between (h * m) (h * (len / h)) len (mul-le-mul_left {m = m} {n = len / h} h le) (mul-div-le len h)
  where
    between : (a b c : ℕ) → a ≤ b → b ≤ c → a ≤ c
    between a b c p q = omega (arith, p, q)

pub some_room : (len h : ℕ) → 0 < h → h ≤ len → 1 ≤ len / h
some_room len h some le = (le-div_iff_mul-le {k = h} {x = 1} {y = len} some).1 (omega (arith, le))

pub fewer_columns : (h n m len : ℕ) → n ≤ m → h * m ≤ len → h * n ≤ len
fewer_columns h n m len le fits = let l = mul-le-mul_left {m = n} {n = m} h le in omega (arith, l, fits)
