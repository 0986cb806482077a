-- Gamma codes, without the steps of a read.
use Rattle.std.specs.Prelude.{◌≡◌, ◌↔◌, ℕ, ◌+◌, ◌-◌, ◌*◌, ◌^◌, ◌<◌, ◌≤◌, List, length, false, Ok}
use Rattle.jxlm_bits.specs.Bits.{bits_at}
use Rattle.jxlm_plain.specs.Plain.{PlainState, code_of, is_runs, plain2}
use Rattle.jxlm_plain.specs.declared.plain.Code.TheVariants.{Gamma}

-- the code of t begins with n zeros: t + 1 has n + 1 binary digits
abbrev pub HasZeros : ℕ → ℕ → Type 0
HasZeros t n = (2 ^ n ≤ t + 1) × (t + 1 < 2 ^ (n + 1))

-- the code of t as a number, the first bit the least significant: n zeros, a one, and the n low digits of t + 1
abbrev pub gamma_code : ℕ → ℕ → ℕ
gamma_code t n = 2 ^ n + 2 ^ (n + 1) * (t + 1 - 2 ^ n)

-- the code of t stands at position p, and ends at q
pub record GammaStands (bytes : List ℕ) (p t q : ℕ) : Type 0 where
  pub zeros : ℕ
  pub many : HasZeros t zeros
  pub ends : q ≡ p + (2 * zeros + 1)
  pub inside : q ≤ 8 * length bytes
  pub bits : bits_at bytes p (2 * zeros + 1) ≡ gamma_code t zeros

-- Each number has one gamma code.
abbrev pub EachHasOneCode : Type 0
EachHasOneCode = (t : ℕ) → (n : ℕ) × HasZeros t n × ((m : ℕ) → HasZeros t m → m ≡ n)

-- Without runs, a read of a gamma cluster gives t exactly where t is a number from 0 to 2 ^ 32 - 1 whose code stands at
-- the position, which moves to the code's end.
abbrev pub GammaTokensAreCodes : Type 0
GammaTokensAreCodes = (s : PlainState) (bytes : List ℕ) (p c m t q : ℕ) → is_runs s.mode ≡ false → code_of s.codes c ≡ Gamma →
    ((after : PlainState) × (plain2.read s bytes p c m ≡ Ok (record { value = t; state = after; position = q }))) ↔ ((t < 2 ^ 32) × GammaStands bytes p t q)
