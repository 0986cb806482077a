-- Bits of the input and the numbers that they make (ISO/IEC 18181-1, bit packing).
use Rattle.std.specs.Prelude.{◌≡◌, ℕ, zero, suc, ◌+◌, ◌*◌, ◌/◌, ◌%◌, ◌^◌, ◌<◌, ◌≤◌, List, length, slice_index, Bool, ◌==◌, if◌then◌else◌}
use Rattle.jxlm_bits.specs.declared.bits.Bitstream.{Bitstream}

-- the bytes of the input
abbrev pub bytes_of : Bitstream → List ℕ
bytes_of b = b.bytes.now

-- the bit position of the reader
abbrev pub position_of : Bitstream → ℕ
position_of b = 8 * b.byte + b.bit

-- bit i of the input: bit i mod 8, least significant first, of byte i div 8
abbrev pub bit_at : List ℕ → ℕ → ℕ
bit_at bytes i = slice_index bytes (i / 8) / 2 ^ (i % 8) % 2

-- n bits from position p on as a number, the first the least significant: the sum of bit (p + j) * 2 ^ j for j below n
abbrev pub bits_at : List ℕ → ℕ → ℕ → ℕ
bits_at bytes p zero = 0
bits_at bytes p (suc n) = bits_at bytes p n + bit_at bytes (p + n) * 2 ^ n

-- Numbers of n bits each were read one after another: as many as the list holds, or as are whole before the end. The
-- rest of the list is as it was.
pub record ReadsNumbers (n : ℕ) (old new : List ℕ) (before after : Bitstream) (count : ℕ) : Type 0 where
  pub inside : count ≤ length old
  pub long : length new ≡ length old
  pub values : (k : ℕ) → k < count → slice_index new k ≡ bits_at (bytes_of before) (position_of before + n * k) n
  pub rest : (k : ℕ) → count ≤ k → slice_index new k ≡ slice_index old k
  pub fit : position_of before + n * count ≤ 8 * length (bytes_of before)
  pub ended : count < length old → 8 * length (bytes_of before) < position_of before + n * (count + 1)
  pub position : position_of after ≡ position_of before + n * count
  pub bytes : bytes_of after ≡ bytes_of before

-- the bits of a number that comes after a bit: as many as that bit asks for
abbrev pub width_after : ℕ → ℕ → List ℕ → ℕ → ℕ
width_after zero_width one_width bytes p = if bits_at bytes p 1 == 1 then one_width else zero_width

-- at position p this bit and this number were read, up to position q
pub record IsEither (zero_width one_width : ℕ) (bytes : List ℕ) (p : ℕ) (bit : Bool) (number q : ℕ) : Type 0 where
  pub bit_is : bit ≡ (bits_at bytes p 1 == 1)
  pub number_is : number ≡ bits_at bytes (p + 1) (width_after zero_width one_width bytes p)
  pub position : q ≡ p + 1 + width_after zero_width one_width bytes p
  pub fit : q ≤ 8 * length bytes

-- the input ends before they do
abbrev pub EndsEither : ℕ → ℕ → List ℕ → ℕ → Type 0
EndsEither zero_width one_width bytes p = 8 * length bytes < p + 1 + width_after zero_width one_width bytes p
