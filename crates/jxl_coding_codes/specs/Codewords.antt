-- Codewords of prefix codes as bits, without the walk that reads them (ISO/IEC 18181-1, entropy decoding: prefix codes;
-- RFC 7932, section 3.2: use of prefix codes).
use Rattle.std.specs.Prelude.{◌≡◌, ℕ, zero, suc, ◌+◌, ◌*◌, ◌^◌, ◌<◌, ◌≤◌, ◌⊎◌, List, length, sum, map, slice_index}
use Rattle.jxlm_bits.specs.Bits.{bit_at}
use Rattle.jxl_coding_codes.specs.PrefixCodes.{Prefix, of_length, all_of_length, prefix_of, single_code, share}

-- how many codewords have a length; 0 is none
abbrev pub codewords_of : List ℕ → ℕ → ℕ
codewords_of lengths zero = 0
codewords_of lengths (suc l) = length (all_of_length (suc l) lengths)

-- The first codeword of a length, as a number: that after the last codeword one bit shorter, with a bit 0 after it.
abbrev pub first_codeword : List ℕ → ℕ → ℕ
first_codeword lengths zero = 0
first_codeword lengths (suc l) = 2 * (first_codeword lengths l + codewords_of lengths l)

-- The codeword of a symbol, as a number: codewords of a length are in the order of their symbols.
abbrev pub codeword_of : List ℕ → ℕ → ℕ
codeword_of lengths symbol =
    first_codeword lengths (slice_index lengths symbol) + length (of_length (slice_index lengths symbol) lengths symbol)

-- a symbol has a codeword, of 1 to 15 bits
abbrev pub HasCodeword : List ℕ → ℕ → Type 0
HasCodeword lengths symbol = (symbol < length lengths) × (0 < slice_index lengths symbol) × (slice_index lengths symbol ≤ 15)

-- n bits from position p on as a number, the first the most significant
abbrev pub leading_bits_at : List ℕ → ℕ → ℕ → ℕ
leading_bits_at bytes p zero = 0
leading_bits_at bytes p (suc n) = 2 * leading_bits_at bytes p n + bit_at bytes (p + n)

-- the codeword of a symbol stands at a position
abbrev pub StandsAt : List ℕ → ℕ → List ℕ → ℕ → Type 0
StandsAt lengths symbol bytes p =
    (p + slice_index lengths symbol ≤ 8 * length bytes) × (leading_bits_at bytes p (slice_index lengths symbol) ≡ codeword_of lengths symbol)

-- The codewords of these lengths leave no room: of 2^15 shares a codeword of length l takes 2^(15 - l).
abbrev pub IsFull : List ℕ → Type 0
IsFull lengths = sum (map (share (2 ^ 15)) lengths) ≡ 2 ^ 15

-- A code of one symbol, which takes no bits, or one whose codewords leave no room.
abbrev pub LeavesNoRoom : Prefix → Type 0
LeavesNoRoom code = ((symbol : ℕ) × (code ≡ single_code symbol)) ⊎ ((lengths : List ℕ) × ((code ≡ prefix_of lengths) × IsFull lengths))
