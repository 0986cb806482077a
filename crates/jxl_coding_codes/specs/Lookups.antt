-- Tables of codewords: what an entry tells of the bits that come next.
use Rattle.std.specs.Prelude.{◌≡◌, ℕ, ◌+◌, ◌*◌, ◌%◌, ◌^◌, ◌<◌, ◌≤◌, List, length, Ok, slice_index_or}
use Rattle.jxlm_bits.specs.Bits.{bits_at}
use Rattle.jxl_coding_codes.specs.PrefixCodes.{codeword_at}
use Rattle.jxl_coding_codes.specs.declared.lookup.Entry.{Entry}
use Rattle.jxl_coding_codes.specs.declared.lookup.Lookup.{Lookup}

-- an entry that tells nothing
abbrev pub empty_entry : Entry
empty_entry = record { symbol = 0; length = 0 }

-- The entry of a number tells a codeword: where as many bits as that has are the last bits of the number, its symbol is
-- read.
abbrev pub Tells : List ℕ → List ℕ → ℕ → ℕ → Entry → Type 0
Tells counts symbols start number entry =
    0 < entry.length → (bytes : List ℕ) (p : ℕ) → p + entry.length ≤ 8 * length bytes →
    bits_at bytes p entry.length ≡ number % 2 ^ entry.length →
    codeword_at counts symbols 0 start bytes p ≡ Ok (record { value = entry.symbol; position = p + entry.length })

-- each entry of a list tells a codeword of its place, or nothing
abbrev pub AllTell : List ℕ → List ℕ → ℕ → List Entry → Type 0
AllTell counts symbols start entries =
    (number : ℕ) (none : Entry) → number < length entries →
    Tells counts symbols start number (slice_index_or entries number none)

-- a table of these codewords
abbrev pub IsLookupOf : List ℕ → List ℕ → ℕ → Lookup → Type 0
IsLookupOf counts symbols start lookup = AllTell counts symbols start lookup.entries.items
