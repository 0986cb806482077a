-- The slots of each symbol of a distribution, and the bits of a symbol (ISO/IEC 18181-1, entropy decoding: ANS symbol
-- decoding, alias mapping, from a stream's end to its beginning).
use Rattle.std.specs.Prelude.{◌≡◌, ℕ, ◌+◌, ◌*◌, ◌/◌, ◌%◌, ◌^◌, ◌<◌, ◌≤◌, List, length, slice_index, Ok}
use Rattle.jxlm_bit_writer.specs.Written.{digits, HasBits}
use Rattle.jxl_coding_codes.specs.Alias.{buckets_of}
use Rattle.jxl_coding_codes.specs.Ans.{after_slot, refilled_at}
use Rattle.jxl_coding_codes.specs.Distributions.{whole}
use Rattle.jxl_coding_codes.specs.Slots.{slot_at}
use Rattle.jxl_coding_codes.specs.declared.ans.Bucket.{Bucket}

-- the slot of a symbol and a number below its count
pub record IsPlaceOf (counts : List ℕ) (log symbol number place : ℕ) : Type 0 where
  pub below : place < whole
  pub stands : slot_at (buckets_of counts log) (whole / 2 ^ log) place ≡ record { symbol = symbol; number = number; count = slice_index counts symbol }

-- these slots, ordered by symbol and number, are those of each symbol and each number below its count
abbrev pub HavePlaces : List ℕ → ℕ → List ℕ → List ℕ → Type 0
HavePlaces counts log starts places =
    (symbol number : ℕ) → number < slice_index counts symbol → IsPlaceOf counts log symbol number (slice_index places (slice_index starts symbol + number))

-- each symbol has a first slot, and none of its slots is past the list
pub record AreWithin (counts starts places : List ℕ) : Type 0 where
  pub many : length starts ≡ length counts
  pub each : (symbol number : ℕ) → number < slice_index counts symbol → slice_index starts symbol + number < length places

-- Before a symbol with this many slots, a state keeps its bits if it is small enough, and gives away its last 16 otherwise.
pub record IsReduced (many state reduced count value : ℕ) : Type 0 where
  pub keeps : state < many * 2 ^ 20 → (reduced ≡ state) × (count ≡ 0) × (value ≡ 0)
  pub gives : many * 2 ^ 20 ≤ state → (reduced ≡ state / 65536) × (count ≡ 16) × (value ≡ state % 65536)

-- From the state before, the decoder reads this symbol by these buckets, takes the bits that follow, and is in the state after.
pub record Leads (buckets : List Bucket) (bucket_size symbol before after count value : ℕ) : Type 0 where
  pub least : 2 ^ 16 ≤ before
  pub below : before < 2 ^ 32
  pub reads : (bytes : List ℕ) (p : ℕ) → HasBits bytes p (digits count value) →
      refilled_at (slot_at buckets bucket_size (before % 4096)).symbol (after_slot (slot_at buckets bucket_size (before % 4096)) before) bytes p
      ≡ Ok (record { symbol = symbol; ans_state = after; position = p + count })
