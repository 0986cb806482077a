-- The slots of a distribution without the steps that fill its buckets: one for each symbol and number below its count
-- (ISO/IEC 18181-1, entropy decoding: alias mapping).
use Rattle.std.specs.Prelude.{◌≡◌, ℕ, ◌<◌, List, slice_index}
use Rattle.jxl_coding_codes.specs.Ans.{Slot, slot_of}
use Rattle.jxl_coding_codes.specs.Distributions.{whole}
use Rattle.jxl_coding_codes.specs.declared.ans.Bucket.{Bucket}

-- what a slot of these buckets stands for
abbrev pub slot_at : List Bucket → ℕ → ℕ → Slot
slot_at buckets bucket_size slot = slot_of buckets 0 bucket_size slot

-- The slots are as many as the pairs of a symbol and a number below its count, one for each pair: what a slot stands for
-- is such a pair, no two slots stand for the same, and each pair has a slot.
pub record AreSlotsOf (counts : List ℕ) (buckets : List Bucket) (bucket_size : ℕ) : Type 0 where
  pub within : (slot : ℕ) → slot < whole →
      ((slot_at buckets bucket_size slot).number < (slot_at buckets bucket_size slot).count)
      × ((slot_at buckets bucket_size slot).count ≡ slice_index counts (slot_at buckets bucket_size slot).symbol)
  pub once : (a b : ℕ) → a < whole → b < whole → slot_at buckets bucket_size a ≡ slot_at buckets bucket_size b → a ≡ b
  pub all : (symbol number : ℕ) → number < slice_index counts symbol →
      (slot : ℕ) × ((slot < whole) × (slot_at buckets bucket_size slot ≡ record { symbol = symbol; number = number; count = slice_index counts symbol }))
