-- Symbols by a state of asymmetric numeral systems: what the 4096 slots of a distribution stand for, and the state
-- after a symbol (ISO/IEC 18181-1, entropy decoding: ANS symbol decoding, alias mapping).
use Rattle.std.specs.Prelude.{◌≡◌, ℕ, ◌+◌, ◌-◌, ◌*◌, ◌/◌, ◌%◌, ◌^◌, List, if◌then◌else◌, nat_lt, Result, Ok, Err, slice_index_or}
use Rattle.jxlm_bits.specs.ErrorKind.{◌>>=◌}
use Rattle.jxlm_bits.specs.declared.decoder.DecoderError.{DecoderError}
use Rattle.jxl_coding_codes.specs.Fields.{number_at}
use Rattle.jxl_coding_codes.specs.declared.ans.Bucket.{Bucket}
use Rattle.jxl_coding_codes.specs.declared.ans.Slot as declared

-- what one of the 4096 numbers stands for: a symbol, the slot's number among those of the symbol, and how many these are
pub record Slot : Type 0 where
  pub symbol : ℕ
  pub number : ℕ
  pub count : ℕ

-- the bucket at a place
abbrev pub bucket_of : List Bucket → ℕ → Bucket
bucket_of buckets place = slice_index_or buckets place (record { cutoff = 0; alias_symbol = 0; alias_offset = 0; count = 0; alias_count = 1 })

-- what a place in bucket i stands for
abbrev pub slot_in : Bucket → ℕ → ℕ → Slot
slot_in bucket i place =
    if nat_lt place bucket.cutoff then record { symbol = i; number = place; count = bucket.count }
    else record { symbol = bucket.alias_symbol; number = (bucket.alias_offset + (place - bucket.cutoff)) % 2 ^ 32; count = bucket.alias_count }

-- what a slot stands for, by the buckets from a place on, each of this number of slots
abbrev pub slot_of : List Bucket → ℕ → ℕ → ℕ → Slot
slot_of buckets start bucket_size slot = slot_in (bucket_of buckets ((start + slot / bucket_size) % 2 ^ 32)) (slot / bucket_size) (slot % bucket_size)

-- a symbol, and the ANS state and the position after it
pub record Symbol : Type 0 where
  pub symbol : ℕ
  pub ans_state : ℕ
  pub position : ℕ

-- A state below 2 to the 16 is refilled by 16 bits.
abbrev pub refilled_at : ℕ → ℕ → List ℕ → ℕ → Result Symbol DecoderError
refilled_at symbol ans_state bytes p =
    if nat_lt ans_state (2 ^ 16) then (do
      more ← number_at bytes p 16
      Ok (record { symbol = symbol; ans_state = ans_state * 2 ^ 16 + more.value; position = more.position }))
    else Ok (record { symbol = symbol; ans_state = ans_state; position = p })

-- the state after a slot's symbol
abbrev pub after_slot : Slot → ℕ → ℕ
after_slot slot ans_state = (slot.count * (ans_state / 4096) % 2 ^ 32 + slot.number) % 2 ^ 32

-- a slot, as contracts see it
abbrev pub slot_seen : declared.Slot → Slot
slot_seen s = record { symbol = s.symbol; number = s.number; count = s.count }

-- the state was refilled, and the reader left at q; an error is the meaning's
abbrev pub RefillGives : Result ℕ DecoderError → ℕ → ℕ → Result Symbol DecoderError → Type 0
RefillGives (Ok state) symbol q meaning = meaning ≡ Ok (record { symbol = symbol; ans_state = state; position = q })
RefillGives (Err e) symbol q meaning = meaning ≡ Err e
