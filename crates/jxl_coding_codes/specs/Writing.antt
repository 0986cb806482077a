-- How a symbol is written from a state of ANS, so that reading it gives the state back (ISO/IEC 18181-1, entropy decoding:
-- ANS symbol decoding, from its end to its beginning).
use Rattle.std.specs.Prelude.{◌≡◌, ℕ, ◌+◌, ◌*◌, ◌/◌, ◌%◌, ◌^◌, ◌<◌, ◌≤◌, List, Bool, true, if◌then◌else◌, nat_le, Ok}
use Rattle.jxl_coding_codes.specs.Ans.{Slot}
use Rattle.jxl_coding_codes.specs.Fields.{number_at}

-- a state too large to write a slot's symbol from, before its last 16 bits are written
abbrev pub is_large : Slot → ℕ → Bool
is_large slot state = nat_le (slot.count * 2 ^ 20) state

-- the state without those
abbrev pub reduced_state : Slot → ℕ → ℕ
reduced_state slot state = if is_large slot state then state / 2 ^ 16 else state

-- the state once the symbol is written, by its slot at a place
abbrev pub written_state : Slot → ℕ → ℕ → ℕ
written_state slot place state = reduced_state slot state / slot.count * 4096 + place

-- From a state of a stream a symbol is written by this slot: that of its number which the state tells.
pub record IsSlotFor (slot : Slot) (place state : ℕ) : Type 0 where
  pub some : 0 < slot.count
  pub most : slot.count ≤ 4096
  pub least : 2 ^ 16 ≤ state
  pub below : state < 2 ^ 32
  pub place_below : place < 4096
  pub number_is : slot.number ≡ reduced_state slot state % slot.count

-- the 16 bits that were written stand at a position, if any were
abbrev pub WordStands : Slot → ℕ → List ℕ → ℕ → Type 0
WordStands slot state bytes p = is_large slot state ≡ true → number_at bytes p 16 ≡ Ok (record { value = state % 2 ^ 16; position = p + 16 })
