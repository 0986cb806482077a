-- The parts of a stream that encodes a profile.
use Rattle.std.specs.Prelude.{◌≡◌, ℕ, zero, suc, ◌+◌, ◌-◌, ◌/◌, ◌%◌, ◌<◌, ◌≤◌, List, [], ◌∷◌, length, take, slice_index, nat_lt, nat_le, if◌then◌else◌}
use Rattle.jxl_icc.specs.Header.{predicted}

-- the bytes of a number, at most this many and one: seven bits in each, the least significant first
unfoldable pub number_bytes : ℕ → ℕ → List ℕ
number_bytes zero v = v ∷ []
number_bytes (suc more) v = if nat_lt v 128 then v ∷ [] else (128 + v % 128) ∷ number_bytes more (v / 128)

-- the commands of a profile of this size: no tag list, and all bytes after the header as they are
abbrev pub literal_commands : ℕ → List ℕ
literal_commands size = if nat_le size 128 then [] else 0 ∷ 1 ∷ number_bytes 4 (size - 128)

-- each of these bytes, and what is predicted for it, is that of the profile, modulo 256
pub record AreResiduals (icc residuals : List ℕ) : Type 0 where
  pub short : length residuals ≤ length icc
  pub each : (i : ℕ) → i < length residuals → (slice_index residuals i + predicted (length icc) (take i icc) i) % 256 ≡ slice_index icc i
