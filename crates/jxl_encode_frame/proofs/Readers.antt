-- Readers of bytes, as values.
use Rattle.std.proofs.Common.{◌≡◌, ℕ, ◌*◌, ◌/◌, ◌%◌, ◌≤◌, List, length, arith}
use Rattle.std.proofs.lemmas.Nat.{div-add-mod'}
use Rattle.jxlm_bits.specs.Bits.{position_of}
use Rattle.jxlm_bits.specs.declared.bits.Bitstream.{Bitstream}

-- a reader of these bytes at bit p
abbrev pub reader : (bytes : List ℕ) (p : ℕ) → p ≤ 8 * length bytes → Bitstream
reader bytes p le = record {
  bytes = record { ref_ptr = (0, 0); now = bytes };
  byte = p / 8;
  bit = p % 8;
  in_byte = omega arith;
  within = let d = div-add-mod' p 8 in omega (arith, d, le);
}

-- and at their start
abbrev pub at_start : List ℕ → Bitstream
at_start bytes = record { bytes = record { ref_ptr = (0, 0); now = bytes }; byte = 0; bit = 0; in_byte = omega arith; within = omega arith }

pub place_is : (bytes : List ℕ) (p : ℕ) (le : p ≤ 8 * length bytes) → position_of (reader bytes p le) ≡ p
place_is bytes p le = let d = div-add-mod' p 8 in omega (arith, d)
