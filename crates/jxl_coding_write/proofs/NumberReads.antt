-- Numbers that were written are read.
use Rattle.std.proofs.Common.{◌≡◌, ℕ, ◌+◌, ◌*◌, ◌^◌, ◌<◌, List, length, Ok, refl, arith}
use Rattle.std.proofs.lemmas.Bool.{le-ltb}
use Rattle.std.proofs.Math.Nat.{mod-eq_of_lt}
use Rattle.jxlm_bit_writer.specs.Written.{digits, HasBits}
use Rattle.jxlm_bit_writer.proofs.BitLists.{length-digits, number_stands}
use Rattle.jxl_coding_codes.specs.Fields.{number_at}

pub number_read : (bytes : List ℕ) (p n v : ℕ) → v < 2 ^ n → HasBits bytes p (digits n v) → number_at bytes p n ≡ Ok (record { value = v; position = p + n })
unfolding number_at
number_read bytes p n v small h =
    let l = length-digits n v in
    let i = h.inside in
    rw (le-ltb (8 * length bytes) (p + n) (omega (arith, l, i)), number_stands bytes p n v h, mod-eq_of_lt small) refl
